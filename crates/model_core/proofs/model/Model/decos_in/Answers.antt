use Rattle.std.proofs.Common.{length, subst}
use Rattle.decoration_rules.specs.Moves.{LieIn}
use Rattle.model_core.specs.State.{ModelState}
use Rattle.model_core.proofs.Inside.{decos_inside}
use Rattle.model_core.proofs.model.Model.decos_in.Goals as goal

pub returns-clause-inside : goal.returns-clause-inside
returns-clause-inside c =
    decos_inside c.args.self.now.document
    (subst (λ (s : ModelState). LieIn (length s.document.units) s.document.decorations.marks) c.self.view_is c.decorations.ensures.inside.inside)
    c.args.span c.args.owner
