use Rattle.std.proofs.Common.{◌≡◌, ◌∙◌, length, IfSome, ap, sym, subst}
use Rattle.decoration_rules.specs.declared.Deco.{Deco}
use Rattle.decoration_rules.specs.Decorations.{deco_at}
use Rattle.decoration_rules.specs.Moves.{IsSpanIn, LieIn}
use Rattle.document_rules.specs.Document.{flat_deco}
use Rattle.model_core.specs.State.{ModelState}
use Rattle.model_core.proofs.Inside.{deco_inside}
use Rattle.model_core.proofs.model.Model.get_deco.Goals as goal

pub returns-clause-inside : goal.returns-clause-inside
returns-clause-inside c =
    let lie = subst (λ (s : ModelState). LieIn (length s.document.units) s.document.decorations.marks) c.self.view_is c.decorations.ensures.inside.inside in
    let told : c.get.result ≡ flat_deco c.args.self.now.document c.args.id = c.get.ensures ∙ ap (λ d. deco_at d c.args.id) c.decorations.ensures.decorations
    ∙ ap (λ (s : ModelState). flat_deco s.document c.args.id) c.self.view_is in
    subst (λ o. IfSome o (λ (deco : Deco). IsSpanIn deco.span (length c.args.self.now.document.units))) (sym told) (deco_inside c.args.self.now.document lie c.args.id)
