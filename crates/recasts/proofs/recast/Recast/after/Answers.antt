use Rattle.std.proofs.Common.{subst}
use Rattle.unit_text.specs.Kinds.{IsOfKind}
use Rattle.decoration_rules.specs.LineMoves.{HaveSameContents}
use Rattle.decoration_rules.specs.Recasts.{RecastState}
use Rattle.decoration_rules.proofs.Recasts.{same_contents, after_of_kind, lines_on}
use Rattle.recasts.proofs.recast.Recast.after.Goals as goal

pub returns-clause-contents : goal.returns-clause-contents
returns-clause-contents c =
    subst (λ (r : RecastState). HaveSameContents r.before r.after) c.self.view_is
    (same_contents c.self.inside.before c.self.inside.after c.self.invariant)

pub returns-clause-endings : goal.returns-clause-endings
returns-clause-endings c =
    subst (λ (r : RecastState). IsOfKind r.to r.after) c.self.view_is (after_of_kind c.self.inside.before c.self.inside.after c.self.invariant)

pub returns-clause-lines : goal.returns-clause-lines
returns-clause-lines c = lines_on c.self.inside.before c.self.inside.after c.self.invariant
