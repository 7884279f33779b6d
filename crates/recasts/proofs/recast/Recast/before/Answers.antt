use Rattle.std.proofs.Common.{sym, subst}
use Rattle.decoration_rules.specs.LineMoves.{HaveSameContents}
use Rattle.decoration_rules.specs.Recasts.{RecastState}
use Rattle.decoration_rules.proofs.Recasts.{same_contents, lines_back}
use Rattle.recasts.proofs.recast.Recast.before.Goals as goal

pub returns-clause-contents : goal.returns-clause-contents
returns-clause-contents c =
    subst (λ (r : RecastState). HaveSameContents r.after r.before) c.self.view_is
    (sym (same_contents c.self.inside.before c.self.inside.after c.self.invariant))

pub returns-clause-lines : goal.returns-clause-lines
returns-clause-lines c = lines_back c.self.inside.before c.self.inside.after c.self.invariant
