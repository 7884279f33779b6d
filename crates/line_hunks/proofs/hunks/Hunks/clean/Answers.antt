use Rattle.std.proofs.Common.{sym, subst}
use Rattle.mark_rules.specs.Marks.{Rises}
use Rattle.mark_rules.proofs.MarkLaws.{Rises-clean}
use Rattle.line_hunks.proofs.hunks.Hunks.clean.Goals as goal

pub invariant_of-self : goal.invariant_of-self
invariant_of-self c = (c.clean.ensures.whole, subst Rises (sym c.clean.ensures.marks) (Rises-clean c.args.lines))
