use Rattle.std.proofs.Common.{sym, subst}
use Rattle.mark_rules.specs.Marks.{Rises}
use Rattle.line_hunks.proofs.Appending.{Rises-new}
use Rattle.line_hunks.proofs.hunks.Hunks.all_new.Goals as goal

pub invariant_of-result : goal.invariant_of-result
invariant_of-result c = (c.all_new.ensures.whole, subst Rises (sym c.all_new.ensures.marks) (Rises-new c.args.lines))
