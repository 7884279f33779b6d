use Rattle.std.proofs.Common.{◌≡◌, drop}
use Rattle.hiding_rules.specs.Marks.{differ}
use Rattle.hiding_marks.proofs.rules.differ.Given as goal

abbrev pub invariant-loop-i : goal.invariant-loop-i
invariant-loop-i l = differ (drop l.i l.quotes) ≡ differ l.quotes
