use Rattle.std.proofs.Common.{◌≡◌, drop}
use Rattle.bracket_rules.specs.Table.{texts_of, are_distinct}
use Rattle.bracket_scan.proofs.rules.are_distinct.Given as goal

abbrev pub invariant-loop-i : goal.invariant-loop-i
invariant-loop-i l = are_distinct (texts_of (drop l.i l.pairs)) ≡ are_distinct (texts_of l.pairs)
