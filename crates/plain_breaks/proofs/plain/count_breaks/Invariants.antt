use Rattle.std.proofs.Common.{◌≤◌}
use Rattle.plain_breaks.proofs.plain.count_breaks.Given as goal

abbrev pub invariant-loop-at : goal.invariant-loop-at
invariant-loop-at l = record { few : l.breaks ≤ l.at }
