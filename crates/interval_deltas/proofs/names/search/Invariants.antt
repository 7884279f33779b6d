use Rattle.std.proofs.Common.{◌-◌}
use Rattle.interval_deltas.proofs.Entries.{IsHalved}
use Rattle.interval_deltas.proofs.names.search.Given as goal

abbrev pub invariant-loop-low : goal.invariant-loop-low
invariant-loop-low l = IsHalved l.entries.items l.id l.low l.high

abbrev pub decreases-loop-low : goal.decreases-loop-low
decreases-loop-low l = l.high - l.low
