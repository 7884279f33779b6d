use Rattle.std.proofs.Common.{◌≡◌}
use Rattle.interval_deltas.proofs.Entries.{IsGathered}
use Rattle.interval_deltas.proofs.names.gather.Given as goal

abbrev pub invariant-loop-at : goal.invariant-loop-at
invariant-loop-at l = IsGathered l.fn.entries.items l.entries.items l.kept l.at × (l.entries.capacity ≡ l.fn.entries.capacity)
