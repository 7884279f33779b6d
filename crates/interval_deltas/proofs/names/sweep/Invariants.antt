use Rattle.std.proofs.Common.{◌≡◌, ◌≤◌, length, take}
use Rattle.std.specs.List.{filter}
use Rattle.interval_deltas.specs.Names.{is_named}
use Rattle.interval_deltas.proofs.names.sweep.Given as goal

abbrev pub invariant-loop-entries : goal.invariant-loop-entries
invariant-loop-entries l =
    (take l.kept l.entries.items ≡ filter is_named l.fn.entries.items) × (l.kept ≤ length l.entries.items) × (l.entries.capacity ≡ l.fn.entries.capacity)

abbrev pub decreases-loop-entries : goal.decreases-loop-entries
decreases-loop-entries l = length l.entries.items
