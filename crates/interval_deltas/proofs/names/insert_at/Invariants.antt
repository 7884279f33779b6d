use Rattle.std.proofs.Common.{◌≡◌, ◌++◌, ◌∷◌, length, take, drop}
use Rattle.std.specs.List.{insert}
use Rattle.interval_deltas.proofs.names.insert_at.Given as goal

abbrev pub invariant-loop-place : goal.invariant-loop-place
invariant-loop-place l =
    (take l.place l.entries.items ++ l.moved ∷ drop l.place l.entries.items ≡ insert l.fn.entries.items l.fn.at l.fn.entry)
    × (length l.entries.items ≡ length l.fn.entries.items) × (l.entries.capacity ≡ l.fn.entries.capacity)
