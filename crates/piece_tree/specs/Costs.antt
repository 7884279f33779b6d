-- The cost of look-ups of pieces.
use Rattle.std.specs.Prelude.{ℕ, ◌+◌, ◌*◌, ◌≤◌, ◌^◌}

-- `look_ups` look-ups among `pieces` pieces may visit `nodes` nodes: one look-up visits v nodes with 2 ^ v at most (pieces + 1) ^ 2, and
-- each further one multiplies this bound by (pieces + 1) ^ 2 again.
abbrev pub WithinLookUps : ℕ → ℕ → ℕ → Type 0
WithinLookUps look_ups pieces nodes = 2 ^ nodes ≤ (pieces + 1) ^ (2 * look_ups)
