-- Lines by their index.
use Rattle.std.specs.Prelude.{ℕ, ◌+◌, ◌<◌, ◌≤◌, List, length}
use Rattle.std.specs.List.{AllWithin, HoldsAt}
use Rattle.decoration_rules.specs.declared.LineMove.{LineMove}

-- the line starts at the place or earlier
abbrev pub HasStarted : List LineMove → ℕ → ℕ → Type 0
HasStarted lines place at = (at < length lines) × HoldsAt (λ line. line.old ≤ place) lines at

-- it is the last line that starts at the place or earlier
abbrev pub IsLineAt : List LineMove → ℕ → ℕ → Type 0
IsLineAt lines place at = HasStarted lines place at × AllWithin (λ line. place < line.old) lines (at + 1) (length lines)
