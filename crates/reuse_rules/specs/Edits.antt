-- Replacement of lines by others.
use Rattle.std.specs.Prelude.{◌≡◌, ℕ, ◌+◌, ◌-◌, ◌≤◌, List, length, take, drop}

-- the `old` lines from line `first` on were replaced by `new` other lines; all other lines are unchanged
pub record IsEdited {X : Type 0} (first old new : ℕ) (before after : List X) : Type 0 where
  pub first_is : 1 ≤ first
  pub some : 1 ≤ old
  pub more : 1 ≤ new
  pub within : first - 1 + old ≤ length before
  pub there : first - 1 + new ≤ length after
  pub front : take (first - 1) after ≡ take (first - 1) before
  pub rest : drop (first - 1 + new) after ≡ drop (first - 1 + old) before
