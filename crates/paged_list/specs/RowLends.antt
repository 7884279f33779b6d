-- The state of a row of slots after a `&mut` into it has ended.
use Rattle.std.specs.Prelude.{ℕ, List, slice_set, Option, Some}
use Rattle.std.specs.Borrow.{Fml, RattleType, MutBor, Lends}
use Rattle.paged_list.specs.contracts.slots.Slots.{the_row}

-- the slot holds the last value written through r
abbrev pub row_lends : (R : RattleType) → MutBor (List (Option R.Denot)) → ℕ → MutBor R.Denot → Fml
row_lends R slots i r = Lends (the_row R) R slots r (λ w. slice_set slots.now i (Some w))
