-- The state of a list in pages after a `&mut` to an item has ended.
use Rattle.std.specs.Prelude.{ℕ, slice_set}
use Rattle.std.specs.Borrow.{Fml, RattleType, MutBor, Lends}
use Rattle.paged_list.specs.List.{Paged, paged}
use Rattle.paged_list.specs.contracts.list.PagedList.{the_row}

-- the item is the last value written through r
abbrev pub lends_item : (R : RattleType) → MutBor (Paged R.Denot) → ℕ → MutBor R.Denot → Fml
lends_item R list i r = Lends (the_row R) R list r (λ w. paged (slice_set list.now.items i w) list.now.capacity)
