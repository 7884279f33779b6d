-- The state of a page after a `&mut` into it has ended.
use Rattle.std.specs.Prelude.{ℕ, List, slice_set, Option, Some}
use Rattle.std.specs.Borrow.{Fml, RattleType, MutBor, Lends}
use Rattle.paged_list.specs.contracts.page.Page.{the_row}

-- the slot holds the last value written through r
abbrev pub page_lends : (R : RattleType) → MutBor (List (Option R.Denot)) → ℕ → MutBor R.Denot → Fml
page_lends R page i r = Lends (the_row R) R page r (λ w. slice_set page.now i (Some w))
