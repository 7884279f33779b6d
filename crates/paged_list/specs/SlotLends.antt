-- The state of a block after a `&mut` into it has ended.
use Rattle.std.specs.Prelude.{ℕ, slice_set, Some}
use Rattle.std.specs.Borrow.{Fml, RattleType, MutBor, Lends}
use Rattle.paged_list.specs.declared.block.Block.{Block}
use Rattle.paged_list.specs.contracts.block.Block.{the_row}
use Rattle.std.specs.declared.alloc.Allocator.{Ghosts}

module _ {X Z : Type 0} where
  abbrev pub with_value : Block X Z → ℕ → X → Block X Z
  with_value b i x = record b { holds = slice_set b.holds i (Some x) }

-- the slot holds the last value written through r
abbrev pub lends_slot : (R Z : RattleType) (g : Ghosts Z.Denot) → MutBor (Block R.Denot Z.Denot) → ℕ → MutBor R.Denot → Fml
lends_slot R Z g b i r = Lends (the_row R Z g) R b r (with_value b.now i)
