-- The items of a tree in order, with the shifts of the path applied, and trees whose nodes keep the right sums.
use Rattle.std.specs.Ordering.{nat_cmp}
use Rattle.std.specs.FinMap as map
use Rattle.rb_rules.specs.declared.slot.Slot.{Slot}
use Rattle.std.specs.Prelude.{Option, Some, None, ◌≡◌, ℕ, List, [], ◌∷◌, ◌++◌}
use Rattle.rb_rules.specs.declared.slot.Data.{Data}
use Rattle.rb_rules.specs.declared.slot.Side.TheVariants.{Left, Right}
use Rattle.rb_rules.specs.Tree.{Tree, tip, fork, Hole, top, on}
use Rattle.rb_rules.specs.Weaving.{Weaving}

module _ {X S B : Type 0} (w : Weaving X S B) where
  -- each item with its name, in order; acc is the sum of the shifts on the path above
  abbrev pub entries : B → Tree (Data X S B) → List (ℕ × X)
  entries acc tip = []
  entries acc (fork c i d x y) = entries acc x ++ (i, w.shift acc d.item) ∷ entries (w.plus acc d.delta) y

  -- the sum of the items, in order
  abbrev pub sum_of : List (ℕ × X) → S
  sum_of [] = w.none
  sum_of (e ∷ es) = w.join (w.one e.1) (sum_of es)

  module _ (is_near : B → Type 0) where
    -- each node keeps the sums of its left subtree and of its whole one, and no shift of a path is too great
    abbrev pub Woven : B → Tree (Data X S B) → Type 0
    Woven acc tip = is_near acc
    Woven acc (fork c i d x y) =
        (w.shift_sum acc d.before ≡ sum_of (entries acc x)) × (w.shift_sum acc d.whole ≡ sum_of (entries acc (fork c i d x y)))
        × Woven acc x × Woven (w.plus acc d.delta) y

  -- the sum that the root keeps
  abbrev pub whole_at : Tree (Data X S B) → S
  whole_at tip = w.none
  whole_at (fork c i d x y) = d.whole

  -- the sum of the shifts on the path to a hole
  abbrev pub shift_at : Hole (Data X S B) → B
  shift_at top = w.still
  shift_at (on Left c i d x k) = shift_at k
  shift_at (on Right c i d x k) = w.plus (shift_at k) d.delta

  -- the items before the hole, and those after it
  abbrev pub lefts : Hole (Data X S B) → List (ℕ × X)
  lefts top = []
  lefts (on Left c i d x k) = lefts k
  lefts (on Right c i d x k) = lefts k ++ (entries (shift_at k) x ++ (i, w.shift (shift_at k) d.item) ∷ [])

  abbrev pub rights : Hole (Data X S B) → List (ℕ × X)
  rights top = []
  rights (on Left c i d x k) = ((i, w.shift (shift_at k) d.item) ∷ entries (w.plus (shift_at k) d.delta) x) ++ rights k
  rights (on Right c i d x k) = rights k

  -- each item is a value, and so is their sum
  abbrev pub AllItems : (X → Type 0) → List (ℕ × X) → Type 0
  AllItems is_item [] = Unit {0}
  AllItems is_item (e ∷ es) = is_item e.1 × AllItems is_item es

  abbrev pub Valued : (X → Type 0) → (S → Type 0) → List (ℕ × X) → Type 0
  Valued is_item is_value es = AllItems is_item es × is_value (sum_of es)

  -- the sum that the root of that name keeps
  abbrev pub whole_in : map.FinMap nat_cmp (Slot (Data X S B)) → Option ℕ → S
  whole_in m None = w.none
  whole_in m (Some i) = elim (map.get m i) [ None ↦ w.none | Some s ↦ s.«data».whole ]
