-- Application of the shifts in a subtree in memory, from its root down.
use Rattle.std.proofs.Common.{◌≡◌, ℕ, ◌-◌, Bool, ◌∷◌, Option, Some, refl, sym, ◌∙◌, subst, arith}
use Rattle.std.specs.Ordering.{nat_cmp}
use Rattle.std.specs.FinMap as map
use Rattle.rb_rules.specs.declared.slot.Data.{Data}
use Rattle.rb_rules.specs.declared.slot.Side.TheVariants.{Left, Right}
use Rattle.rb_rules.specs.declared.slot.Slot.{Slot}
use Rattle.rb_rules.specs.Tree.{Tree, fork, Hole, on, plug, root_of}
use Rattle.rb_rules.specs.Memory.{Made, Spot}
use Rattle.rb_rules.specs.Weaving.{Weaving, Lawful, Sums, HeldItem, HeldSum, HeldBy}
use Rattle.rb_rules.specs.Woven.{entries, Valued}
use Rattle.rb_rules.specs.Shifts.{level_datum, levelled}
use Rattle.rb_rules.proofs.Held.{held, valued_left, valued_right, valued_tail}
use Rattle.rb_rules.proofs.Live.{forks}
use Rattle.rb_rules.proofs.Weaves.{near_of}
use Rattle.rb_arena.specs.Shifting.{CanLevel}

module _ {X S B : Type 0} (w : Weaving X S B) (L : Lawful w) (is_near : B → Type 0) (is_item : X → Type 0) (is_sum is_value : S → Type 0)
    (sums : Sums w is_item is_sum) (parts : (a b : S) → is_value (w.join a b) → is_value a × is_value b) (starts_near : is_near w.still)
    (beside : Tree (Data X S B)) (m : map.FinMap nat_cmp (Slot (Data X S B))) (root : Option ℕ) (i : ℕ) (acc : B) (n : ℕ) (k : Hole (Data X S B)) where
  -- the root of a tree whose shifts may be applied
  pub record Topmost (t : Tree (Data X S B)) : Type 0 where
    pub red : Bool
    pub datum : Data X S B
    pub left : Tree (Data X S B)
    pub right : Tree (Data X S B)
    pub is : t ≡ fork red i datum left right
    pub can : CanLevel w is_near is_item is_value beside m root (Some i) acc n k (fork red i datum left right)

  pub topmost : (t : Tree (Data X S B)) → CanLevel w is_near is_item is_value beside m root (Some i) acc n k t → Topmost t
  topmost t h =
      let (c, (d, x, y, is)) = forks t i (sym h.1) in
      record { red = c; datum = d; left = x; right = y; is = is; can = subst (CanLevel w is_near is_item is_value beside m root (Some i) acc n k) is h }

module _ {X S B : Type 0} {w : Weaving X S B} {L : Lawful w} {is_near : B → Type 0} {is_item : X → Type 0} {is_sum is_value : S → Type 0}
    {sums : Sums w is_item is_sum} {parts : (a b : S) → is_value (w.join a b) → is_value a × is_value b} {starts_near : is_near w.still}
    {beside : Tree (Data X S B)} {m : map.FinMap nat_cmp (Slot (Data X S B))} {root : Option ℕ} {i : ℕ} {acc : B} {n : ℕ} {k : Hole (Data X S B)} {t : Tree (Data X S B)}
    (z : Topmost w L is_near is_item is_sum is_value sums parts starts_near beside m root i acc n k t) where
  abbrev pub spot : Spot (Data X S B)
  spot = record { beside = beside; hole = k; red = z.red; datum = z.datum; left = z.left; right = z.right }

  -- its item, and those of its right subtree
  pub own : Valued w is_item is_value ((i, w.shift acc z.datum.item) ∷ entries w (w.plus acc z.datum.delta) z.right)
  own = valued_right w L is_near is_item is_sum is_value sums parts (entries w acc z.left) ((i, w.shift acc z.datum.item) ∷ entries w (w.plus acc z.datum.delta) z.right) z.can.3

  pub left_values : Valued w is_item is_value (entries w acc z.left)
  left_values = valued_left w L is_near is_item is_sum is_value sums parts (entries w acc z.left) ((i, w.shift acc z.datum.item) ∷ entries w (w.plus acc z.datum.delta) z.right) z.can.3

  -- its numbers are relative forms of values
  pub held_item : HeldItem w is_near is_item (w.shift acc z.datum.item)
  held_item = (w.still, starts_near, rw L.shift_still own.0.0)

  pub held_before : HeldSum w is_near is_sum is_value (w.shift_sum acc z.datum.before)
  held_before = held w L is_near is_item is_sum is_value sums parts w.still (w.shift_sum acc z.datum.before) (entries w acc z.left) starts_near (L.shift_sum_still (w.shift_sum acc z.datum.before) ∙ z.can.2.0) left_values

  pub held_whole : HeldSum w is_near is_sum is_value (w.shift_sum acc z.datum.whole)
  held_whole =
      held w L is_near is_item is_sum is_value sums parts w.still (w.shift_sum acc z.datum.whole) (entries w acc (fork z.red i z.datum z.left z.right)) starts_near
      (L.shift_sum_still (w.shift_sum acc z.datum.whole) ∙ z.can.2.1) z.can.3

  pub held_right : HeldBy w is_near (w.plus acc z.datum.delta)
  held_right =
      let still_plus = L.plus_comm w.still (w.plus acc z.datum.delta) ∙ L.plus_still (w.plus acc z.datum.delta) in
      (w.still, starts_near, rw still_plus (near_of w L is_near (w.plus acc z.datum.delta) z.right z.can.2.3))

  abbrev pub on_left : Hole (Data X S B)
  on_left = on Left z.red i (level_datum w acc z.datum) z.right k

  abbrev pub on_right : Hole (Data X S B)
  on_right = on Right z.red i (level_datum w acc z.datum) (levelled w acc z.left) k

  -- once the shifts are applied at the node, they may be applied in its left subtree and then in the right one
  module _ {m2 : map.FinMap nat_cmp (Slot (Data X S B))} {root2 : Option ℕ} where
    pub left_next : Made beside m2 root2 (plug on_left z.left) → CanLevel w is_near is_item is_value beside m2 root2 (root_of z.left) acc (n - 1) on_left z.left
    left_next made = let le = z.can.4 in (made, refl, z.can.2.2, left_values, omega (arith, le))

    pub right_next : Made beside m2 root2 (plug on_right z.right) → CanLevel w is_near is_item is_value beside m2 root2 (root_of z.right) (w.plus acc z.datum.delta) (n - 1) on_right z.right
    right_next made =
        let le = z.can.4 in
        (made, refl, z.can.2.3, valued_tail w L is_near is_item is_sum is_value sums parts (i, w.shift acc z.datum.item) (entries w (w.plus acc z.datum.delta) z.right) own, omega (arith, le))
