-- The tree in a memory: its length, its height and the positions of its items.
use Rattle.std.proofs.Common.{◌≡◌, ℕ, zero, suc, ◌+◌, ◌*◌, ◌^◌, ◌≤◌, ◌<◌, Bool, true, false, ◌∷◌, ◌++◌, length, Option, Some, None, refl, sym, ap, ◌∙◌, arith, append_assoc, inl, inr, lit<, length-append}
use Rattle.std.proofs.Math.Nat.{mul-le-mul, pow-le-pow_right}
use Rattle.std.proofs.lemmas.Bool.{cases_lt, false≢true}
use Rattle.std.proofs.lemmas.Option.{none-some}
use Rattle.std.specs.Ordering.{nat_cmp}
use Rattle.std.specs.FinMap as map
use Rattle.rb_rules.specs.declared.slot.Data.{Data}
use denote.Enum.Bare.{sameb}
use Rattle.rb_rules.specs.contracts.slot.Side.{the_type}
use Rattle.rb_rules.specs.declared.slot.Side.{Side}
use Rattle.rb_rules.specs.declared.slot.Side.TheVariants.{Left, Right}
use Rattle.rb_rules.specs.declared.slot.Slot.{Slot}
use Rattle.rb_rules.specs.Tree.{Tree, tip, fork, Hole, top, on, forked, plug, above, other, root_of, size, height, depth}
use Rattle.rb_rules.specs.Colours.{Balanced}
use Rattle.rb_rules.specs.Memory.{Makes, Spot, here, below}
use Rattle.rb_rules.specs.Weaving.{Weaving}
use Rattle.rb_rules.specs.Woven.{entries, lefts, rights, shift_at}
use Rattle.rb_rules.proofs.Balance.{bound}
use Rattle.rb_arena.specs.RbTree.{grown, first_hole, end_hole, up_on, nearest, neighbour_of}

module _ {D : Type 0} where
  pub grown_is : (m : map.FinMap nat_cmp (Slot D)) (n : ℕ) (p : Option ℕ) (t : Tree D) → Makes m p t → height t ≤ n → grown m n (root_of t) ≡ t
  unfolding grown
  grown_is m zero p tip h le = refl
  grown_is m (suc n) p tip h le = refl
  grown_is m zero p (fork c i d x y) h le = absurd (omega arith)
  grown_is m (suc n) p (fork c i d x y) (e, a, b) le =
      ap (λ o. elim o [ None ↦ tip | Some s ↦ fork s.red i s.«data» (grown m n s.left) (grown m n s.right) ]) e
      ∙ (λ j. fork c i d (grown_is m n (Some i) x a (omega (arith, le)) j) (grown_is m n (Some i) y b (omega (arith, le)) j))

  pub grown_none : (m : map.FinMap nat_cmp (Slot D)) (n : ℕ) → grown m n None ≡ tip
  unfolding grown
  grown_none m zero = refl
  grown_none m (suc n) = refl

  pub height-forked : (s : Side) (c : Bool) (i : ℕ) (d : D) (x y : Tree D) → 1 + height x ≤ height (forked s c i d x y)
  height-forked Left c i d x y = omega arith
  height-forked Right c i d x y = omega arith

  pub depth_height : (k : Hole D) (t : Tree D) → depth k + height t ≤ height (plug k t)
  depth_height top t = omega arith
  depth_height (on s c i d x k) t = let more = depth_height k (forked s c i d t x) in let one = height-forked s c i d t x in omega (arith, more, one)

  pub height_size : (t : Tree D) → height t ≤ size t
  height_size tip = omega arith
  height_size (fork c i d x y) = let l = height_size x in let r = height_size y in omega (arith, l, r)

  -- a balanced tree of fewer than 2 ^ 63 nodes has a height of at most 126
  pub not_high : (t : Tree D) → Balanced t → size t < 2 ^ 63 → height t ≤ 126
  not_high t b lt = elim (cases_lt 126 (height t)) [
    | inl high ↦
        let up : 2 ^ 127 ≤ 2 ^ height t = pow-le-pow_right {n = 2} (lit< tt) {i = 127} {j = height t} (omega (arith, high)) in let top_ = bound t b in
        let square : (size t + 1) * (size t + 1) ≤ (2 ^ 63) * (2 ^ 63) = mul-le-mul {n₁ = size t + 1} {m₁ = size t + 1} {n₂ = 2 ^ 63} {m₂ = 2 ^ 63} (omega (arith, lt)) (omega (arith, lt)) in absurd (omega (arith, up, top_, square))
    | inr low ↦ low
  ]

  pub first-plug : (k : Hole D) (t : Tree D) → plug (first_hole k t) tip ≡ plug k t
  first-plug k tip = refl
  first-plug k (fork c i d x y) = first-plug (on Left c i d y k) x

module _ {X S B : Type 0} (w : Weaving X S B) where
  pub length-entries : (acc : B) (t : Tree (Data X S B)) → length (entries w acc t) ≡ size t
  length-entries acc tip = refl
  length-entries acc (fork c i d x y) =
      let l = length-entries acc x in let r = length-entries (w.plus acc d.delta) y in
      let all = length-append (entries w acc x) ((i, w.shift acc d.item) ∷ entries w (w.plus acc d.delta) y) in omega (arith, l, r, all)

  pub first-lefts : (k : Hole (Data X S B)) (t : Tree (Data X S B)) → lefts w (first_hole k t) ≡ lefts w k
  first-lefts k tip = refl
  first-lefts k (fork c i d x y) = first-lefts (on Left c i d y k) x

  pub first-rights : (k : Hole (Data X S B)) (t : Tree (Data X S B)) → rights w (first_hole k t) ≡ entries w (shift_at w k) t ++ rights w k
  first-rights k tip = refl
  first-rights k (fork c i d x y) = first-rights (on Left c i d y k) x
      ∙ sym (append_assoc (entries w (shift_at w k) x) ((i, w.shift (shift_at w k) d.item) ∷ entries w (w.plus (shift_at w k) d.delta) y) (rights w k))

nearest_some : (o p q : Option ℕ) → (q ≡ None → ⊥) → nearest o p q ≡ p
nearest_some o p None some = absurd (some refl)
nearest_some o p (Some i) some = refl

module _ {D : Type 0} where
  pub no_root : (t : Tree D) → root_of t ≡ None → t ≡ tip
  no_root tip e = refl
  no_root (fork c i d x y) e = absurd (none-some i (sym e))

  pub no_height : (t : Tree D) → height t ≤ 0 → t ≡ tip
  no_height tip le = refl
  no_height (fork c i d x y) le = absurd (omega arith)

  pub hole_depth : (k : Hole D) → depth k ≤ 0 → k ≡ top
  hole_depth top le = refl
  hole_depth (on s c i d x k) le = absurd (omega arith)

  pub end_fork : (s : Side) (k : Hole D) (c : Bool) (i : ℕ) (d : D) (x y : Tree D) → end_hole s k (forked s c i d x y) ≡ end_hole s (on s c i d y k) x
  end_fork Left k c i d x y = refl
  end_fork Right k c i d x y = refl

  pub up_past : (s z : Side) (c : Bool) (i : ℕ) (d : D) (x : Tree D) (k : Hole D) → (z ≡ s → ⊥) → up_on s (on z c i d x k) ≡ up_on s k
  up_past Left Left c i d x k differ = absurd (differ refl)
  up_past Left Right c i d x k differ = refl
  up_past Right Left c i d x k differ = refl
  up_past Right Right c i d x k differ = absurd (differ refl)

  pub forked_here : (s : Side) (sp : Spot D) (i : ℕ) → forked s sp.red i sp.datum (below s sp) (below (other s) sp) ≡ here sp i
  forked_here Left sp i = refl
  forked_here Right sp i = refl

  pub height-below : (s : Side) (sp : Spot D) (i : ℕ) → 1 + height (below s sp) ≤ height (here sp i)
  height-below s sp i = let one = height-forked s sp.red i sp.datum (below s sp) (below (other s) sp) in let same = ap height (forked_here s sp i) in omega (arith, one, same)

  -- the next node on a side without a subtree is an ancestor
  pub neighbour_none : (s : Side) (i : ℕ) (sp : Spot D) → root_of (below s sp) ≡ None → neighbour_of s i sp ≡ up_on (other s) sp.hole
  neighbour_none s i sp none = ap (nearest (up_on (other s) sp.hole) (above (end_hole (other s) (on s sp.red i sp.datum (below (other s) sp) sp.hole) (below s sp)))) none

  pub neighbour_some : (s : Side) (i : ℕ) (sp : Spot D) → (root_of (below s sp) ≡ None → ⊥)
      → neighbour_of s i sp ≡ above (end_hole (other s) (on s sp.red i sp.datum (below (other s) sp) sp.hole) (below s sp))
  neighbour_some s i sp some = nearest_some (up_on (other s) sp.hole) (above (end_hole (other s) (on s sp.red i sp.datum (below (other s) sp) sp.hole) (below s sp))) (root_of (below s sp)) some

pub same_side : (a b : Side) → sameb the_type a b ≡ true → a ≡ b
same_side Left Left e = refl
same_side Left Right e = absurd (false≢true e)
same_side Right Left e = absurd (false≢true e)
same_side Right Right e = refl

pub sides_differ : (a b : Side) → sameb the_type a b ≡ false → a ≡ b → ⊥
sides_differ Left Left e same = false≢true (sym e)
sides_differ Left Right e same = false≢true (ap (sameb the_type Left) (sym same))
sides_differ Right Left e same = false≢true (ap (sameb the_type Right) (sym same))
sides_differ Right Right e same = false≢true (sym e)
