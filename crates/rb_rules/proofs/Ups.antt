-- From a node of a tree in memory to the node above it.
use Rattle.std.proofs.Common.{◌≡◌, ℕ, Bool, Option, Some, None, refl, sym, ap, subst}
use Rattle.std.specs.Prelude.{IfSome}
use Rattle.std.specs.Option.{unwrap_or}
use Rattle.std.proofs.lemmas.Option.{none-some}
use Rattle.std.specs.Ordering.{nat_cmp}
use Rattle.std.specs.FinMap as map
use Rattle.rb_rules.specs.declared.slot.Side.{Side}
use Rattle.rb_rules.specs.declared.slot.Side.TheVariants.{Left, Right}
use Rattle.rb_rules.specs.declared.slot.Slot.{Slot}
use Rattle.rb_rules.specs.Tree.{Tree, Hole, top, on, forked, plug, root_of, above}
use Rattle.rb_rules.specs.Memory.{sided, Makes, Made, place_of, Spot, here}
use Rattle.rb_rules.proofs.Memories.{opened}
use Rattle.rb_rules.proofs.Live.{Live, live_root}

module _ {D : Type 0} where
  module _ (beside : Tree D) where
    -- the node that has the subtrees x on that side and y on the other, in the hole k
    unfoldable pub spot_of : Side → Bool → D → Tree D → Tree D → Hole D → Spot D
    spot_of Left c d x y k = record { beside = beside; hole = k; red = c; datum = d; left = x; right = y }
    spot_of Right c d x y k = record { beside = beside; hole = k; red = c; datum = d; left = y; right = x }

    pub spot_hole : (s : Side) (c : Bool) (d : D) (x y : Tree D) (k : Hole D) → (spot_of s c d x y k).hole ≡ k
    unfolding spot_of
    spot_hole Left c d x y k = refl
    spot_hole Right c d x y k = refl

  pub hole_top : (k : Hole D) → place_of k ≡ None → k ≡ top
  hole_top top e = refl
  hole_top (on s c i d x k) e = absurd (none-some (i, s) (sym e))

  pub hole_on : (k : Hole D) (p : ℕ) (s : Side) → place_of k ≡ Some (p, s) → (c : Bool) × ((d : D) × (x : Tree D) × (k2 : Hole D) × (k ≡ on s c p d x k2))
  hole_on top p s e = absurd (none-some (p, s) e)
  hole_on (on s2 c i d x k) p s e =
      let P : ℕ × Side → Type 0 = λ at. (c_ : Bool) × ((d_ : D) × (x_ : Tree D) × (k_ : Hole D) × (on s2 c i d x k ≡ on at.1 c_ at.0 d_ x_ k_)) in
      subst P (ap (λ o. unwrap_or o (i, s2)) e) (c, (d, x, k, refl))

  module _ (m : map.FinMap nat_cmp (Slot D)) (root : Option ℕ) where
    -- the tree is in the memory around a node just as around its spot
    module _ (beside : Tree D) where
      pub as_spot : (s : Side) (c : Bool) (p : ℕ) (d : D) (x y : Tree D) (k : Hole D) → Made beside m root (plug k (forked s c p d x y))
          → let sp = spot_of beside s c d x y k in Made sp.beside m root (plug sp.hole (here sp p))
      unfolding spot_of
      as_spot Left c p d x y k h = h
      as_spot Right c p d x y k h = h

    pub stands_above : (s : Side) (c : Bool) (p : ℕ) (d : D) (x : Tree D) (k : Hole D) (t : Tree D) → {beside : Tree D} → Made beside m root (plug (on s c p d x k) t)
        → let sp = spot_of beside s c d t x k in Made sp.beside m root (plug sp.hole (here sp p))
    stands_above s c p d x k t {beside} h = as_spot beside s c p d t x k h

    pub slot_above : (s : Side) (c : Bool) (p : ℕ) (d : D) (x : Tree D) (k : Hole D) (t : Tree D) → {beside : Tree D} → Made beside m root (plug (on s c p d x k) t)
        → map.get m p ≡ Some (sided s (above k) (root_of t) (root_of x) c d)
    slot_above s c p d x k t h = (opened m root (on s c p d x k) t h.from h.nodes).0.0

    pub live_beside : (s : Side) (c : Bool) (p : ℕ) (d : D) (x : Tree D) (k : Hole D) (t : Tree D) → {beside : Tree D} → Made beside m root (plug (on s c p d x k) t) → IfSome (root_of x) (Live m)
    live_beside s c p d x k t h = live_root m root (Some p) x (opened m root (on s c p d x k) t h.from h.nodes).0.1

    pub made_beside : (s : Side) (c : Bool) (p : ℕ) (d : D) (x : Tree D) (k : Hole D) (t : Tree D) → {beside : Tree D} → Made beside m root (plug (on s c p d x k) t) → Makes m (Some p) x
    made_beside s c p d x k t h = (opened m root (on s c p d x k) t h.from h.nodes).0.1

  pub red-sided : (s : Side) (p x y : Option ℕ) (c : Bool) (d : D) → (sided s p x y c d).red ≡ c
  red-sided Left p x y c d = refl
  red-sided Right p x y c d = refl
