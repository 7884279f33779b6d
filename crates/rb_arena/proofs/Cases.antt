-- The position of a red node, read from the slots.
use Rattle.std.proofs.Common.{◌≡◌, ℕ, Bool, true, false, cond, Option, Some, None, refl, sym, ap, ◌∙◌}
use Rattle.std.proofs.lemmas.Option.{none-some}
use Rattle.std.specs.Option.{unwrap_or}
use Rattle.std.specs.Ordering.{nat_cmp}
use Rattle.std.specs.FinMap as map
use Rattle.rb_rules.specs.declared.slot.Side.{Side}
use Rattle.rb_rules.specs.declared.slot.Slot.{Slot}
use Rattle.rb_rules.specs.Tree.{Tree, tip, fork, Hole, on, other, plug, root_of, above}
use Rattle.rb_rules.specs.Memory.{Makes, Made, Spot, below, here, child}
use Rattle.rb_rules.proofs.Live.{child-sided, slot_here}
use Rattle.rb_rules.proofs.Spots.{live_below, makes_below}
use Rattle.rb_rules.proofs.Ups.{slot_above, made_beside}
use Rattle.rb_arena.specs.declared.mend.Case.TheVariants.{RedUncle}
use Rattle.rb_arena.specs.Mending.{bent, by_uncle, red_in, red_child_in, HasChild}
use Rattle.rb_arena.specs.Nodes.{slot_of}
use Rattle.rb_arena.proofs.Slots.{child-slot}

module _ {D : Type 0} where
  -- the name of a tree's root if it is red
  abbrev pub red_name : Tree D → Option ℕ
  red_name tip = None
  red_name (fork true i d x y) = Some i
  red_name (fork false i d x y) = None

  pub uncle_red : (s : Side) (p : ℕ) (s2 : Side) (g : ℕ) (u : Tree D) (i : ℕ) → red_name u ≡ Some i → RedUncle p i g ≡ by_uncle s p s2 g u
  uncle_red s p s2 g tip i e = absurd (none-some i e)
  uncle_red s p s2 g (fork true j d x y) i e = ap (λ o. RedUncle p (unwrap_or o 0) g) (sym e)
  uncle_red s p s2 g (fork false j d x y) i e = absurd (none-some i e)

  pub uncle_black : (s : Side) (p : ℕ) (s2 : Side) (g : ℕ) (u : Tree D) → red_name u ≡ None → bent s s2 p g ≡ by_uncle s p s2 g u
  uncle_black s p s2 g tip e = refl
  uncle_black s p s2 g (fork true j d x y) e = absurd (none-some j (sym e))
  uncle_black s p s2 g (fork false j d x y) e = refl

  red_is : (m : map.FinMap nat_cmp (Slot D)) (p : Option ℕ) (u : Tree D) → Makes m p u → red_in m (root_of u) ≡ red_name u
  red_is m p tip h = refl
  red_is m p (fork true i d x y) (e, a, b) = ap (λ o. elim o [ None ↦ None | Some s ↦ cond s.red (Some i) None ]) e
  red_is m p (fork false i d x y) (e, a, b) = ap (λ o. elim o [ None ↦ None | Some s ↦ cond s.red (Some i) None ]) e

  module _ (m : map.FinMap nat_cmp (Slot D)) (root : Option ℕ) (s : Spot D) (i : ℕ) (h : Made s.beside m root (plug s.hole (here s i))) where
    -- the red child, as it is read
    pub red_there : (side : Side) → red_child_in m i side ≡ red_name (below side s)
    red_there side =
        ap (λ o. elim o [ None ↦ None | Some n ↦ red_in m (child side n) ]) (slot_here m root s i h) ∙ ap (red_in m) (child-slot side s) ∙ red_is m (Some i) (below side s) (makes_below m root s i h side)

    pub has_child : (side : Side) → HasChild m i side
    has_child side = (slot_of s, slot_here m root s i h, rw (child-slot side s) (live_below m root s i h side))

  -- the red sibling of a node's parent, from the links of the grandparent
  pub red_child_is : (m : map.FinMap nat_cmp (Slot D)) (root : Option ℕ) (s : Side) (c : Bool) (g : ℕ) (d : D) (u : Tree D) (k : Hole D) (t : Tree D)
      → {beside : Tree D} → Made beside m root (plug (on s c g d u k) t) → red_child_in m g (other s) ≡ red_name u
  red_child_is m root s c g d u k t h =
      ap (λ o. elim o [ None ↦ None | Some n ↦ red_in m (child (other s) n) ]) (slot_above m root s c g d u k t h)
      ∙ ap (red_in m) (child-sided s (above k) (root_of t) (root_of u) c d).1 ∙ red_is m (Some g) u (made_beside m root s c g d u k t h)
