-- A rotation that keeps the sums right: the values it reads, and the effect of its writes.
use Rattle.std.proofs.Common.{◌≡◌, ℕ, Option, None, Some, sym, refl}
use Rattle.std.proofs.lemmas.Bool.{false≢true}
use Rattle.std.specs.FinMap as map
use Rattle.rb_rules.specs.declared.slot.Data.{Data}
use Rattle.rb_rules.specs.declared.slot.Side.{Side}
use Rattle.rb_rules.specs.declared.slot.Side.TheVariants.{Left, Right}
use Rattle.rb_rules.specs.declared.slot.Slot.{Slot}
use Rattle.rb_rules.specs.declared.weave.Weave.{Ghosts}
use Rattle.rb_rules.specs.Tree.{other, plug}
use Rattle.rb_rules.specs.Memory.{Made, AtSpot, child, here, turned}
use Rattle.rb_rules.specs.Woven.{whole_in}
use Rattle.rb_rules.proofs.Knots.{can_turn_here, turn_lists}
use Rattle.rb_rules.proofs.Spots.{live_below, upper_is}
use Rattle.rb_arena.specs.declared.links.Links.{Links}
use Rattle.rb_arena.specs.Nodes.{HasChildAt, Lives, LivesIf}
use Rattle.rb_arena.specs.Relative.{CanSumOver, IsLowered, IsRaised, CanTurnOver, CanTurnNode, Turns}
use Rattle.rb_arena.proofs.Slots.{child_there, child_lives, grandchild_lives}

module _ {W X S B K : Type 0} (w : Ghosts W X S B K) where
  -- the sums of the lower node, on either side
  pub low_left : (side : Side) (upper lower : Data X S B) (mid far : S) → CanTurnOver w side upper lower mid far → side ≡ Left → (item : X) (by : B) → item ≡ w.weaving.shift (w.weaving.minus w.weaving.still lower.delta) upper.item
      → by ≡ w.weaving.minus upper.delta lower.delta → CanSumOver w item by mid far
  unfolding CanTurnOver CanSumOver
  low_left side upper lower mid far can is item by e1 e2 = rw (e1, e2) (rw is at can).3

  pub low_right : (side : Side) (upper lower : Data X S B) (mid far : S) → CanTurnOver w side upper lower mid far → side ≡ Right → CanSumOver w upper.item upper.delta far mid
  unfolding CanTurnOver CanSumOver
  low_right side upper lower mid far can is = (rw is at can).0

  module _ (old : Links (Data X S B)) (id : ℕ) (side : Side) (can : CanTurnNode w old id side) where
    pub has_child : HasChildAt old id side
    unfolding CanTurnNode HasChildAt
    has_child = let (l, (s, h, some, wv, v)) = can in (s, h, some)

    module _ (upper : Slot (Data X S B)) (read : map.get old.nodes.live id ≡ Some upper) where
      pub far_lives : (o : Option ℕ) → o ≡ child (other side) upper → LivesIf old.nodes o
      unfolding CanTurnNode LivesIf
      far_lives o is =
          let (l, (s, h, some, wv, v)) = can in
          rw (sym (child_there (other side) s upper o o (upper_is old.nodes.live old.root s id h Left upper read) is refl)) (live_below old.nodes.live old.root s id h (other side))

      pub no_turn : (new : Links (Data X S B)) → child side upper ≡ None → Turns w old new id side
      unfolding CanTurnNode
      no_turn new none =
          let (l, (s, h, some, wv, v)) = can in
          absurd (false≢true (rw (child_there side s upper None None (upper_is old.nodes.live old.root s id h Left upper read) (sym none) refl) at some))

      pub lower_lives : (j : ℕ) → child side upper ≡ Some j → Lives old.nodes j
      lower_lives j is = child_lives old id side has_child upper read j is

      pub mid_lives : (j : ℕ) → child side upper ≡ Some j → (o : Option ℕ) (lower : Slot (Data X S B)) → map.get old.nodes.live j ≡ Some lower → o ≡ child (other side) lower → LivesIf old.nodes o
      mid_lives j is o lower found e = grandchild_lives old id side has_child upper read j is o lower found e

      module _ (j : ℕ) (is : child side upper ≡ Some j) (lower : Slot (Data X S B)) (found : map.get old.nodes.live j ≡ Some lower) (mid far : S)
          (mid_is : mid ≡ whole_in w.weaving old.nodes.live (child (other side) lower)) (far_is : far ≡ whole_in w.weaving old.nodes.live (child (other side) upper)) where
        pub can_turn_over : CanTurnOver w side upper.«data» lower.«data» mid far
        unfolding CanTurnNode CanTurnOver
        can_turn_over =
            let (l, (s, h, some, wv, v)) = can in
            rw (mid_is, far_is) (can_turn_here w.weaving l.laws w.is_near w.is_item w.is_sum w.is_value l.sums l.parts old.nodes.live old.root s id h wv side j upper lower read found is v)

  pub turned_node : (old new : Links (Data X S B)) (id : ℕ) (side : Side) (low high high_data low_data : Data X S B) (mid far : S) (upper lower : Slot (Data X S B)) (j : ℕ)
      → CanTurnNode w old id side → IsLowered w side high_data low_data mid far low → IsRaised w side high_data low_data mid far high
      → map.get old.nodes.live id ≡ Some upper → high_data ≡ upper.«data» → map.get old.nodes.live j ≡ Some lower → low_data ≡ lower.«data» → child side upper ≡ Some j
      → mid ≡ whole_in w.weaving old.nodes.live (child (other side) lower) → far ≡ whole_in w.weaving old.nodes.live (child (other side) upper)
      → AtSpot old.nodes.live old.root id (λ s. Made s.beside new.nodes.live new.root (plug s.hole (turned side low high (here s id)))) → Turns w old new id side
  unfolding CanTurnNode Turns IsLowered IsRaised
  turned_node old new id side low high high_data low_data mid far upper lower j (l, can) low_is high_is read e1 found e2 is mid_is far_is done s h reach wv = (
    low,
    (
      high,
      done s h,
      rw (low_is, high_is, e1, e2, mid_is, far_is) (turn_lists w.weaving l.laws (w.within reach) w.is_item w.is_sum w.is_value l.sums l.parts old.nodes.live old.root s id h wv side j upper lower read found is),
    ),
  )

pub ruleset lowering = (low_left, low_right)

pub ruleset turning_node = (has_child, far_lives, no_turn, lower_lives, mid_lives, can_turn_over, turned_node)
