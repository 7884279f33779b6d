-- A node with recomputed sums: conditions for its data, and their values.
use Rattle.std.proofs.Common.{◌≡◌, ℕ, Some, ap, ◌∙◌}
use Rattle.std.specs.FinMap as map
use Rattle.rb_rules.specs.declared.slot.Data.{Data}
use Rattle.rb_rules.specs.declared.slot.Side.TheVariants.{Left, Right}
use Rattle.rb_rules.specs.declared.slot.Slot.{Slot}
use Rattle.rb_rules.specs.declared.weave.Weave.{Ghosts}
use Rattle.rb_rules.specs.Tree.{fork, plug}
use Rattle.rb_rules.specs.Memory.{Made, AtSpot, Spot, here}
use Rattle.rb_rules.specs.Sound.{renewed}
use Rattle.rb_rules.specs.Weaving.{summed}
use Rattle.rb_rules.specs.Woven.{whole_in, whole_at}
use Rattle.rb_rules.proofs.Climbs.{can_renew}
use Rattle.rb_rules.proofs.Spots.{upper_is}
use Rattle.rb_arena.specs.declared.links.Links.{Links}
use Rattle.rb_arena.specs.Relative.{CanRenewNode, CanSumOver, IsSummed, Renews}
use Rattle.rb_arena.proofs.Slots.{whole_below}

module _ {W X S B K : Type 0} (w : Ghosts W X S B K) (old : Links (Data X S B)) (id : ℕ) (slot : Slot (Data X S B)) (found : map.get old.nodes.live id ≡ Some slot)
    (left right : S) (left_is : left ≡ whole_in w.weaving old.nodes.live slot.left) (right_is : right ≡ whole_in w.weaving old.nodes.live slot.right) where
  module _ (s : Spot (Data X S B)) (h : Made s.beside old.nodes.live old.root (plug s.hole (here s id))) where
    pub lefts_is : left ≡ whole_at w.weaving s.left
    lefts_is = left_is ∙ ap (λ n. whole_in w.weaving old.nodes.live n.left) (upper_is old.nodes.live old.root s id h Left slot found) ∙ whole_below w.weaving old.nodes.live old.root s id h Left

    pub rights_is : right ≡ whole_at w.weaving s.right
    rights_is = right_is ∙ ap (λ n. whole_in w.weaving old.nodes.live n.right) (upper_is old.nodes.live old.root s id h Left slot found) ∙ whole_below w.weaving old.nodes.live old.root s id h Right

    pub data_is : slot.«data» ≡ s.datum
    data_is = ap (λ n. n.«data») (upper_is old.nodes.live old.root s id h Left slot found)

  pub can_sum_here : (item : X) (delta : B) → item ≡ slot.«data».item → delta ≡ slot.«data».delta → CanRenewNode w old id → CanSumOver w item delta left right
  unfolding CanRenewNode CanSumOver
  can_sum_here item delta item_is delta_is (l, (s, h, wl, wr, v)) =
      rw (item_is, delta_is, lefts_is s h, rights_is s h, data_is s h) (can_renew w.weaving l.laws w.is_near w.is_item w.is_sum w.is_value l.sums l.parts id s wl wr v)

  renewed_so : (new : Links (Data X S B)) (datum : Data X S B) → datum ≡ summed w.weaving slot.«data».item slot.«data».delta left right
      → AtSpot old.nodes.live old.root id (λ s. Made s.beside new.nodes.live new.root (plug s.hole (fork slot.red id datum s.left s.right))) → Renews w old new id
  unfolding Renews
  renewed_so new datum is done s h =
      let same : datum ≡ renewed w.weaving s = is ∙ (λ i. summed w.weaving (data_is s h i).item (data_is s h i).delta (lefts_is s h i) (rights_is s h i)) in
      let colour : slot.red ≡ s.red = ap (λ n. n.red) (upper_is old.nodes.live old.root s id h Left slot found) in
      rw (same, colour) at (done s h)

module _ {W X S B K : Type 0} (w : Ghosts W X S B K) where
  pub renewed_node : (old new : Links (Data X S B)) (id : ℕ) (slot : Slot (Data X S B)) (left right : S) (datum : Data X S B) → CanRenewNode w old id → map.get old.nodes.live id ≡ Some slot
      → left ≡ whole_in w.weaving old.nodes.live slot.left → right ≡ whole_in w.weaving old.nodes.live slot.right
      → IsSummed w slot.«data».item slot.«data».delta left right datum
      → AtSpot old.nodes.live old.root id (λ s. Made s.beside new.nodes.live new.root (plug s.hole (fork slot.red id datum s.left s.right))) → Renews w old new id
  unfolding IsSummed
  renewed_node old new id slot left right datum can found left_is right_is is done = renewed_so w old id slot found left right left_is right_is new datum is done

pub ruleset renewing = (can_sum_here, renewed_node)
