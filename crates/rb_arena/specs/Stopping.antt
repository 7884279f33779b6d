-- Replacement of a node's item. The sums of its ancestors are recomputed unless the node's own sum is unchanged.
use Rattle.std.specs.Prelude.{ℕ, ◌≤◌}
use Rattle.rb_rules.specs.declared.slot.Data.{Data}
use Rattle.rb_rules.specs.declared.weave.Weave.{Ghosts}
use Rattle.rb_rules.specs.Tree.{Tree, fork, plug, depth}
use Rattle.rb_rules.specs.Memory.{Made, Spot, here}
use Rattle.rb_rules.specs.Sound.{RenewedFrom}
use Rattle.rb_rules.specs.Woven.{entries, Woven, Valued}
use Rattle.rb_arena.specs.declared.links.Links.{Links}
use Rattle.rb_arena.specs.RbTree.{with_item}
use Rattle.rb_arena.specs.Relative.{LawsOf}

-- the tree with the item replaced at the node, without recomputed sums
abbrev pub with_own : {X S B : Type 0} → Spot (Data X S B) → ℕ → X → Tree (Data X S B)
with_own s id item = plug s.hole (fork s.red id (with_item s.datum item) s.left s.right)

module _ {W X S B K : Type 0} (w : Ghosts W X S B K) where
  -- the node is at the spot of a tree with the right sums, whose items are values once the item is replaced; at most 128 nodes are above
  -- it
  abbrev pub CanSetAt : Links (Data X S B) → ℕ → X → B → Spot (Data X S B) → Type 0
  CanSetAt tree id item reach s =
      Made s.beside tree.nodes.live tree.root (plug s.hole (here s id))
      × Woven w.weaving (w.within reach) w.weaving.still (plug s.hole (here s id))
      × Valued w.weaving w.is_item w.is_value (entries w.weaving w.weaving.still (with_own s id item)) × (depth s.hole ≤ 128)

  -- the node is at such a spot
  unfoldable pub CanSet : Links (Data X S B) → ℕ → X → Type 0
  CanSet tree id item = LawsOf w × ((reach : B) × ((s : Spot (Data X S B)) × CanSetAt tree id item reach s))

  -- any such tree has the item at the node now, and the right sums
  unfoldable pub Sets : Links (Data X S B) → Links (Data X S B) → ℕ → X → Type 0
  Sets old new id item =
      (reach : B) (s : Spot (Data X S B)) → CanSetAt old id item reach s
      → RenewedFrom w.weaving (w.within reach) s.beside new.nodes.live new.root (with_own s id item)
