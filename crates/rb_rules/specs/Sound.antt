-- Trees in memory with the right sums, over items that are values.
use Rattle.std.specs.Prelude.{◌≡◌, ℕ, ◌≤◌, List, Option, IsSome}
use Rattle.std.specs.Ordering.{nat_cmp}
use Rattle.std.specs.FinMap as map
use Rattle.rb_rules.specs.declared.slot.Data.{Data}
use Rattle.rb_rules.specs.declared.slot.Side.{Side}
use Rattle.rb_rules.specs.declared.slot.Slot.{Slot}
use Rattle.rb_rules.specs.declared.slot.Side.TheVariants.{Left, Right}
use Rattle.rb_rules.specs.Tree.{Tree, Hole, top, on, plug, root_of, above, depth}
use Rattle.rb_rules.specs.Memory.{Made, Spot, here, below, turned}
use Rattle.rb_rules.specs.Shape.{shape}
use Rattle.rb_rules.specs.Weaving.{Weaving, summed}
use Rattle.rb_rules.specs.Woven.{entries, Woven, Valued, whole_at, shift_at}

-- the data of a node with the sums of its subtrees
abbrev pub renewed : {X S B : Type 0} → Weaving X S B → Spot (Data X S B) → Data X S B
renewed w s = summed w s.datum.item s.datum.delta (whole_at w s.left) (whole_at w s.right)

module _ {X S B : Type 0} (w : Weaving X S B) (is_near : B → Type 0) where
  -- the tree has the right sums, and its items are es
  abbrev pub Lists : Tree (Data X S B) → List (ℕ × X) → Type 0
  Lists t es = Woven w is_near w.still t × (entries w w.still t ≡ es)

  module _ (is_item : X → Type 0) (is_value : S → Type 0) where
    -- the node has a child on that side, in a tree of values
    abbrev pub CanTurnAt : map.FinMap nat_cmp (Slot (Data X S B)) → Option ℕ → ℕ → Side → Type 0
    CanTurnAt m root i side =
        (s : Spot (Data X S B)) × Made s.beside m root (plug s.hole (here s i)) × IsSome (root_of (below side s))
        × Woven w is_near w.still (plug s.hole (here s i)) × Valued w is_item is_value (entries w w.still (plug s.hole (here s i)))

  -- the tree rotated at that node is in the memory, and lists the same items
  abbrev pub TurnedAt : map.FinMap nat_cmp (Slot (Data X S B)) → Option ℕ → ℕ → Side → Spot (Data X S B) → Type 0
  TurnedAt m root i side s =
      Woven w is_near w.still (plug s.hole (here s i)) → (low : Data X S B) × ((high : Data X S B)
      × Made s.beside m root (plug s.hole (turned side low high (here s i)))
      × Lists (plug s.hole (turned side low high (here s i))) (entries w w.still (plug s.hole (here s i))))

  -- The subtrees beside the path to a hole keep the right sums; the nodes on the path may not.
  abbrev pub Slack : Hole (Data X S B) → Type 0
  Slack top = Unit {0}
  Slack (on Left c i d x k) = Woven w is_near (w.plus (shift_at w k) d.delta) x × Slack k
  Slack (on Right c i d x k) = Woven w is_near (shift_at w k) x × Slack k

  module _ (is_item : X → Type 0) (is_value : S → Type 0) where
    abbrev pub CanRenew : map.FinMap nat_cmp (Slot (Data X S B)) → Option ℕ → ℕ → Type 0
    CanRenew m root i =
        (s : Spot (Data X S B)) × Made s.beside m root (plug s.hole (here s i))
        × Woven w is_near (shift_at w s.hole) s.left × Woven w is_near (w.plus (shift_at w s.hole) s.datum.delta) s.right
        × Valued w is_item is_value (entries w (shift_at w s.hole) (here s i))

    -- The tree is in the memory. Its sums are right except in the node `at` and its ancestors, at most n nodes.
    abbrev pub IsSlack : Tree (Data X S B) → map.FinMap nat_cmp (Slot (Data X S B)) → Option ℕ → Option ℕ → ℕ → Tree (Data X S B) → Type 0
    IsSlack beside m root at n whole =
        (k : Hole (Data X S B)) × ((t : Tree (Data X S B)) × (whole ≡ plug k t) × Made beside m root (plug k t) × (at ≡ above k)
        × Woven w is_near (shift_at w k) t × Slack k × Valued w is_item is_value (entries w w.still (plug k t)) × (depth k ≤ n))

  -- a tree with the shape of t and the right sums is in the memory
  abbrev pub RenewedFrom : Tree (Data X S B) → map.FinMap nat_cmp (Slot (Data X S B)) → Option ℕ → Tree (Data X S B) → Type 0
  RenewedFrom beside m root t = (u : Tree (Data X S B)) × Made beside m root u × Woven w is_near w.still u × (shape u ≡ shape t)
