-- Changes to the nodes of a tree, for any node data.
use Rattle.std.specs.Prelude.{◌≡◌, ℕ, ◌+◌, ◌<◌, ◌^◌, Bool, false, Option, Some, None, IfSome, IsSome}
use Rattle.std.specs.Ordering.{nat_cmp}
use Rattle.std.specs.FinMap as map
use Rattle.raw_arena.specs.Arena.{Nodes, node, IsLive}
use Rattle.rb_rules.specs.declared.slot.Side.{Side}
use Rattle.rb_rules.specs.declared.slot.Side.TheVariants.{Left}
use Rattle.rb_rules.specs.declared.slot.Slot.{Slot}
use Rattle.rb_rules.specs.Tree.{Tree, fork, plug, root_of, above, count}
use Rattle.rb_rules.specs.Memory.{sided, adopted, Made, Spot, here, below, turned, AtSpot}
use Rattle.rb_arena.specs.declared.links.Links.{Links}

module _ {D : Type 0} where
  -- a node that was in no tree is put in front of the chain that begins with `front`, if any
  abbrev pub strung : map.FinMap nat_cmp (Slot D) → ℕ → Option ℕ → D → map.FinMap nat_cmp (Slot D)
  strung m id front datum = map.insert (adopted m front (Some id)) id (sided Left None None front false datum)

  -- the node is live
  unfoldable pub Lives : Nodes (Slot D) → ℕ → Type 0
  Lives nodes id = IsLive nodes id

  -- the node is live, if there is one
  unfoldable pub LivesIf : Nodes (Slot D) → Option ℕ → Type 0
  LivesIf nodes id = IfSome id (λ i. IsLive nodes i)

  -- the node of the place is live, if there is one
  unfoldable pub LivesAt : Nodes (Slot D) → Option (ℕ × Side) → Type 0
  LivesAt nodes place = IfSome place (λ at. IsLive nodes at.0)

  -- each node that was live still is
  unfoldable pub KeepLive : Nodes (Slot D) → Nodes (Slot D) → Type 0
  KeepLive old new = (id : ℕ) → IsLive old id → IsLive new id

  -- the number of live nodes and the room for more are unchanged
  pub record KeepsCount (old new : Nodes (Slot D)) : Type 0 where
    pub spare : new.spare ≡ old.spare
    pub as_many : map.len new.live ≡ map.len old.live

  -- One more node is live and there is room for one fewer. There are names for all nodes that may be live.
  pub record GainsOne (old new : Nodes (Slot D)) : Type 0 where
    pub spare : new.spare + 1 ≡ old.spare
    pub as_many : map.len new.live ≡ map.len old.live + 1
    pub few : map.len new.live + new.spare < 2 ^ 63

  -- one node fewer is live, and there is room for one more
  pub record LosesOne (old new : Nodes (Slot D)) : Type 0 where
    pub spare : new.spare ≡ old.spare + 1
    pub as_many : map.len new.live + 1 ≡ map.len old.live

  -- the node is live, and so is its right child, if any
  unfoldable pub HeadsChain : Nodes (Slot D) → ℕ → Type 0
  HeadsChain nodes id = (slot : Slot D) × (node nodes id ≡ Some slot) × IfSome slot.right (λ i. IsLive nodes i)

  -- `next` was the node after `id` in the chain, if any, and is first now
  unfoldable pub LosesFirst : Nodes (Slot D) → Nodes (Slot D) → ℕ → Option ℕ → Type 0
  LosesFirst old new id next =
      ((slot : Slot D) → node old id ≡ Some slot → next ≡ slot.right) × (new.live ≡ adopted old.live next None)

  -- the slot of the node at a spot
  abbrev pub slot_of : Spot D → Slot D
  slot_of s = sided Left (above s.hole) (root_of s.left) (root_of s.right) s.red s.datum

  module _ (tree : Links D) where
    -- the node is at the spot s of the tree
    abbrev pub StandsAs : ℕ → Spot D → Type 0
    StandsAs id s = Made s.beside tree.nodes.live tree.root (plug s.hole (here s id))

    -- the node stands in the tree, with a child on that side
    unfoldable pub HasChildAt : ℕ → Side → Type 0
    HasChildAt id side = (s : Spot D) × StandsAs id s × IsSome (root_of (below side s))

  module _ (old new : Links D) (id : ℕ) where
    -- the node's subtree is replaced by `subtree`, wherever the node was; all else is unchanged
    abbrev pub Becomes : (Spot D → Tree D) → Type 0
    Becomes subtree = AtSpot old.nodes.live old.root id (λ s. Made s.beside new.nodes.live new.root (plug s.hole (subtree s)))

    -- the node has the given colour and data, wherever it was; all else is unchanged
    unfoldable pub Rewrites : Bool → D → Type 0
    Rewrites red datum = Becomes (λ s. fork red id datum s.left s.right)

    -- the tree is rotated at the node towards that side, wherever it was, and the two nodes have the given data
    unfoldable pub TurnsAt : Side → D → D → Type 0
    TurnsAt side low high = Becomes (λ s. turned side low high (here s id))

    -- the node has the given data; its colour and its subtrees are unchanged
    abbrev pub Rewritten : (Spot D → D) → Type 0
    Rewritten datum = Becomes (λ s. fork s.red id (datum s) s.left s.right)

    -- a node `heir` that was in neither tree has the place, the colour and the subtrees of `id`, and the given data
    unfoldable pub Inherits : ℕ → D → Type 0
    Inherits heir datum =
        AtSpot old.nodes.live old.root id (λ s. count heir (plug s.hole (here s id)) + count heir s.beside ≡ 0
        → Made s.beside new.nodes.live new.root (plug s.hole (fork s.red heir datum s.left s.right)))
