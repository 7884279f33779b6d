-- The first node of a chain is put at a place of a tree in memory. Proofs unfold these definitions explicitly.
use Rattle.std.specs.Prelude.{◌≡◌, ℕ, Option}
use Rattle.std.specs.FinMap as map
use Rattle.raw_arena.specs.Arena.{Nodes}
use Rattle.rb_rules.specs.declared.slot.Data.{Data}
use Rattle.rb_rules.specs.declared.slot.Side.{Side}
use Rattle.rb_rules.specs.declared.slot.Slot.{Slot}
use Rattle.rb_rules.specs.declared.weave.Weave.{Ghosts}
use Rattle.rb_arena.specs.declared.links.Links.{Links}
use Rattle.rb_arena.specs.Nodes.{Lives, HeadsChain, LosesFirst}
use Rattle.rb_arena.specs.Placing.{ListsNodeAt, TakesNode}

module _ {W X S B K : Type 0} (w : Ghosts W X S B K) where
  -- the tree with other contents of its nodes
  abbrev pub over : Links (Data X S B) → Nodes (Slot (Data X S B)) → Links (Data X S B)
  over tree nodes = record { nodes = nodes; root = tree.root }

  -- the node is the first of its chain and may be put at the place with that item
  unfoldable pub CanLand : Links (Data X S B) → Option (ℕ × Side) → ℕ → X → Type 0
  CanLand tree at id item =
      HeadsChain tree.nodes id
      × ((nodes : Nodes (Slot (Data X S B))) (next : Option ℕ) → LosesFirst tree.nodes nodes id next
      → Lives nodes id × TakesNode w (over tree nodes) at id item)

  -- The node has left its chain, whose first node is `next` now, if any, and has been put at the place.
  unfoldable pub Lands : Links (Data X S B) → Links (Data X S B) → Option (ℕ × Side) → ℕ → X → Option ℕ → Type 0
  Lands old new at id item next =
      (nodes : Nodes (Slot (Data X S B))) × LosesFirst old.nodes nodes id next × ListsNodeAt w (over old nodes) new at id item
      × (map.len new.nodes.live ≡ map.len nodes.live)
