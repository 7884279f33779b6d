-- A tree in memory that is red-black except for one red node whose parent may be red too.
use Rattle.std.specs.Prelude.{◌≡◌, ℕ, ◌-◌, ◌≤◌, true, false, List, Option, Some, None}
use Rattle.std.specs.Ordering.{nat_cmp}
use Rattle.std.specs.FinMap as map
use Rattle.rb_rules.specs.declared.slot.Data.{Data}
use Rattle.rb_rules.specs.declared.slot.Slot.{Slot}
use Rattle.rb_rules.specs.declared.weave.Weave.{Ghosts}
use Rattle.rb_rules.specs.Tree.{Tree, Hole, plug, root_of, depth}
use Rattle.rb_rules.specs.Colours.{Rb, Fits, Balanced}
use Rattle.rb_rules.specs.Memory.{Made}
use Rattle.rb_rules.specs.Weaving.{Weaving}
use Rattle.rb_rules.specs.Woven.{Valued}
use Rattle.rb_rules.specs.Sound.{Lists}
use Rattle.rb_arena.specs.declared.links.Links.{Links}

module _ {X S B : Type 0} (w : Weaving X S B) (is_near : B → Type 0) (beside : Tree (Data X S B))
    (m : map.FinMap nat_cmp (Slot (Data X S B))) (root : Option ℕ) (es : List (ℕ × X)) where
  -- a red-black tree with the items es is in the memory
  abbrev pub Mended : Type 0
  Mended = (t : Tree (Data X S B)) × Made beside m root t × Lists w is_near t es × Balanced t

  -- A tree with the items es is in the memory. It is red-black except that the node i is red in a hole that may require a black one. At
  -- most n nodes are above it.
  pub record Rising (i n : ℕ) : Type 0 where
    pub hole : Hole (Data X S B)
    pub subtree : Tree (Data X S B)
    pub black : ℕ
    pub made : Made beside m root (plug hole subtree)
    pub lists : Lists w is_near (plug hole subtree) es
    pub named : root_of subtree ≡ Some i
    pub red : Rb true black subtree
    pub fits : Fits false black hole
    pub few : depth hole ≤ n

  -- a tree with such a node, or a red-black tree if no node is named
  abbrev pub Risen : Option ℕ → ℕ → Type 0
  Risen None n = Mended
  Risen (Some i) n = Rising i n

module _ {W X S B K : Type 0} (w : Ghosts W X S B K) where
  -- a red-black tree with the items es and all shifts within the reach is in the memory, beside another tree
  abbrev pub MendedBeside : B → Tree (Data X S B) → Links (Data X S B) → List (ℕ × X) → Type 0
  MendedBeside reach beside tree es = Mended w.weaving (w.within reach) beside tree.nodes.live tree.root es

  module _ (old new : Links (Data X S B)) (id : ℕ) where
    -- Any tree in which the node `id` was such a red node lists the same items. The node `next` is such a red node now, with at least one
    -- node fewer above it; or there is none, which is so whenever `id` was the root.
    abbrev pub RisesTo : Option ℕ → Type 0
    RisesTo next =
        (reach : B) (beside : Tree (Data X S B)) (es : List (ℕ × X)) (n : ℕ)
        → Rising w.weaving (w.within reach) beside old.nodes.live old.root es id n → Valued w.weaving w.is_item w.is_value es
        → Risen w.weaving (w.within reach) beside new.nodes.live new.root es next (n - 1) × (n ≡ 0 → next ≡ None)

    -- any tree in which the node was such a red node, with at most n nodes above it, is red-black now and lists the same items
    unfoldable pub MendsFrom : ℕ → Type 0
    MendsFrom n =
        (reach : B) (beside : Tree (Data X S B)) (es : List (ℕ × X))
        → Rising w.weaving (w.within reach) beside old.nodes.live old.root es id n → Valued w.weaving w.is_item w.is_value es
        → MendedBeside reach beside new es

  module _ (old new : Links (Data X S B)) (at : Option ℕ) where
    -- the same; for None the tree was red-black already
    abbrev pub MendsUp : ℕ → Type 0
    MendsUp n =
        (reach : B) (beside : Tree (Data X S B)) (es : List (ℕ × X))
        → Risen w.weaving (w.within reach) beside old.nodes.live old.root es at n → Valued w.weaving w.is_item w.is_value es
        → MendedBeside reach beside new es

  -- the node is such a red node in some tree of values
  abbrev pub IsRising : Links (Data X S B) → ℕ → Type 0
  IsRising tree id =
      (reach : B) × ((beside : Tree (Data X S B)) × ((es : List (ℕ × X)) × ((n : ℕ)
      × Rising w.weaving (w.within reach) beside tree.nodes.live tree.root es id n × Valued w.weaving w.is_item w.is_value es)))

  -- the same with at most n nodes above it
  unfoldable pub IsRisingFrom : Links (Data X S B) → ℕ → ℕ → Type 0
  IsRisingFrom tree id n =
      (reach : B) × ((beside : Tree (Data X S B)) × ((es : List (ℕ × X))
      × Rising w.weaving (w.within reach) beside tree.nodes.live tree.root es id n × Valued w.weaving w.is_item w.is_value es))

  -- the same; for None the tree is red-black
  abbrev pub IsRisen : Links (Data X S B) → Option ℕ → ℕ → Type 0
  IsRisen tree at n =
      (reach : B) × ((beside : Tree (Data X S B)) × ((es : List (ℕ × X))
      × Risen w.weaving (w.within reach) beside tree.nodes.live tree.root es at n × Valued w.weaving w.is_item w.is_value es))
