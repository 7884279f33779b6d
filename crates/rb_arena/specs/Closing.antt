-- A tree in memory that is red-black except that the paths through one place may have one black node too few.
use Rattle.std.specs.Prelude.{◌≡◌, ℕ, suc, ◌+◌, ◌-◌, ◌≤◌, true, false, List, Option, Some, None}
use Rattle.std.specs.Ordering.{nat_cmp}
use Rattle.std.specs.FinMap as map
use Rattle.rb_rules.specs.declared.slot.Data.{Data}
use Rattle.rb_rules.specs.declared.slot.Side.{Side}
use Rattle.rb_rules.specs.declared.slot.Slot.{Slot}
use Rattle.rb_rules.specs.declared.weave.Weave.{Ghosts}
use Rattle.rb_rules.specs.Tree.{Tree, Hole, top, on, plug, depth}
use Rattle.rb_rules.specs.Colours.{Rb, Fits}
use Rattle.rb_rules.specs.Memory.{Made, place_of}
use Rattle.rb_rules.specs.Weaving.{Weaving}
use Rattle.rb_rules.specs.Woven.{Valued}
use Rattle.rb_rules.specs.Sound.{Lists}
use Rattle.rb_arena.specs.declared.links.Links.{Links}
use Rattle.rb_arena.specs.Rising.{Mended, MendedBeside}

-- The most steps that close a gap in the hole: none at the root, one below a red node; below a black one, one for each node above
-- the hole and one more.
abbrev pub steps_left : {D : Type 0} → Hole D → ℕ
steps_left top = 0
steps_left (on s true i d x k) = 1
steps_left (on s false i d x k) = 2 + depth k

module _ {X S B : Type 0} (w : Weaving X S B) (is_near : B → Type 0) (beside : Tree (Data X S B))
    (m : map.FinMap nat_cmp (Slot (Data X S B))) (root : Option ℕ) (es : List (ℕ × X)) where
  -- A tree with the items es is in the memory. It is red-black except that each path through the place `at` has one black node too few.
  -- At most n steps close the gap.
  pub record Short (at : Option (ℕ × Side)) (n : ℕ) : Type 0 where
    pub hole : Hole (Data X S B)
    pub subtree : Tree (Data X S B)
    pub black : ℕ
    pub made : Made beside m root (plug hole subtree)
    pub lists : Lists w is_near (plug hole subtree) es
    pub there : at ≡ place_of hole
    pub even : Rb false black subtree
    pub fits : Fits false (suc black) hole
    pub few : steps_left hole ≤ n

  -- a tree with a gap at the place, or a red-black tree if there is no place
  abbrev pub Closing : Option (ℕ × Side) → ℕ → Type 0
  Closing None n = Mended w is_near beside m root es
  Closing (Some at) n = Short (Some at) n

module _ {W X S B K : Type 0} (w : Ghosts W X S B K) where
  -- some tree of values has a gap at the place
  abbrev pub IsShort : Links (Data X S B) → ℕ × Side → Type 0
  IsShort tree at =
      (reach : B) × ((beside : Tree (Data X S B)) × ((es : List (ℕ × X)) × ((n : ℕ)
      × Short w.weaving (w.within reach) beside tree.nodes.live tree.root es (Some at) n × Valued w.weaving w.is_item w.is_value es)))

  -- some tree of values has a gap at the place that at most n steps close, or is red-black if there is no place
  unfoldable pub IsClosing : Links (Data X S B) → Option (ℕ × Side) → ℕ → Type 0
  IsClosing tree at n =
      (reach : B) × ((beside : Tree (Data X S B)) × ((es : List (ℕ × X))
      × Closing w.weaving (w.within reach) beside tree.nodes.live tree.root es at n × Valued w.weaving w.is_item w.is_value es))

  module _ (old new : Links (Data X S B)) where
    -- any tree with a gap at `at` lists the same items, and has its gap at `next` now, or none; one step fewer is left
    abbrev pub ClosesTo : ℕ × Side → Option (ℕ × Side) → Type 0
    ClosesTo at next =
        (reach : B) (beside : Tree (Data X S B)) (es : List (ℕ × X)) (n : ℕ)
        → Short w.weaving (w.within reach) beside old.nodes.live old.root es (Some at) n → Valued w.weaving w.is_item w.is_value es
        → Closing w.weaving (w.within reach) beside new.nodes.live new.root es next (n - 1)

    -- any tree with a gap that n steps close is red-black now and lists the same items
    unfoldable pub ClosesFrom : Option (ℕ × Side) → ℕ → Type 0
    ClosesFrom at n =
        (reach : B) (beside : Tree (Data X S B)) (es : List (ℕ × X))
        → Closing w.weaving (w.within reach) beside old.nodes.live old.root es at n → Valued w.weaving w.is_item w.is_value es
        → MendedBeside w reach beside new es
