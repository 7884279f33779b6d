-- Shifts in a tree in memory: applying those of a subtree, and adding one for all items after a place.
use Rattle.std.specs.Prelude.{◌≡◌, ℕ, ◌≤◌, List, ◌++◌, Option, Some, None, IfSome}
use Rattle.std.specs.Ordering.{nat_cmp}
use Rattle.std.specs.FinMap as map
use Rattle.rb_rules.specs.declared.slot.Data.{Data}
use Rattle.rb_rules.specs.declared.slot.Side.{Side}
use Rattle.rb_rules.specs.declared.slot.Slot.{Slot}
use Rattle.rb_rules.specs.declared.weave.Weave.{Ghosts}
use Rattle.rb_rules.specs.Colours.{Balanced}
use Rattle.rb_rules.specs.Tree.{Tree, Hole, tip, plug, root_of, height, depth}
use Rattle.rb_rules.specs.Memory.{Made, Spot, Stands, here}
use Rattle.rb_rules.specs.Weaving.{Weaving, HeldItem, HeldBy}
use Rattle.rb_rules.specs.Woven.{entries, Woven, AllItems, Valued, shift_at, lefts, rights}
use Rattle.rb_rules.specs.Sound.{Slack}
use Rattle.rb_rules.specs.Shifts.{shifted, moved, levelled}
use Rattle.rb_arena.specs.Placing.{HoleAt, WovenAt}
use Rattle.rb_arena.specs.Relative.{LawsOf}
use Rattle.rb_arena.specs.declared.links.Links.{Links}
use Rattle.rb_arena.specs.Leaving.{StoresBeside}
use Rattle.rb_arena.specs.Rising.{Mended, MendedBeside}

module _ {X S B : Type 0} (w : Weaving X S B) (is_near : B → Type 0) (is_item : X → Type 0) where
  module _ (is_value : S → Type 0) (beside : Tree (Data X S B)) (m : map.FinMap nat_cmp (Slot (Data X S B))) (root : Option ℕ) where
    -- The subtree t hangs at the name `at`; acc is the sum of the shifts on the path above it. It keeps the right sums of values and has
    -- a height of at most n.
    abbrev pub CanLevel : Option ℕ → B → ℕ → Hole (Data X S B) → Tree (Data X S B) → Type 0
    CanLevel at acc n k t =
        Made beside m root (plug k t) × (at ≡ root_of t) × Woven w is_near acc t
        × Valued w is_item is_value (entries w acc t) × (height t ≤ n)

  module _ (m : map.FinMap nat_cmp (Slot (Data X S B))) (root : Option ℕ) where
    -- the node's item and its right subtree may move
    unfoldable pub CanMove : B → ℕ → Type 0
    CanMove by i =
        (s : Spot (Data X S B)) × Made s.beside m root (plug s.hole (here s i))
        × HeldItem w is_near is_item (w.shift by s.datum.item) × HeldBy w is_near (w.plus by s.datum.delta)

    -- Each item after the place is a value once moved, and no shift of a path is too great then. At most n nodes are above the place.
    abbrev pub CanShift : Tree (Data X S B) → Option (ℕ × Side) → B → ℕ → Tree (Data X S B) → Hole (Data X S B) → Type 0
    CanShift beside at by n t k =
        HoleAt beside m root at t k × is_near (shift_at w k) × Slack w is_near (moved w by k)
        × AllItems w is_item (shifted w by (rights w k)) × (depth k ≤ n)

module _ {X S B : Type 0} (w : Weaving X S B) (beside : Tree (Data X S B)) (m : map.FinMap nat_cmp (Slot (Data X S B)))
    (root : Option ℕ) where
  -- the items after the place may move: all are values afterwards
  abbrev pub CanShiftFrom : (B → Type 0) → (X → Type 0) → (S → Type 0) → Option (ℕ × Side) → B → Hole (Data X S B) → Type 0
  CanShiftFrom is_near is_item is_value at by k =
      WovenAt w is_near beside m root at tip k × Balanced (plug k tip) × Valued w is_item is_value (lefts w k ++ shifted w by (rights w k))

  -- A tree with the items es is in the memory. Its shifts lie within a reach that `by` widens to `found`. If `found` is None, `by` is too
  -- great for any tree and the shifts lie within the old reach.
  abbrev pub Reaches : (B → B → Type 0) → (B → B → Option B) → List (ℕ × X) → B → B → Option B → Type 0
  Reaches within widened es old by None = Mended w (within old) beside m root es × (widened w.still by ≡ None)
  Reaches within widened es old by (Some found) = (reach : B) × Mended w (within reach) beside m root es × (widened reach by ≡ Some found)

module _ {W X S B K : Type 0} (w : Ghosts W X S B K) where
  module _ (tree : Links (Data X S B)) where
    -- a subtree of values with a height of at most n hangs at the name `at`; acc is the sum of the shifts on the path above it
    unfoldable pub CanLevelAt : Option ℕ → B → ℕ → Type 0
    CanLevelAt at acc n =
        (beside : Tree (Data X S B)) × ((t : Tree (Data X S B)) × ((k : Hole (Data X S B))
        × CanLevel w.weaving w.is_near w.is_item w.is_value beside tree.nodes.live tree.root at acc n k t))

    -- the items after the place may move; at most 128 nodes are above the place
    unfoldable pub CanShiftUp : Option (ℕ × Side) → B → Type 0
    CanShiftUp at by =
        LawsOf w × ((beside : Tree (Data X S B)) × ((t : Tree (Data X S B)) × ((k : Hole (Data X S B))
        × CanShift w.weaving w.is_near w.is_item tree.nodes.live tree.root beside at by 128 t k)))

  module _ (old new : Links (Data X S B)) where
    -- the shifts of any such subtree are applied; all else is unchanged
    unfoldable pub Levels : Option ℕ → B → ℕ → Type 0
    Levels at acc n =
        (beside t : Tree (Data X S B)) (k : Hole (Data X S B))
        → CanLevel w.weaving w.is_near w.is_item w.is_value beside old.nodes.live old.root at acc n k t
        → Made beside new.nodes.live new.root (plug k (levelled w.weaving acc t))

    -- the items after the place have moved, for any hole there; the sums in its ancestors are not recomputed
    unfoldable pub ShiftsUp : Option (ℕ × Side) → B → Type 0
    ShiftsUp at by =
        (beside t : Tree (Data X S B)) (k : Hole (Data X S B))
        → CanShift w.weaving w.is_near w.is_item old.nodes.live old.root beside at by 128 t k
        → Made beside new.nodes.live new.root (plug (moved w.weaving by k) t)

  -- A walk up that moves them has reached the place `at`, with at most n nodes above. Moving the rest gives the same tree as moving all
  -- from the start. The node of the place, if any, is in the tree.
  unfoldable pub MovesSoFar : Links (Data X S B) → Links (Data X S B) → Option (ℕ × Side) → B → Option (ℕ × Side) → ℕ → Type 0
  MovesSoFar old new from by at n =
      IfSome at (λ a. Stands new.nodes.live new.root a.0)
      × ((beside t : Tree (Data X S B)) (k : Hole (Data X S B))
      → CanShift w.weaving w.is_near w.is_item old.nodes.live old.root beside from by 128 t k
      → (t2 : Tree (Data X S B)) × ((k2 : Hole (Data X S B))
      × CanShift w.weaving w.is_near w.is_item new.nodes.live new.root beside at by n t2 k2
      × (plug (moved w.weaving by k2) t2 ≡ plug (moved w.weaving by k) t)))

  -- the items after the place may move, within a wider reach
  unfoldable pub CanShiftAll : Links (Data X S B) → Option (ℕ × Side) → B → Type 0
  CanShiftAll tree at by =
      LawsOf w × ((from : B) × ((reach : B) × ((beside : Tree (Data X S B)) × ((k : Hole (Data X S B))
      × (w.widened from by ≡ Some reach)
      × CanShiftFrom w.weaving beside tree.nodes.live tree.root (w.within from) w.is_item w.is_value at by k))))

  module _ (old new : Links (Data X S B)) where
    -- the items after the place have moved, for any empty hole there, within the wider reach
    unfoldable pub ShiftsAll : Option (ℕ × Side) → B → Type 0
    ShiftsAll at by =
        (from reach : B) (beside : Tree (Data X S B)) (k : Hole (Data X S B)) → w.widened from by ≡ Some reach
        → CanShiftFrom w.weaving beside old.nodes.live old.root (w.within from) w.is_item w.is_value at by k
        → MendedBeside w reach beside new (lefts w.weaving k ++ shifted w.weaving by (rights w.weaving k))

    -- any tree stored within the old reach lists the same items, within a reach that `by` widens to `found`
    unfoldable pub FindsReach : B → B → Option B → Type 0
    FindsReach reach by found =
        (beside : Tree (Data X S B)) (es : List (ℕ × X)) → StoresBeside w old reach beside es
        → Reaches w.weaving beside new.nodes.live new.root w.within w.widened es reach by found
