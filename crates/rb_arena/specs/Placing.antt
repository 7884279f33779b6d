-- A place for an item in a tree in memory.
use Rattle.std.specs.Prelude.{◌≡◌, ℕ, ◌+◌, ◌-◌, ◌≤◌, true, [], ◌∷◌, ◌++◌, Option, Some, None, IfSome}
use Rattle.raw_arena.specs.Arena.{IsLive}
use Rattle.std.specs.Ordering.{nat_cmp}
use Rattle.std.specs.FinMap as map
use Rattle.rb_rules.specs.declared.slot.Data.{Data}
use Rattle.rb_rules.specs.declared.slot.Side.{Side}
use Rattle.rb_rules.specs.declared.slot.Side.TheVariants.{Left, Right}
use Rattle.rb_rules.specs.declared.slot.Slot.{Slot}
use Rattle.rb_rules.specs.declared.weave.Weave.{Ghosts}
use Rattle.rb_rules.specs.Tree.{Tree, tip, Hole, plug, above, depth, root_of, height, count}
use Rattle.rb_rules.specs.Colours.{Balanced}
use Rattle.rb_rules.specs.Memory.{sided, Made, Stands, place_of}
use Rattle.rb_rules.specs.Weaving.{Weaving, summed}
use Rattle.rb_rules.specs.Woven.{Woven, Valued, lefts, rights, shift_at}
use Rattle.rb_arena.specs.declared.links.Links.{Links}
use Rattle.rb_arena.specs.Relative.{LawsOf, RelativeBy, RelativeItem, CanSumOver}
use Rattle.rb_arena.specs.Rising.{MendedBeside}

-- the shift of a node's subtree on that side, from the node's own shift
abbrev pub passed : {X S B : Type 0} → Weaving X S B → Side → B → B → B
passed w Left delta by = by
passed w Right delta by = w.plus delta by

abbrev pub above_place : Option (ℕ × Side) → Option ℕ
above_place None = None
above_place (Some at) = Some at.0

module _ {D : Type 0} (beside : Tree D) (m : map.FinMap nat_cmp (Slot D)) (root : Option ℕ) (place : Option (ℕ × Side)) where
  -- the place is that of the hole k in the tree in memory, with t in the hole
  abbrev pub HoleAt : Tree D → Hole D → Type 0
  HoleAt t k = (place ≡ place_of k) × Made beside m root (plug k t)

module _ {X S B : Type 0} (w : Weaving X S B) (is_near : B → Type 0) (beside : Tree (Data X S B))
    (m : map.FinMap nat_cmp (Slot (Data X S B))) (root : Option ℕ) (place : Option (ℕ × Side)) where
  -- the same for a tree with the right sums and at most 128 nodes above the hole
  abbrev pub WovenAt : Tree (Data X S B) → Hole (Data X S B) → Type 0
  WovenAt t k = HoleAt beside m root place t k × Woven w is_near w.still (plug k t) × (depth k ≤ 128)

  -- the item x may be put into the hole: all items and their sum are values afterwards
  abbrev pub CanTake : (X → Type 0) → (S → Type 0) → X → Hole (Data X S B) → Type 0
  CanTake is_item is_value x k =
      WovenAt tip k × Balanced (plug k tip) × Valued w is_item is_value (lefts w k ++ (0, x) ∷ rights w k)

-- the form in which a node keeps an item, below a path with the shift `by`
abbrev pub kept_below : {X S B : Type 0} → Weaving X S B → B → X → X
kept_below w by x = w.shift (w.minus w.still by) x

-- the data of a leaf with an item, below a path with the shift `by`
abbrev pub leaf_below : {X S B : Type 0} → Weaving X S B → B → X → Data X S B
leaf_below w by x = summed w (kept_below w by x) w.still w.none w.none

-- the data of a leaf with an item in a hole
abbrev pub leaf_of : {X S B : Type 0} → Weaving X S B → Hole (Data X S B) → X → Data X S B
leaf_of w k x = leaf_below w (shift_at w k) x

-- the slot of a leaf with an item in a hole
abbrev pub leaf_for : {X S B : Type 0} → Weaving X S B → Hole (Data X S B) → X → Slot (Data X S B)
leaf_for w k x = sided Left (above k) None None true (leaf_of w k x)

-- the node `id` is a leaf for the hole, and is in neither tree
abbrev pub IsLeaf : {X S B : Type 0} → Weaving X S B → Tree (Data X S B) → map.FinMap nat_cmp (Slot (Data X S B)) → ℕ → X
    → Hole (Data X S B) → Type 0
IsLeaf w beside m id x k =
    (map.get m id ≡ Some (leaf_for w k x)) × (count id (plug k tip) + count id beside ≡ 0)

-- the subtree t hangs at the place and has a height of at most 128
abbrev pub StartsAt : {D : Type 0} → Tree D → map.FinMap nat_cmp (Slot D) → Option ℕ → Option (ℕ × Side) → Option ℕ
    → Tree D → Hole D → Type 0
StartsAt beside m root from below t k = HoleAt beside m root from t k × (below ≡ root_of t) × (height t ≤ 128)

-- the place on the right of a node, or that of the root
abbrev pub right_of : Option ℕ → Option (ℕ × Side)
right_of None = None
right_of (Some id) = Some (id, Right)

-- the subtree t hangs there and has a height of at most 128
abbrev pub HangsAfter : {D : Type 0} → Tree D → map.FinMap nat_cmp (Slot D) → Option ℕ → Option ℕ → Tree D → Hole D → Type 0
HangsAfter beside m root id t k = HoleAt beside m root (right_of id) t k × (height t ≤ 128)

module _ {D : Type 0} (tree : Links D) where
  -- a subtree with the root `below` hangs at the place `from`
  abbrev pub Hangs : Option (ℕ × Side) → Option ℕ → Type 0
  Hangs from below = (beside : Tree D) × ((t : Tree D) × ((k : Hole D) × StartsAt beside tree.nodes.live tree.root from below t k))

  -- the node stands in the tree
  unfoldable pub IsThere : ℕ → Type 0
  IsThere id = Stands tree.nodes.live tree.root id

  -- P holds of each subtree that hangs there and of its hole
  abbrev pub WhereHangs : Option (ℕ × Side) → Option ℕ → (Tree D → Hole D → Type 0) → Type 0
  WhereHangs from below P = (beside t : Tree D) (k : Hole D) → StartsAt beside tree.nodes.live tree.root from below t k → P t k

  -- the same on the right of a node, or for the whole tree
  abbrev pub HangsRight : Option ℕ → Type 0
  HangsRight id = (beside : Tree D) × ((t : Tree D) × ((k : Hole D) × HangsAfter beside tree.nodes.live tree.root id t k))

  abbrev pub WhereHangsRight : Option ℕ → (Tree D → Hole D → Type 0) → Type 0
  WhereHangsRight id P = (beside t : Tree D) (k : Hole D) → HangsAfter beside tree.nodes.live tree.root id t k → P t k

module _ {W X S B K : Type 0} (w : Ghosts W X S B K) where
  -- the item is a value, and so is its sum alone
  unfoldable pub IsValueAlone : X → Type 0
  IsValueAlone item = Valued w.weaving w.is_item w.is_value ((0, item) ∷ [])

  -- the shift of a node's subtree on that side is the difference of two shifts that a path may have
  unfoldable pub CanPass : Side → B → B → Type 0
  CanPass side delta by = RelativeBy w (passed w.weaving side delta by)

  -- each intermediate result for the kept form of an item, below a path with the shift `by`, is relative to a path
  unfoldable pub CanKeep : B → X → Type 0
  CanKeep by item =
      RelativeBy w (w.weaving.minus w.weaving.still by) × RelativeItem w (kept_below w.weaving by item)

  -- each intermediate result for the data of a leaf is so too
  unfoldable pub CanKeepAlone : B → X → Type 0
  CanKeepAlone by item =
      CanKeep by item × CanSumOver w (kept_below w.weaving by item) w.weaving.still w.weaving.none w.weaving.none

  module _ (tree : Links (Data X S B)) (at : Option (ℕ × Side)) where
    -- the place is that of a hole of a tree with the right sums
    abbrev pub WovenIn : Tree (Data X S B) → Tree (Data X S B) → Hole (Data X S B) → Type 0
    WovenIn beside t k = WovenAt w.weaving w.is_near beside tree.nodes.live tree.root at t k

    -- there is such a tree
    unfoldable pub IsWovenPlace : Type 0
    IsWovenPlace =
        LawsOf w × ((beside : Tree (Data X S B)) × ((t : Tree (Data X S B)) × ((k : Hole (Data X S B)) × WovenIn beside t k)))

    -- P holds of each such hole
    abbrev pub AtWovenPlace : (Hole (Data X S B) → Type 0) → Type 0
    AtWovenPlace P = (beside t : Tree (Data X S B)) (k : Hole (Data X S B)) → WovenIn beside t k → P k

    -- `by` is the sum of the shifts on the path to the place
    unfoldable pub IsShiftTo : B → Type 0
    IsShiftTo by = AtWovenPlace (λ k. by ≡ shift_at w.weaving k)

    -- `steps` is at most the number of nodes above the place
    unfoldable pub StepsTo : ℕ → Type 0
    StepsTo steps = AtWovenPlace (λ k. steps ≤ depth k)

    -- A walk up from the place has passed `turn` nodes, whose shifts add up to `by`, and is at the place `now`. The node of that place,
    -- if any, is in the tree, and the shifts on the rest of the path make up the remainder.
    unfoldable pub PathSoFar : Option (ℕ × Side) → B → ℕ → Type 0
    PathSoFar now by turn =
        IfSome now (λ a. Stands tree.nodes.live tree.root a.0 × IsLive tree.nodes a.0)
        × ((beside t : Tree (Data X S B)) (k : Hole (Data X S B)) → WovenIn beside t k
        → ((k2 : Hole (Data X S B)) × ((t2 : Tree (Data X S B)) × (now ≡ place_of k2)
        × Made beside tree.nodes.live tree.root (plug k2 t2) × Woven w.weaving w.is_near w.weaving.still (plug k2 t2)
        × (shift_at w.weaving k ≡ w.weaving.plus (shift_at w.weaving k2) by) × (depth k2 ≤ depth k - turn)))
        × w.is_near (shift_at w.weaving k) × (turn ≤ depth k))

    -- the slot is that of a leaf with the item, for each hole at the place
    unfoldable pub IsLeafFor : X → Slot (Data X S B) → Type 0
    IsLeafFor item slot = AtWovenPlace (λ k. slot ≡ leaf_for w.weaving k item)

    -- the item may be put into the hole, with all shifts within the reach
    abbrev pub TakesIn : B → Tree (Data X S B) → X → Hole (Data X S B) → Type 0
    TakesIn reach beside item k = CanTake w.weaving (w.within reach) beside tree.nodes.live tree.root at w.is_item w.is_value item k

    -- there are such a hole and such a reach
    unfoldable pub Takes : X → Type 0
    Takes item =
        LawsOf w × ((reach : B) × ((beside : Tree (Data X S B)) × ((k : Hole (Data X S B)) × TakesIn reach beside item k)))

    -- also, the node is in neither tree
    unfoldable pub TakesNode : ℕ → X → Type 0
    TakesNode id item =
        LawsOf w × ((reach : B) × ((beside : Tree (Data X S B)) × ((k : Hole (Data X S B)) × TakesIn reach beside item k
        × (count id (plug k tip) + count id beside ≡ 0))))

    -- the node is a leaf for the place
    unfoldable pub TakesLeaf : ℕ → Type 0
    TakesLeaf id =
        LawsOf w × ((reach : B) × ((beside : Tree (Data X S B)) × ((k : Hole (Data X S B)) × ((x : X)
        × TakesIn reach beside x k × IsLeaf w.weaving beside tree.nodes.live id x k))))

  module _ (old new : Links (Data X S B)) (at : Option (ℕ × Side)) (id : ℕ) where
    -- any tree with that place lists the item there under that name, and is red-black
    unfoldable pub ListsAt : X → Type 0
    ListsAt item =
        (reach : B) (beside : Tree (Data X S B)) (k : Hole (Data X S B)) → TakesIn old at reach beside item k
        → MendedBeside w reach beside new (lefts w.weaving k ++ (id, item) ∷ rights w.weaving k)

    -- the same for a node that was in neither tree
    unfoldable pub ListsNodeAt : X → Type 0
    ListsNodeAt item =
        (reach : B) (beside : Tree (Data X S B)) (k : Hole (Data X S B)) → TakesIn old at reach beside item k
        → count id (plug k tip) + count id beside ≡ 0
        → MendedBeside w reach beside new (lefts w.weaving k ++ (id, item) ∷ rights w.weaving k)

    -- the same for a node that was a leaf for the place
    unfoldable pub ListsLeafAt : Type 0
    ListsLeafAt =
        (reach : B) (beside : Tree (Data X S B)) (k : Hole (Data X S B)) (x : X) → TakesIn old at reach beside x k
        → IsLeaf w.weaving beside old.nodes.live id x k
        → MendedBeside w reach beside new (lefts w.weaving k ++ (id, x) ∷ rights w.weaving k)
