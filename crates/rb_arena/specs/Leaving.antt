-- Removal of a node from a tree in memory.
use Rattle.std.specs.Prelude.{◌≡◌, ℕ, ◌+◌, ◌<◌, ◌≤◌, ◌^◌, ◌⊎◌, Bool, true, false, List, length, ◌∷◌, ◌++◌, Option, None, Some}
use Rattle.std.specs.Ordering.{nat_cmp}
use Rattle.std.specs.FinMap as map
use Rattle.rb_rules.specs.declared.slot.Data.{Data}
use Rattle.rb_rules.specs.declared.slot.Side.{Side}
use Rattle.rb_rules.specs.declared.slot.Slot.{Slot}
use Rattle.rb_rules.specs.declared.weave.Weave.{Ghosts}
use Rattle.rb_rules.specs.Tree.{Tree, Hole, tip, fork, plug, depth, count, root_of}
use Rattle.rb_rules.specs.Colours.{Fits}
use Rattle.rb_rules.specs.Memory.{Made, place_of, Spot, Stands, here}
use Rattle.rb_rules.specs.Weaving.{Weaving}
use Rattle.rb_rules.specs.Woven.{Woven, Valued, lefts, rights, shift_at}
use Rattle.rb_rules.specs.Sound.{Slack}
use Rattle.rb_arena.specs.declared.links.Links.{Links}
use Rattle.rb_arena.specs.Relative.{LawsOf}
use Rattle.rb_arena.specs.Rising.{Mended, MendedBeside}

-- the number of black nodes on a path through a leaf of that colour
abbrev pub leaf_height : Bool → ℕ
leaf_height true = 0
leaf_height false = 1

-- the data of a loose node: its item in absolute form, no shift and empty sums
abbrev pub loose_data : {X S B : Type 0} → Weaving X S B → X → Data X S B
loose_data w x = record { item = x; delta = w.still; before = w.none; whole = w.none }

-- a chain with a loose node put in front
abbrev pub loosened : {X S B : Type 0} → Weaving X S B → ℕ → X → Tree (Data X S B) → Tree (Data X S B)
loosened w id x chain = fork false id (loose_data w x) tip chain

module _ {D : Type 0} (m : map.FinMap nat_cmp (Slot D)) (id : ℕ) where
  -- the node has at most one child
  unfoldable pub OneChild : Type 0
  OneChild = (n : Slot D) × (map.get m id ≡ Some n) × ((n.left ≡ None) ⊎ (n.right ≡ None))

  unfoldable pub NoChild : Type 0
  NoChild = (n : Slot D) × (map.get m id ≡ Some n) × (n.left ≡ None) × (n.right ≡ None)

module _ {X S B : Type 0} (w : Weaving X S B) (is_near : B → Type 0) (is_item : X → Type 0) (is_value : S → Type 0)
    (beside : Tree (Data X S B)) (m : map.FinMap nat_cmp (Slot (Data X S B))) (root : Option ℕ) where
  -- a red-black tree with the right sums and the items es lies in the memory
  abbrev pub Stores : List (ℕ × X) → Type 0
  Stores es = Mended w is_near beside m root es × Valued w is_item is_value es × (length es < 2 ^ 63)

  -- A tree with the hole k is in the memory. A leaf of the given colour was removed from the hole. The sums above it may be wrong.
  abbrev pub Emptied : Option (ℕ × Side) → Bool → Hole (Data X S B) → Type 0
  Emptied at red k =
      (at ≡ place_of k) × Made beside m root (plug k tip) × is_near (shift_at w k) × Slack w is_near k
      × Valued w is_item is_value (lefts w k ++ rights w k)
      × (depth k ≤ 128) × Fits red (leaf_height red) k

  -- The node `id` has been removed from a tree whose other items are es, and is in neither tree. The place is the one left empty.
  abbrev pub Unlinked : Option (ℕ × Side) → Bool → ℕ → List (ℕ × X) → Type 0
  Unlinked at red id es =
      (k : Hole (Data X S B)) × (lefts w k ++ rights w k ≡ es) × Emptied at red k × (count id (plug k tip) + count id beside ≡ 0)

-- the item x of a node, with the shifts of the node's path applied
abbrev pub shown : {X S B : Type 0} → Weaving X S B → Spot (Data X S B) → X → X
shown w s x = w.shift (shift_at w s.hole) x

module _ {X S B : Type 0} (w : Weaving X S B) (is_near : B → Type 0) (m : map.FinMap nat_cmp (Slot (Data X S B)))
    (root : Option ℕ) (id : ℕ) where
  -- a node of a tree with the right sums, with at most 128 nodes above it
  abbrev pub WovenSpot : Spot (Data X S B) → Type 0
  WovenSpot s = Made s.beside m root (plug s.hole (here s id)) × Woven w is_near w.still (plug s.hole (here s id)) × (depth s.hole ≤ 128)

module _ {W X S B K : Type 0} (w : Ghosts W X S B K) where
  module _ (tree : Links (Data X S B)) where
    -- the tree stores the items es, with all shifts within the reach, and another tree is beside it
    abbrev pub StoresBeside : B → Tree (Data X S B) → List (ℕ × X) → Type 0
    StoresBeside reach beside es = Stores w.weaving (w.within reach) w.is_item w.is_value beside tree.nodes.live tree.root es

    -- the tree stores some items within the reach
    unfoldable pub StoresWithin : B → Type 0
    StoresWithin reach = LawsOf w × ((beside : Tree (Data X S B)) × ((es : List (ℕ × X)) × StoresBeside reach beside es))

    -- the tree stores an item with the name `id`
    unfoldable pub StoresItem : ℕ → Type 0
    StoresItem id =
        LawsOf w × ((reach : B) × ((beside : Tree (Data X S B)) × ((us : List (ℕ × X)) × ((x : X) × ((vs : List (ℕ × X))
        × StoresBeside reach beside (us ++ (id, x) ∷ vs))))))

    -- the same, beside a chain whose first node is `front`, if any
    unfoldable pub StoresItemBeside : ℕ → Option ℕ → Type 0
    StoresItemBeside id front =
        LawsOf w × ((reach : B) × ((beside : Tree (Data X S B)) × ((us : List (ℕ × X)) × ((x : X) × ((vs : List (ℕ × X))
        × StoresBeside reach beside (us ++ (id, x) ∷ vs) × (front ≡ root_of beside))))))

    -- the tree stores an item with the name `id` and right after it one with the name `heir`, whose node is in the tree
    unfoldable pub StoresBoth : ℕ → ℕ → Type 0
    StoresBoth id heir =
        LawsOf w × Stands tree.nodes.live tree.root heir
        × ((reach : B) × ((beside : Tree (Data X S B)) × ((us : List (ℕ × X)) × ((x : X) × ((y : X) × ((vs : List (ℕ × X))
        × StoresBeside reach beside (us ++ (id, x) ∷ (heir, y) ∷ vs)))))))

    -- some tree has had a leaf removed at the place
    unfoldable pub IsEmptied : Option (ℕ × Side) → Bool → Type 0
    IsEmptied at red =
        LawsOf w × ((reach : B) × ((beside : Tree (Data X S B)) × ((k : Hole (Data X S B))
        × Emptied w.weaving (w.within reach) w.is_item w.is_value beside tree.nodes.live tree.root at red k)))

    -- the node is in a tree with the right sums
    unfoldable pub StandsWoven : ℕ → Type 0
    StandsWoven id = LawsOf w × ((s : Spot (Data X S B)) × WovenSpot w.weaving w.is_near tree.nodes.live tree.root id s)

    -- also, its item with the shifts of its path applied is a value
    unfoldable pub StandsValued : ℕ → Type 0
    StandsValued id =
        LawsOf w × ((s : Spot (Data X S B)) × WovenSpot w.weaving w.is_near tree.nodes.live tree.root id s
        × w.is_item (shown w.weaving s s.datum.item))

    -- P holds at each spot where the node is in such a tree
    abbrev pub AtWoven : ℕ → (Spot (Data X S B) → Type 0) → Type 0
    AtWoven id P = (s : Spot (Data X S B)) → WovenSpot w.weaving w.is_near tree.nodes.live tree.root id s → P s

    -- `item` is the node's item with the shifts of its path applied
    unfoldable pub IsShown : ℕ → X → Type 0
    IsShown id item = AtWoven id (λ s. item ≡ shown w.weaving s s.datum.item)

    -- `own` is the form in which the node keeps `item`
    unfoldable pub IsKept : ℕ → X → X → Type 0
    IsKept id item own = AtWoven id (λ s. shown w.weaving s own ≡ item)

  module _ (old new : Links (Data X S B)) where
    -- any tree that had a leaf removed there is red-black now and lists the same items
    unfoldable pub Settles : Option (ℕ × Side) → Bool → Type 0
    Settles at red =
        (reach : B) (beside : Tree (Data X S B)) (k : Hole (Data X S B))
        → Emptied w.weaving (w.within reach) w.is_item w.is_value beside old.nodes.live old.root at red k
        → MendedBeside w reach beside new (lefts w.weaving k ++ rights w.weaving k)

    -- any tree that stored an item with that name lists the same items
    unfoldable pub StillLists : ℕ → Type 0
    StillLists id =
        (reach : B) (beside : Tree (Data X S B)) (us : List (ℕ × X)) (x : X) (vs : List (ℕ × X))
        → StoresBeside old reach beside (us ++ (id, x) ∷ vs) → MendedBeside w reach beside new (us ++ (id, x) ∷ vs)

    -- the tree lists the same items without that one
    unfoldable pub Leaves : ℕ → Type 0
    Leaves id =
        (reach : B) (beside : Tree (Data X S B)) (us : List (ℕ × X)) (x : X) (vs : List (ℕ × X))
        → StoresBeside old reach beside (us ++ (id, x) ∷ vs) → MendedBeside w reach beside new (us ++ vs)

    -- the same, and the item is in front of the chain that began with `front`
    unfoldable pub Loosens : ℕ → Option ℕ → Type 0
    Loosens id front =
        (reach : B) (beside : Tree (Data X S B)) (us : List (ℕ × X)) (x : X) (vs : List (ℕ × X))
        → StoresBeside old reach beside (us ++ (id, x) ∷ vs) → front ≡ root_of beside
        → MendedBeside w reach (loosened w.weaving id x beside) new (us ++ vs)

    -- the node has been removed from the tree, which may need rebalancing at the place
    unfoldable pub Unlinks : ℕ → Option (ℕ × Side) → Bool → Type 0
    Unlinks id at red =
        (reach : B) (beside : Tree (Data X S B)) (us : List (ℕ × X)) (x : X) (vs : List (ℕ × X))
        → StoresBeside old reach beside (us ++ (id, x) ∷ vs)
        → Unlinked w.weaving (w.within reach) w.is_item w.is_value beside new.nodes.live new.root at red id (us ++ vs)

    -- the same for the item `id` right before the item `heir`
    unfoldable pub UnlinksBefore : ℕ → ℕ → Option (ℕ × Side) → Bool → Type 0
    UnlinksBefore heir id at red =
        (reach : B) (beside : Tree (Data X S B)) (us : List (ℕ × X)) (x y : X) (vs : List (ℕ × X))
        → StoresBeside old reach beside (us ++ (id, x) ∷ (heir, y) ∷ vs)
        → Unlinked w.weaving (w.within reach) w.is_item w.is_value beside new.nodes.live new.root at red id (us ++ (heir, y) ∷ vs)
