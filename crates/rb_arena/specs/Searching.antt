-- The answer of a search in a list, and its position on the way down a tree.
use Rattle.std.specs.Prelude.{◌≡◌, ℕ, ◌*◌, ◌≤◌, ◌⊎◌, List, [], ◌∷◌, ◌++◌, Option, Some, None}
use Rattle.rb_rules.specs.declared.slot.Data.{Data}
use Rattle.rb_rules.specs.declared.slot.Slot.{Slot}
use Rattle.rb_rules.specs.declared.weave.Turn.{Turn}
use Rattle.rb_rules.specs.declared.weave.Turn.TheVariants.{Stop, Left, Right}
use Rattle.rb_rules.specs.declared.weave.Weave.{Ghosts}
use Rattle.rb_rules.specs.Tree.{Tree, Hole, plug, root_of, height}
use Rattle.rb_rules.specs.Memory.{Made, Spot, here}
use Rattle.rb_rules.specs.Weaving.{Weaving}
use Rattle.rb_rules.specs.Woven.{sum_of, Woven, Valued, entries, rights, shift_at, whole_in}
use Rattle.rb_arena.specs.declared.descend.Next.{Next}
use Rattle.rb_arena.specs.declared.descend.Next.TheVariants as next
use Rattle.rb_arena.specs.declared.descend.Standing.{Standing}
use Rattle.rb_arena.specs.declared.links.Links.{Links}
use Rattle.rb_arena.specs.RbTree.{SplitsAt}

module _ {X S B : Type 0} (w : Weaving X S B) where
  -- the sum of the items before an item, with that item added
  abbrev pub past_item : X → S → S
  past_item x before = w.join before (w.one x)

  -- the sum of the items in the subtree at the position of a search, and that with the items before it added
  abbrev pub inside : Links (Data X S B) → Standing X S B → S
  inside tree s = w.shift_sum s.by (whole_in w tree.nodes.live s.at)

  abbrev pub past_subtree : Links (Data X S B) → Standing X S B → S
  past_subtree tree s = w.join s.before (inside tree s)

  -- the position after a search goes right from a node, below a path with the shift `by`
  abbrev pub right_of_node : B → Slot (Data X S B) → ℕ × X × S → Standing X S B
  right_of_node by slot asked =
      record { at = slot.right; by = w.plus by slot.«data».delta; before = past_item asked.1 asked.2; last = Some asked }

  -- the items after a node
  abbrev pub items_after : Spot (Data X S B) → List (ℕ × X)
  items_after s = entries w (w.plus (shift_at w s.hole) s.datum.delta) s.right ++ rights w s.hole

module _ {X S B Key : Type 0} (w : Weaving X S B) (turn : Key → S → X → Turn) (key : Key) where
  -- the direction of the search at the item x, with the items us before it
  abbrev pub Says : List (ℕ × X) → X → Turn → Type 0
  Says us x t = turn key (sum_of w us) x ≡ t

  -- no item is before the place, or the search goes right at the last of them
  abbrev pub RightBefore : List (ℕ × X) → Type 0
  RightBefore us = (us ≡ []) ⊎ ((ws : List (ℕ × X)) × ((e : ℕ × X) × (us ≡ ws ++ e ∷ []) × Says ws e.1 Right))

  -- no item is after the place, or the search goes left at the first of them
  abbrev pub LeftAfter : List (ℕ × X) → List (ℕ × X) → Type 0
  LeftAfter us vs = (vs ≡ []) ⊎ ((e : ℕ × X) × ((ws : List (ℕ × X)) × (vs ≡ e ∷ ws) × Says us e.1 Left))

  -- The search ends at x, between us and vs: it stops there, or it goes left and the item before is missing or goes right, or it goes
  -- right and the item after is missing or goes left.
  abbrev pub EndsAt : List (ℕ × X) → ℕ → X → List (ℕ × X) → Type 0
  EndsAt us id x vs = Says us x Stop ⊎ ((Says us x Left × RightBefore us) ⊎ (Says us x Right × LeftAfter (us ++ (id, x) ∷ []) vs))

  -- the answer: an item at which the search ends, with the sum of the items before it; None if the list is empty
  abbrev pub Found : List (ℕ × X) → Option (ℕ × X × S) → Type 0
  Found items None = items ≡ []
  Found items (Some f) =
      (us : List (ℕ × X)) × ((vs : List (ℕ × X)) × SplitsAt items f.0 us f.1 vs × (f.2 ≡ sum_of w us) × EndsAt us f.0 f.1 vs)

  -- the item compared last is the last of us, and the search goes right at it; None if us is empty
  abbrev pub AskedBefore : List (ℕ × X) → Option (ℕ × X × S) → Type 0
  AskedBefore us None = us ≡ []
  AskedBefore us (Some f) = (ws : List (ℕ × X)) × (us ≡ ws ++ (f.0, f.1) ∷ []) × (f.2 ≡ sum_of w ws) × Says ws f.1 Right

  -- the item compared last is the first of vs, which come after us, and the search goes left at it; None if vs is empty
  abbrev pub AskedAfter : List (ℕ × X) → List (ℕ × X) → Option (ℕ × X × S) → Type 0
  AskedAfter us vs None = vs ≡ []
  AskedAfter us vs (Some f) = (ws : List (ℕ × X)) × (vs ≡ (f.0, f.1) ∷ ws) × (f.2 ≡ sum_of w us) × Says us f.1 Left

  -- the item compared last is next to the subtree with the items ts, between us and vs; None if us and vs are empty
  abbrev pub AskedLast : List (ℕ × X) → List (ℕ × X) → List (ℕ × X) → Option (ℕ × X × S) → Type 0
  AskedLast us ts vs None = (us ≡ []) × (vs ≡ [])
  AskedLast us ts vs (Some f) = AskedBefore us (Some f) ⊎ AskedAfter (us ++ ts) vs (Some f)

  -- The search among some items is at a subtree. It goes right at the item before the subtree and left at the item after it.
  pub record StandsIn (whole : Tree (Data X S B)) (items : List (ℕ × X)) (s : Standing X S B) : Type 0 where
    pub hole : Hole (Data X S B)
    pub subtree : Tree (Data X S B)
    pub earlier : List (ℕ × X)
    pub same : plug hole subtree ≡ whole
    pub listed : items ≡ earlier ++ (entries w (shift_at w hole) subtree ++ rights w hole)
    pub at_is : s.at ≡ root_of subtree
    pub by_is : s.by ≡ shift_at w hole
    pub before_is : s.before ≡ sum_of w earlier
    pub right_before : RightBefore earlier
    pub left_after : LeftAfter (earlier ++ entries w (shift_at w hole) subtree) (rights w hole)
    pub asked : AskedLast earlier (entries w (shift_at w hole) subtree) (rights w hole) s.last

  -- the search has found its item, or is at a subtree
  abbrev pub StandsNext : Tree (Data X S B) → List (ℕ × X) → Next X S B → Type 0
  StandsNext whole items (next.Stop f) = Found items (Some f)
  StandsNext whole items (next.Down s) = StandsIn whole items s

module _ {W X S B K : Type 0} (w : Ghosts W X S B K) (tree : Links (Data X S B)) where
  -- the tree keeps the right sums
  abbrev pub KeepsSums : Tree (Data X S B) → Type 0
  KeepsSums t = Woven w.weaving w.is_near w.weaving.still t

  -- P holds of each tree in memory that has the right sums and a height of at most n
  abbrev pub WhereWoven : ℕ → (Tree (Data X S B) → Type 0) → Type 0
  WhereWoven n P =
      (beside t : Tree (Data X S B)) → Made beside tree.nodes.live tree.root t → KeepsSums t → height t ≤ n → P t

  module _ (n : ℕ) (Stands : Tree (Data X S B) → List (ℕ × X) → Type 0) where
    -- a search among some values is in that state, in a tree with the right sums
    abbrev pub IsSearched : Type 0
    IsSearched =
        (beside : Tree (Data X S B)) × ((t : Tree (Data X S B)) × ((items : List (ℕ × X)) × Made beside tree.nodes.live tree.root t
        × KeepsSums t × Valued w.weaving w.is_item w.is_value items × (height t ≤ n) × Stands t items))

    -- P holds of each tree and each list of items for which the search is in that state
    abbrev pub WhereSearched : (Tree (Data X S B) → List (ℕ × X) → Type 0) → Type 0
    WhereSearched P = WhereWoven n (λ t. (items : List (ℕ × X)) → Stands t items → P t items)

  -- the answer is right for the items
  abbrev pub IsAnswer : K → Option (ℕ × X × S) → Tree (Data X S B) → List (ℕ × X) → Type 0
  IsAnswer key found t items = Found w.weaving w.turn key items found

  -- `steps` is at most the number of nodes on the longest path
  abbrev pub IsOnPath : ℕ → Tree (Data X S B) → List (ℕ × X) → Type 0
  IsOnPath steps t items = steps ≤ height t

  -- a search that goes down from the position `from`
  module _ (n : ℕ) (key : K) (from : Standing X S B) where
    abbrev GoesDown : Tree (Data X S B) → List (ℕ × X) → Type 0
    GoesDown t items = StandsIn w.weaving w.turn key t items from

    unfoldable pub CanGoDown : Type 0
    CanGoDown = IsSearched n GoesDown

    unfoldable pub FindsBelow : Option (ℕ × X × S) → Type 0
    FindsBelow found = WhereSearched n GoesDown (IsAnswer key found)

    unfoldable pub StepsBelow : ℕ → Type 0
    StepsBelow steps = WhereSearched n GoesDown (IsOnPath steps)

  -- a search that goes on with `next`
  module _ (n : ℕ) (key : K) (next : Next X S B) where
    abbrev GoesNext : Tree (Data X S B) → List (ℕ × X) → Type 0
    GoesNext t items = StandsNext w.weaving w.turn key t items next

    unfoldable pub CanGoOn : Type 0
    CanGoOn = IsSearched n GoesNext

    unfoldable pub FindsOn : Option (ℕ × X × S) → Type 0
    FindsOn found = WhereSearched n GoesNext (IsAnswer key found)

    unfoldable pub StepsOn : ℕ → Type 0
    StepsOn steps = WhereSearched n GoesNext (IsOnPath steps)

  module _ (n id : ℕ) where
    -- the whole tree with the node at the spot
    abbrev pub whole_of : Spot (Data X S B) → Tree (Data X S B)
    whole_of s = plug s.hole (here s id)

    -- the node is in a tree with the right sums, and the items after it are values
    unfoldable pub CanSearchAfter : Type 0
    CanSearchAfter =
        (s : Spot (Data X S B)) × Made s.beside tree.nodes.live tree.root (whole_of s) × KeepsSums (whole_of s) × (height (whole_of s) ≤ n)
        × Valued w.weaving w.is_item w.is_value (items_after w.weaving s)

    -- P holds of each such tree and of the items after the node
    abbrev pub WhereAfter : (Tree (Data X S B) → List (ℕ × X) → Type 0) → Type 0
    WhereAfter P =
        (s : Spot (Data X S B)) → Made s.beside tree.nodes.live tree.root (whole_of s) → KeepsSums (whole_of s) → height (whole_of s) ≤ n
        → P (whole_of s) (items_after w.weaving s)

    -- the search among those items goes on with `how`
    unfoldable pub GoesOn : K → Next X S B → Type 0
    GoesOn key how = WhereAfter (λ t items. StandsNext w.weaving w.turn key t items how)

    -- `steps` is at most `times` times the number of nodes on the longest path
    unfoldable pub StepsAfter : ℕ → ℕ → Type 0
    StepsAfter times steps = WhereAfter (λ t items. steps ≤ times * height t)
