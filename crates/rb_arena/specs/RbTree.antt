-- The tree as a contract sees it: its items in order, each with its name.
use Rattle.std.specs.Prelude.{◌≡◌, ℕ, zero, suc, ◌+◌, ◌<◌, ◌^◌, List, [], length, ◌∷◌, ◌++◌, Option, Some, None, IsSome, refl}
use Rattle.std.specs.Coded.{Coded, code_by, coded×, coded_list, coded_ℕ}
use Rattle.std.specs.Ordering.{nat_cmp}
use Rattle.std.specs.FinMap as map
use Rattle.rb_rules.specs.declared.slot.Data.{Data}
use Rattle.rb_rules.specs.declared.slot.Side.{Side}
use Rattle.rb_rules.specs.declared.slot.Side.TheVariants.{Left, Right}
use Rattle.rb_rules.specs.declared.slot.Slot.{Slot}
use Rattle.rb_rules.specs.declared.weave.Weave.{Ghosts}
use Rattle.rb_rules.specs.Tree.{Tree, tip, fork, Hole, top, on, root_of, above, other}
use Rattle.rb_rules.specs.Colours.{Balanced}
use Rattle.rb_rules.specs.Memory.{Made, Spot, below}
use Rattle.rb_rules.specs.Weaving.{Weaving}
use Rattle.rb_rules.specs.Woven.{entries, sum_of, Woven, Valued, AllItems}
use Rattle.rb_rules.specs.Shifts.{shifted}
use Rattle.rb_arena.specs.declared.links.Links.{Links}
use Rattle.rb_arena.specs.Names.{HaveOwnNames}
use Rattle.rb_arena.specs.Relative.{LawsOf}

-- the items in order, each with its name; the loose items, which were lifted out of the list; the number of further items there is room
-- for
pub record Listed (X : Type 0) : Type 0 where
  pub items : List (ℕ × X)
  pub loose : List (ℕ × X)
  pub spare : ℕ

module _ {X : Type 0} where
  abbrev pub listed : List (ℕ × X) → List (ℕ × X) → ℕ → Listed X
  listed items loose spare = record { items = items; loose = loose; spare = spare }

  abbrev pub listed_code : Coded X → Coded (Listed X)
  listed_code c =
      let entries = coded_list (coded× coded_ℕ c) in
      code_by (List (ℕ × X) × (List (ℕ × X) × ℕ)) (coded× entries (coded× entries coded_ℕ))
      (λ l. (l.items, (l.loose, l.spare))) (λ p. listed p.0 p.1.0 p.1.1) (λ _. refl)

  -- the items are us, then x under that name, and then vs
  abbrev pub SplitsAt : List (ℕ × X) → ℕ → List (ℕ × X) → X → List (ℕ × X) → Type 0
  SplitsAt items id us x vs = items ≡ us ++ (id, x) ∷ vs

  -- there is an item with that name
  abbrev pub IsItem : List (ℕ × X) → ℕ → Type 0
  IsItem items id = (us : List (ℕ × X)) × ((x : X) × ((vs : List (ℕ × X)) × SplitsAt items id us x vs))

  -- there is an item with that name, or no name is given: the place right after it, or before all items
  abbrev pub PlaceAfter : List (ℕ × X) → Option ℕ → Type 0
  PlaceAfter items None = Unit {0}
  PlaceAfter items (Some id) = IsItem items id

  -- the list ends with the item of that name; for None, it is empty
  abbrev pub EndsWith : List (ℕ × X) → Option ℕ → Type 0
  EndsWith us None = us ≡ []
  EndsWith us (Some id) = (ws : List (ℕ × X)) × ((x : X) × (us ≡ ws ++ (id, x) ∷ []))

  -- the items are us and then vs; vs are those after the item of that name, or all of them for None
  abbrev pub SplitsAfter : List (ℕ × X) → Option ℕ → List (ℕ × X) → List (ℕ × X) → Type 0
  SplitsAfter items id us vs = (items ≡ us ++ vs) × EndsWith us id

  -- P holds of the items before the item with that name, of that item, and of those after it
  abbrev pub AtItem : List (ℕ × X) → ℕ → (List (ℕ × X) → X → List (ℕ × X) → Type 0) → Type 0
  AtItem items id P = (us : List (ℕ × X)) (x : X) (vs : List (ℕ × X)) → SplitsAt items id us x vs → P us x vs

  -- the new list is the old one without the item of that name
  abbrev pub LeavesOut : List (ℕ × X) → List (ℕ × X) → ℕ → Type 0
  LeavesOut old new id = AtItem old id (λ us x vs. new ≡ us ++ vs)

  -- the new list is the old one with the item of that name replaced
  abbrev pub HasInstead : List (ℕ × X) → List (ℕ × X) → ℕ → X → Type 0
  HasInstead old new id item = AtItem old id (λ us x vs. new ≡ us ++ (id, item) ∷ vs)

  -- the new loose items are the item of that name followed by the old ones
  abbrev pub HasLifted : Listed X → List (ℕ × X) → ℕ → Type 0
  HasLifted old new id = AtItem old.items id (λ us x vs. new ≡ (id, x) ∷ old.loose)

  -- the new list is the old one with that entry right after the item of that name
  abbrev pub HasAfter : List (ℕ × X) → List (ℕ × X) → ℕ → ℕ × X → Type 0
  HasAfter old new id entry = AtItem old id (λ us x vs. new ≡ us ++ (id, x) ∷ entry ∷ vs)

  -- the new list is the old one with that entry right after the item of that name, or before all items
  abbrev pub HasPut : List (ℕ × X) → List (ℕ × X) → Option ℕ → ℕ × X → Type 0
  HasPut old new None entry = new ≡ entry ∷ old
  HasPut old new (Some id) entry = HasAfter old new id entry

  -- P holds of the items up to that name and of those after it; for None, of no items and of all
  abbrev pub AtPlace : List (ℕ × X) → Option ℕ → (List (ℕ × X) → List (ℕ × X) → Type 0) → Type 0
  AtPlace items id P = (us vs : List (ℕ × X)) → SplitsAfter items id us vs → P us vs

  -- the list has a first item
  abbrev pub HasFront : List (ℕ × X) → Type 0
  HasFront items = (front : ℕ × X) × ((rest : List (ℕ × X)) × (items ≡ front ∷ rest))

  -- P holds of the first item and of the rest, if there is a first item
  abbrev pub AtFront : List (ℕ × X) → (ℕ × X → List (ℕ × X) → Type 0) → Type 0
  AtFront items P = (front : ℕ × X) (rest : List (ℕ × X)) → items ≡ front ∷ rest → P front rest

  -- the new list is the old one with the item added at the place, under the name of the front loose item
  abbrev pub HasLanded : Listed X → List (ℕ × X) → Option ℕ → X → Type 0
  HasLanded old new id item =
      (front : ℕ × X) (rest us vs : List (ℕ × X)) → old.loose ≡ front ∷ rest → SplitsAfter old.items id us vs
      → new ≡ us ++ (front.0, item) ∷ vs

  -- No name occurs twice, neither in one list nor in both. Proofs unfold this explicitly.
  unfoldable pub NamesDiffer : Listed X → Type 0
  NamesDiffer all = HaveOwnNames all.items all.loose

  -- the first item, if any
  abbrev pub front_of : List (ℕ × X) → Option (ℕ × X)
  front_of [] = None
  front_of (e ∷ es) = Some e

module _ {D : Type 0} where
  -- the tree in memory with that root, cut off at a depth of n nodes
  unfoldable pub grown : map.FinMap nat_cmp (Slot D) → ℕ → Option ℕ → Tree D
  grown m zero o = tip
  grown m (suc n) None = tip
  grown m (suc n) (Some i) = elim (map.get m i) [ None ↦ tip | Some s ↦ fork s.red i s.«data» (grown m n s.left) (grown m n s.right) ]

  -- the hole at a tree's first place
  abbrev pub first_hole : Hole D → Tree D → Hole D
  first_hole k tip = k
  first_hole k (fork c i d x y) = first_hole (on Left c i d y k) x

module _ {X S B : Type 0} (w : Weaving X S B) where
  -- the items of the tree; its height is at most 128
  abbrev pub items_in : map.FinMap nat_cmp (Slot (Data X S B)) → Option ℕ → List (ℕ × X)
  items_in m root = entries w w.still (grown m 128 root)

  -- the loose items; their chain is at most as long as the memory
  abbrev pub loose_in : map.FinMap nat_cmp (Slot (Data X S B)) → Option ℕ → List (ℕ × X)
  loose_in m front = entries w w.still (grown m (map.len m) front)

  -- The value of a tree in a contract. Proofs unfold this explicitly.
  unfoldable pub seen : Links (Data X S B) → Option ℕ → Listed X
  seen links front = listed (items_in links.nodes.live links.root) (loose_in links.nodes.live front) links.nodes.spare

  -- no node has a left subtree or a shift for its right one
  abbrev pub Chain : Tree (Data X S B) → Type 0
  Chain tip = Unit {0}
  Chain (fork c i d x y) = (x ≡ tip) × (d.delta ≡ w.still) × Chain y

module _ {X S B : Type 0} (w : Weaving X S B) (is_near : B → Type 0) (is_item : X → Type 0) (is_value : S → Type 0) where
  -- A red-black tree with the right sums is in the memory, over items that are values, and a chain of the loose nodes is beside it. Each
  -- node of the memory is in one of the two.
  pub record Keeps (m : map.FinMap nat_cmp (Slot (Data X S B))) (root front : Option ℕ) : Type 0 where
    pub beside : Tree (Data X S B)
    pub tree : Tree (Data X S B)
    pub made : Made beside m root tree
    pub first : front ≡ root_of beside
    pub chain : Chain w beside
    pub woven : Woven w is_near w.still tree
    pub balanced : Balanced tree
    pub values : Valued w is_item is_value (entries w w.still tree)
    pub all : length (entries w w.still tree) + length (entries w w.still beside) ≡ map.len m
    pub few : map.len m < 2 ^ 63

-- the same with all shifts within the reach
abbrev pub KeepsWithin : {W X S B K : Type 0} → Ghosts W X S B K → B → Links (Data X S B) → Option ℕ → Type 0
KeepsWithin w reach links front = Keeps w.weaving (w.within reach) w.is_item w.is_value links.nodes.live links.root front

-- a shift that takes a value to a value is not too great for any tree
abbrev pub ShiftsFit : {W X S B K : Type 0} → Ghosts W X S B K → Type 0
ShiftsFit {X} {B} w = (by : B) (x : X) → w.is_item x → w.is_item (w.weaving.shift by x) → IsSome (w.widened w.weaving.still by)

-- The tree is kept within the reach, and the laws of the weave hold. Proofs unfold this explicitly.
unfoldable pub Kept : {W X S B K : Type 0} → Ghosts W X S B K → B → Links (Data X S B) → Option ℕ → Type 0
Kept w reach links front = LawsOf w × ShiftsFit w × KeepsWithin w reach links front

-- the name of the first item, or o if there is none
abbrev pub first_or : {X : Type 0} → Option ℕ → List (ℕ × X) → Option ℕ
first_or o [] = o
first_or o (e ∷ es) = Some e.0

-- the sum of the items is a value once the item is added right after that of the given name
abbrev pub SumsTo : {X S B : Type 0} → Weaving X S B → (S → Type 0) → List (ℕ × X) → ℕ → X → Type 0
SumsTo w is_value items id item = AtItem items id (λ us x vs. is_value (sum_of w (us ++ (id, x) ∷ (0, item) ∷ vs)))

-- the same; for None the item is added before all others
abbrev pub SumsPut : {X S B : Type 0} → Weaving X S B → (S → Type 0) → List (ℕ × X) → Option ℕ → X → Type 0
SumsPut w is_value items None item = is_value (sum_of w ((0, item) ∷ items))
SumsPut w is_value items (Some id) item = SumsTo w is_value items id item

-- the nearest ancestor of a hole that comes after it in order
abbrev pub up_next : {D : Type 0} → Hole D → Option ℕ
up_next top = None
up_next (on Left c i d x k) = Some i
up_next (on Right c i d x k) = up_next k

abbrev pub with_item : {X S B : Type 0} → Data X S B → X → Data X S B
with_item d x = record { item = x; delta = d.delta; before = d.before; whole = d.whole }

-- the sum of the items is a value once the item replaces that of the given name
abbrev pub SumsWith : {X S B : Type 0} → Weaving X S B → (S → Type 0) → List (ℕ × X) → ℕ → X → Type 0
SumsWith w is_value items id item = AtItem items id (λ us x vs. is_value (sum_of w (us ++ (id, item) ∷ vs)))

-- the name of the last item, or o if there is none
abbrev pub last_or : {X : Type 0} → Option ℕ → List (ℕ × X) → Option ℕ
last_or o [] = o
last_or o (e ∷ es) = last_or (Some e.0) es

-- The name of the item at one end of the list. Proofs unfold this explicitly.
unfoldable pub name_at_end : {X : Type 0} → Side → List (ℕ × X) → Option ℕ
name_at_end Left items = first_or None items
name_at_end Right items = last_or None items

-- the name of the next item on that side of a place with the items us before it and vs after it
abbrev pub name_beside : {X : Type 0} → Side → List (ℕ × X) → List (ℕ × X) → Option ℕ
name_beside Left us vs = last_or None us
name_beside Right us vs = first_or None vs

-- `end` if the third name is given, otherwise `up`
abbrev pub nearest : Option ℕ → Option ℕ → Option ℕ → Option ℕ
nearest up end None = up
nearest up end (Some id) = end

module _ {D : Type 0} where
  -- the hole at a tree's last place
  abbrev pub last_hole : Hole D → Tree D → Hole D
  last_hole k tip = k
  last_hole k (fork c i d x y) = last_hole (on Right c i d x k) y

  -- the nearest ancestor of a hole that comes before it in order
  abbrev pub up_prev : Hole D → Option ℕ
  up_prev top = None
  up_prev (on Right c i d x k) = Some i
  up_prev (on Left c i d x k) = up_prev k

  -- the hole at the last place of a tree on that side
  abbrev pub end_hole : Side → Hole D → Tree D → Hole D
  end_hole Left k t = first_hole k t
  end_hole Right k t = last_hole k t

  -- the nearest ancestor of a hole that has it on that side
  abbrev pub up_on : Side → Hole D → Option ℕ
  up_on Left k = up_next k
  up_on Right k = up_prev k

  -- the next node on that side in order: the near end of the subtree on that side, or an ancestor if that subtree is empty
  abbrev pub neighbour_of : Side → ℕ → Spot D → Option ℕ
  neighbour_of side id s =
      let far = other side in let under = on side s.red id s.datum (below far s) s.hole in
      nearest (up_on far s.hole) (above (end_hole far under (below side s))) (root_of (below side s))

module _ {W X S B K : Type 0} (w : Ghosts W X S B K) (items : List (ℕ × X)) (id : Option ℕ) where
  -- each item after the place is a value once moved
  abbrev pub CanMoveAfter : B → Type 0
  CanMoveAfter by = AtPlace items id (λ us vs. AllItems w.weaving w.is_item (shifted w.weaving by vs))

  -- the sum of the items is a value once those after the place are moved
  abbrev pub SumsMoved : B → Type 0
  SumsMoved by = AtPlace items id (λ us vs. w.is_value (sum_of w.weaving (us ++ shifted w.weaving by vs)))

  -- the new list is the old one with the items after the place moved
  abbrev pub HasMoved : List (ℕ × X) → B → Type 0
  HasMoved new by = AtPlace items id (λ us vs. new ≡ us ++ shifted w.weaving by vs)

  -- the sum of the items is a value once the item is added at the place
  abbrev pub SumsLanded : X → Type 0
  SumsLanded item = AtPlace items id (λ us vs. w.is_value (sum_of w.weaving (us ++ (0, item) ∷ vs)))
