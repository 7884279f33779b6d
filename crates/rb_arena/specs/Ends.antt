-- The ends of a subtree in memory, and the next node on one side. Proofs unfold these definitions explicitly.
use Rattle.std.specs.Prelude.{◌≡◌, ℕ, ◌+◌, ◌≤◌, Option, Some, None, IfSome}
use Rattle.rb_rules.specs.declared.slot.Side.{Side}
use Rattle.rb_rules.specs.declared.slot.Side.TheVariants.{Left, Right}
use Rattle.rb_rules.specs.Tree.{Tree, tip, fork, Hole, top, on, other, plug, root_of, above, depth, height}
use Rattle.rb_rules.specs.Memory.{Made, Spot, here, below, Stands, place_of}
use Rattle.rb_arena.specs.declared.links.Links.{Links}
use Rattle.rb_arena.specs.Placing.{HoleAt, StartsAt, Hangs, WhereHangs, HangsRight, WhereHangsRight}
use Rattle.rb_arena.specs.RbTree.{first_hole, end_hole, up_on, neighbour_of}

module _ {D : Type 0} where
  -- the number of nodes on one edge of a tree
  abbrev pub edge : Side → Tree D → ℕ
  edge Left tip = 0
  edge Left (fork c i d x y) = 1 + edge Left x
  edge Right tip = 0
  edge Right (fork c i d x y) = 1 + edge Right y

  -- the number of nodes from a hole up to the nearest that has it on that side, or up to the root if there is none
  abbrev pub rise : Side → Hole D → ℕ
  rise Left top = 0
  rise Left (on Left c i d x k) = 1
  rise Left (on Right c i d x k) = 1 + rise Left k
  rise Right top = 0
  rise Right (on Left c i d x k) = 1 + rise Right k
  rise Right (on Right c i d x k) = 1

  -- the number of nodes on the way from a node to the next on that side
  abbrev pub way : Side → Spot D → ℕ
  way side s = elim (root_of (below side s)) [ None ↦ rise (other side) s.hole | Some i ↦ edge (other side) (below side s) ]

module _ {D : Type 0} (tree : Links D) where
  -- a subtree with the root `below` hangs at the place `from`
  unfoldable pub HangsAt : Option (ℕ × Side) → Option ℕ → Type 0
  HangsAt from below = Hangs tree from below

  -- `at` is the last place, on that side, of the subtree at `from`
  unfoldable pub IsEnd : Option (ℕ × Side) → Option ℕ → Side → Option (ℕ × Side) → Type 0
  IsEnd from below side at = WhereHangs tree from below (λ t k. at ≡ place_of (end_hole side k t))

  -- the node `id` is in the tree and a subtree hangs on its right; for None, the whole tree hangs at the root
  unfoldable pub HangsPast : Option ℕ → Type 0
  HangsPast id = IfSome id (λ i. Stands tree.nodes.live tree.root i) × HangsRight tree id

  -- `at` is the first place of that subtree
  unfoldable pub IsFirstPast : Option ℕ → Option (ℕ × Side) → Type 0
  IsFirstPast id at = WhereHangsRight tree id (λ t k. at ≡ place_of (first_hole k t))

  -- a walk to that end takes `steps` steps
  unfoldable pub EndsAfter : Option (ℕ × Side) → Option ℕ → Side → ℕ → Type 0
  EndsAfter from below side steps = WhereHangs tree from below (λ t k. steps ≡ edge side t)

  -- A walk to that end has reached a place after `gone` nodes. The subtree there has a height of at most n.
  unfoldable pub NearsEnd : Option (ℕ × Side) → Option ℕ → Side → Option (ℕ × Side) → Option ℕ → ℕ → ℕ → Type 0
  NearsEnd from below side at next n gone =
      (beside t : Tree D) (k : Hole D) → StartsAt beside tree.nodes.live tree.root from below t k
      → (t2 : Tree D) × ((k2 : Hole D) × HoleAt beside tree.nodes.live tree.root at t2 k2 × (next ≡ root_of t2) × (height t2 ≤ n)
      × (end_hole side k2 t2 ≡ end_hole side k t) × (gone + edge side t2 ≡ edge side t))

  -- the node is at the spot, on a path of at most 126 nodes
  abbrev pub LowAt : ℕ → Spot D → Type 0
  LowAt id s = Made s.beside tree.nodes.live tree.root (plug s.hole (here s id)) × (depth s.hole + height (here s id) ≤ 126)

  -- the node is at such a spot
  unfoldable pub StandsLow : ℕ → Type 0
  StandsLow id = (s : Spot D) × LowAt id s

  -- `found` is the nearest ancestor that has the node on that side, if any
  unfoldable pub IsAboveOn : ℕ → Side → Option ℕ → Type 0
  IsAboveOn id side found = (s : Spot D) → LowAt id s → found ≡ up_on side s.hole

  -- a walk up to that ancestor takes `steps` steps
  unfoldable pub RisesAfter : ℕ → Side → ℕ → Type 0
  RisesAfter id side steps = (s : Spot D) → LowAt id s → steps ≡ rise side s.hole

  -- `parent` is the node's parent, if any
  unfoldable pub IsParent : ℕ → Option ℕ → Type 0
  IsParent id parent = (s : Spot D) → LowAt id s → parent ≡ above s.hole

  -- `found` is the next node on that side, if any
  unfoldable pub IsBeside : ℕ → Side → Option ℕ → Type 0
  IsBeside id side found = (s : Spot D) → LowAt id s → found ≡ neighbour_of side id s

  -- a walk to that node takes `steps` steps
  unfoldable pub IsBesideAfter : ℕ → Side → ℕ → Type 0
  IsBesideAfter id side steps = (s : Spot D) → LowAt id s → steps ≡ way side s

  -- A walk up to that ancestor has reached the node `low` after `gone` nodes. At most n nodes are above `low`; `next` is its parent, if
  -- any.
  unfoldable pub NearsAbove : ℕ → Side → ℕ → Option ℕ → ℕ → ℕ → Type 0
  NearsAbove id side low next n gone =
      (s : Spot D) → LowAt id s
      → (q : Spot D) × Made q.beside tree.nodes.live tree.root (plug q.hole (here q low)) × (next ≡ above q.hole)
      × (up_on side q.hole ≡ up_on side s.hole) × (depth q.hole ≤ n) × (gone + rise side q.hole ≡ rise side s.hole)
