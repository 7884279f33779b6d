-- Trees that are stored in a memory of slots.
use Rattle.std.specs.Prelude.{cond, ◌==◌, ◌≡◌, ℕ, ◌+◌, ◌≤◌, Bool, Option, Some, None}
use Rattle.std.specs.Ordering.{nat_cmp}
use Rattle.std.specs.FinMap as map
use Rattle.rb_rules.specs.declared.slot.Side.{Side}
use Rattle.rb_rules.specs.declared.slot.Side.TheVariants.{Left, Right}
use Rattle.rb_rules.specs.declared.slot.Slot.{Slot}
use Rattle.rb_rules.specs.Tree.{plug, Tree, tip, fork, Hole, top, on, root_of, above, count}

module _ {D : Type 0} where
  -- a slot with x on that side and y on the other
  abbrev pub sided : Side → Option ℕ → Option ℕ → Option ℕ → Bool → D → Slot D
  sided Left p x y c d = record { parent = p; left = x; right = y; red = c; «data» = d }
  sided Right p x y c d = record { parent = p; left = y; right = x; red = c; «data» = d }

module _ {D : Type 0} (m : map.FinMap nat_cmp (Slot D)) where
  -- the tree is in the memory, below the parent p
  abbrev pub Makes : Option ℕ → Tree D → Type 0
  Makes p tip = Unit {0}
  Makes p (fork c i d x y) = (map.get m i ≡ Some (sided Left p (root_of x) (root_of y) c d)) × Makes (Some i) x × Makes (Some i) y

  -- the tree around the hole is in the memory, with the root `root`; o is the name of what fills the hole
  abbrev pub Around : Option ℕ → Hole D → Option ℕ → Type 0
  Around root top o = root ≡ o
  Around root (on s c i d x k) o = (map.get m i ≡ Some (sided s (above k) o (root_of x) c d)) × Makes (Some i) x × Around root k (Some i)

-- the tree is in the memory with the root `root`, and another tree is beside it; no name occurs twice in the two
pub record Made {D : Type 0} (beside : Tree D) (m : map.FinMap nat_cmp (Slot D)) (root : Option ℕ) (t : Tree D) : Type 0 where
  pub from : root ≡ root_of t
  pub nodes : Makes m None t
  pub aside : Makes m None beside
  pub once : (j : ℕ) → count j t + count j beside ≤ 1

module _ {D : Type 0} where
  -- the link on that side
  abbrev pub child : Side → Slot D → Option ℕ
  child Left s = s.left
  child Right s = s.right

  -- the side of a child: left if it is the left child, otherwise right
  abbrev pub side_by_name : Slot D → ℕ → Side
  side_by_name s i = elim s.left [ None ↦ Right | Some l ↦ cond (l == i) Left Right ]

  abbrev pub with_child : Side → Option ℕ → Slot D → Slot D
  with_child Left o s = record s { left = o }
  with_child Right o s = record s { right = o }

  -- the node above a hole and the side of that node; None for the hole at the root
  abbrev pub place_of : Hole D → Option (ℕ × Side)
  place_of top = None
  place_of (on s c i d x k) = Some (i, s)

  -- the slot with that name is changed by f
  abbrev pub updated : map.FinMap nat_cmp (Slot D) → ℕ → (Slot D → Slot D) → Option (Slot D) → map.FinMap nat_cmp (Slot D)
  updated m i f None = m
  updated m i f (Some s) = map.insert m i (f s)

  -- the parent of a node is set; nothing changes for None
  abbrev pub adopted : map.FinMap nat_cmp (Slot D) → Option ℕ → Option ℕ → map.FinMap nat_cmp (Slot D)
  adopted m None p = m
  adopted m (Some i) p = updated m i (λ s. record s { parent = p }) (map.get m i)

  -- the child link at a place is set; nothing changes for None
  abbrev pub hung : map.FinMap nat_cmp (Slot D) → Option (ℕ × Side) → Option ℕ → map.FinMap nat_cmp (Slot D)
  hung m None o = m
  hung m (Some at) o = updated m at.0 (with_child at.1 o) (map.get m at.0)

abbrev pub root_hung : Option ℕ → Option (ℕ × Side) → Option ℕ → Option ℕ
root_hung root None o = o
root_hung root (Some at) o = root

-- the surroundings of a node in a tree: the tree around it, its colour, data and subtrees, and the tree beside
pub record Spot (D : Type 0) : Type 0 where
  pub beside : Tree D
  pub hole : Hole D
  pub red : Bool
  pub datum : D
  pub left : Tree D
  pub right : Tree D

module _ {D : Type 0} where
  abbrev pub here : Spot D → ℕ → Tree D
  here s i = fork s.red i s.datum s.left s.right

  abbrev pub below : Side → Spot D → Tree D
  below Left s = s.left
  below Right s = s.right

  module _ (m : map.FinMap nat_cmp (Slot D)) (root : Option ℕ) (i : ℕ) where
    -- the node is in the tree in memory
    abbrev pub Stands : Type 0
    Stands = (s : Spot D) × Made s.beside m root (plug s.hole (here s i))

    -- P holds of each spot at which the node is
    abbrev pub AtSpot : (Spot D → Type 0) → Type 0
    AtSpot P = (s : Spot D) → Made s.beside m root (plug s.hole (here s i)) → P s

  -- A rotation: the child on that side comes above the node. Each place keeps its colour.
  abbrev pub turned : Side → D → D → Tree D → Tree D
  turned Left low high (fork a n dn (fork b c dc out mid) far) = fork a c high out (fork b n low mid far)
  turned Right low high (fork a n dn far (fork b c dc mid out)) = fork a c high (fork b n low far mid) out
  turned s low high t = t
