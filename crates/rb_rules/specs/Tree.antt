-- Binary trees whose nodes have a colour, a name and data, and trees with a hole.
use Rattle.std.specs.Prelude.{ℕ, ◌+◌, max, Bool, cond, eqb, Option, Some, None}
use Rattle.rb_rules.specs.declared.slot.Side.{Side}
use Rattle.rb_rules.specs.declared.slot.Side.TheVariants.{Left, Right}

-- a node is red or black, and has a name, data, a left subtree and a right subtree
pub data Tree (D : Type 0) : Type 0 where
  tip : Tree D
  fork : Bool → ℕ → D → Tree D → Tree D → Tree D

-- A tree with a hole, from the hole up. `on` gives a node with the hole on one side and its other subtree on the other.
pub data Hole (D : Type 0) : Type 0 where
  top : Hole D
  on : Side → Bool → ℕ → D → Tree D → Hole D → Hole D

abbrev pub other : Side → Side
other Left = Right
other Right = Left

module _ {D : Type 0} where
  -- a node with the subtree x on that side and y on the other
  abbrev pub forked : Side → Bool → ℕ → D → Tree D → Tree D → Tree D
  forked Left c i d x y = fork c i d x y
  forked Right c i d x y = fork c i d y x

  -- the tree with t in its hole
  abbrev pub plug : Hole D → Tree D → Tree D
  plug top t = t
  plug (on s c i d x k) t = plug k (forked s c i d t x)

  -- the name of the root
  abbrev pub root_of : Tree D → Option ℕ
  root_of tip = None
  root_of (fork c i d x y) = Some i

  -- the name of the node above the hole
  abbrev pub above : Hole D → Option ℕ
  above top = None
  above (on s c i d x k) = Some i

  -- the number of times that a name occurs in a tree, and around a hole
  abbrev pub count : ℕ → Tree D → ℕ
  count j tip = 0
  count j (fork c i d x y) = cond (eqb j i) 1 0 + (count j x + count j y)

  abbrev pub count_round : ℕ → Hole D → ℕ
  count_round j top = 0
  count_round j (on s c i d x k) = cond (eqb j i) 1 0 + (count j x + count_round j k)

  abbrev pub size : Tree D → ℕ
  size tip = 0
  size (fork c i d x y) = 1 + (size x + size y)

  -- the number of nodes on the longest path
  abbrev pub height : Tree D → ℕ
  height tip = 0
  height (fork c i d x y) = 1 + max (height x) (height y)

  -- the number of nodes above the hole
  abbrev pub depth : Hole D → ℕ
  depth top = 0
  depth (on s c i d x k) = 1 + depth k
