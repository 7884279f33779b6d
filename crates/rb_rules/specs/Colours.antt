-- The colours of a red-black tree: a red node has no red child, and all paths down from a node have the same number of black nodes.
use Rattle.std.specs.Prelude.{◌≡◌, ℕ, suc, Bool, true, false}
use Rattle.rb_rules.specs.Tree.{Tree, tip, fork, Hole, top, on}

module _ {D : Type 0} where
  -- the root has the colour c (true for red), and each path down has n black nodes
  abbrev pub Rb : Bool → ℕ → Tree D → Type 0
  Rb c n tip = (c ≡ false) × (n ≡ 0)
  Rb c n (fork true i d x y) = (c ≡ true) × Rb false n x × Rb false n y
  Rb c n (fork false i d x y) = (c ≡ false) × ((m : ℕ) × (n ≡ suc m) × ((a : Bool) × Rb a m x) × ((b : Bool) × Rb b m y))

  -- the same for either colour
  abbrev pub Black : ℕ → Tree D → Type 0
  Black n t = (c : Bool) × Rb c n t

  abbrev pub Balanced : Tree D → Type 0
  Balanced t = (n : ℕ) × Black n t

  -- a tree whose root has that colour, with n black nodes on each path, may fill the hole
  abbrev pub Fits : Bool → ℕ → Hole D → Type 0
  Fits c n top = Unit {0}
  Fits c n (on s true i d x k) = (c ≡ false) × Rb false n x × Fits true n k
  Fits c n (on s false i d x k) = Black n x × Fits false (suc n) k
