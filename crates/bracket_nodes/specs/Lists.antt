-- Lists being joined.
use Rattle.std.specs.Prelude.{◌≡◌, ℕ, ◌+◌, false, List, ◌++◌}
use Rattle.bracket_tree_rules.specs.Tree.{Tree, height, weight, is_nothing, items}
use Rattle.bracket_nodes.specs.Shapes.{link_tree}
use Rattle.bracket_nodes.specs.declared.lists.Siblings.{Siblings}
use Rattle.bracket_nodes.specs.declared.lists.Siblings.TheVariants.{One, Two}

-- a non-empty list of this height
pub record IsListOf (h : ℕ) (t : Tree) : Type 0 where
  pub level : height t ≡ h
  pub some : is_nothing t ≡ false

abbrev pub AreListsOf : ℕ → Siblings → Type 0
AreListsOf h (One a) = IsListOf h (link_tree a)
AreListsOf h (Two a b) = IsListOf h (link_tree a) × IsListOf h (link_tree b)

abbrev pub sibling_height : Siblings → ℕ
sibling_height (One a) = height (link_tree a)
sibling_height (Two a b) = height (link_tree a)

abbrev pub sibling_items : Siblings → List Tree
sibling_items (One a) = items (link_tree a)
sibling_items (Two a b) = items (link_tree a) ++ items (link_tree b)

abbrev pub sibling_weight : Siblings → ℕ
sibling_weight (One a) = weight (link_tree a)
sibling_weight (Two a b) = weight (link_tree a) + weight (link_tree b)

-- the list has the nodes of both, in order, and the sum of their weights
pub record Joins (a b t : Tree) : Type 0 where
  pub in_order : items t ≡ items a ++ items b
  pub weighs : weight t ≡ weight a + weight b

-- the same for three lists
pub record JoinsThree (a b c t : Tree) : Type 0 where
  pub in_order : items t ≡ items a ++ (items b ++ items c)
  pub weighs : weight t ≡ weight a + (weight b + weight c)
