-- Nodes being joined.
use Rattle.std.specs.Prelude.{◌≡◌, ℕ, ◌+◌, ◌<◌, ◌≤◌, List, [], ◌∷◌, ◌++◌, length, if◌then◌else◌}
use Rattle.bracket_tree_rules.specs.Tree.{Tree, weight, items, is_nothing}
use Rattle.bracket_nodes.specs.Shapes.{link_tree}
use Rattle.bracket_nodes.specs.declared.node.Link.{Link}
use Rattle.bracket_nodes.specs.declared.joiner.Joiner.{Joiner}
use Rattle.bracket_nodes.specs.declared.joiner.Step.{Step}
use Rattle.bracket_nodes.specs.declared.parser.Part.{Part}
use Rattle.bracket_nodes.specs.declared.parser.Stop.{Stop}
use Rattle.bracket_nodes.specs.declared.joiner.Step.TheVariants.{Stay, Join, JoinThree}

abbrev pub linked_items : List Link → List Tree
linked_items [] = []
linked_items (list ∷ lists) = items (link_tree list) ++ linked_items lists

abbrev pub linked_weight : List Link → ℕ
linked_weight [] = 0
linked_weight (list ∷ lists) = weight (link_tree list) + linked_weight lists

abbrev pub joined_items : Joiner → List Tree
joined_items j = linked_items j.lists.items ++ items (link_tree j.last)

abbrev pub joined_weight : Joiner → ℕ
joined_weight j = linked_weight j.lists.items + weight (link_tree j.last)

-- the number of lists
abbrev pub count : Joiner → ℕ
count j = length j.lists.items + (if is_nothing (link_tree j.last) then 0 else 1)

-- the new lists have the nodes of the old ones followed by the items of `node`
pub record Takes (old : Joiner) (node : Tree) (new : Joiner) : Type 0 where
  pub in_order : joined_items new ≡ joined_items old ++ items node
  pub weighs : joined_weight new ≡ joined_weight old + weight node

-- both have the same nodes, and the new one has no more lists
pub record IsSame (old new : Joiner) : Type 0 where
  pub in_order : joined_items new ≡ joined_items old
  pub weighs : joined_weight new ≡ joined_weight old
  pub fewer : count new ≤ count old

-- for `JoinThree` the list `before` was removed from the end; else the nodes are the same
abbrev pub IsStep : Joiner → Joiner → Step → Type 0
IsStep old new Stay = IsSame old new
IsStep old new Join = IsSame old new
IsStep old new (JoinThree before) = Takes new (link_tree before) old × (count new < count old)

-- the part is the list of the nodes, with this stop
pub record IsFinished (j : Joiner) (stop : Stop) (part : Part) : Type 0 where
  pub in_order : items part.list ≡ joined_items j
  pub weighs : weight part.list ≡ joined_weight j
  pub stops : part.stop ≡ stop
