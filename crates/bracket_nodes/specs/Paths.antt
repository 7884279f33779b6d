-- The path of a reader.
use Rattle.bracket_tree_rules.specs.Tree.{Tree, IsTree}
use Rattle.bracket_tree_rules.specs.Parts.{IsShown}
use Rattle.bracket_nodes.specs.Seen.{seen_tree}
use Rattle.bracket_nodes.specs.declared.placed.Placed.{Placed}

-- the node shows, at each place that it holds, what the whole tree shows there
pub record IsOnPath (whole : Tree) (here : Placed) : Type 0 where
  pub tree : IsTree (seen_tree here.node)
  pub shown : IsShown whole here.start (seen_tree here.node)
