-- A node borrowed from a tree.
use Rattle.bracket_tree_rules.specs.Tree.{Tree}
use Rattle.bracket_nodes.specs.Seen.{seen_tree}
use Rattle.bracket_nodes.specs.declared.find.NodeRef.{NodeRef}

-- the tree of the node
abbrev pub node_of : NodeRef → Tree
node_of node = seen_tree node.seen
