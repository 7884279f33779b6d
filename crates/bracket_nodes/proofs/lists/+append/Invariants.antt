use Rattle.bracket_nodes.specs.Shapes.{tree_size}
use Rattle.bracket_nodes.specs.Seen.{seen_tree}
use Rattle.bracket_nodes.proofs.lists.+append.Given as goal

abbrev pub decreases-append : goal.decreases-append
decreases-append l = tree_size (seen_tree l.list.now)
