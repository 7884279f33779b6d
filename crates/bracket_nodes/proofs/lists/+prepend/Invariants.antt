use Rattle.bracket_nodes.specs.Shapes.{tree_size}
use Rattle.bracket_nodes.specs.Seen.{seen_tree}
use Rattle.bracket_nodes.proofs.lists.+prepend.Given as goal

abbrev pub decreases-prepend : goal.decreases-prepend
decreases-prepend l = tree_size (seen_tree l.list.now)
