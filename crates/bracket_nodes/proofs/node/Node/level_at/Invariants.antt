-- The level in the node reached is the level in the whole tree.
use Rattle.std.proofs.Common.{◌≡◌}
use Rattle.bracket_tree_rules.specs.Tree.{tree_level}
use Rattle.bracket_nodes.specs.Seen.{seen_tree}
use Rattle.bracket_nodes.specs.Shapes.{tree_size}
use Rattle.bracket_nodes.specs.Walks.{HasRoom}
use Rattle.bracket_nodes.specs.LevelSteps.{level_told}
use Rattle.bracket_nodes.proofs.node.Node.level_at.Given as goal

abbrev pub invariant-loop-next : goal.invariant-loop-next
invariant-loop-next l =
    HasRoom l.walk.here.start l.walk.level (seen_tree l.walk.here.node)
    × (tree_level l.self l.place ≡ level_told l.walk l.place)

abbrev pub decreases-loop-next : goal.decreases-loop-next
decreases-loop-next l = tree_size (seen_tree l.walk.here.node)
