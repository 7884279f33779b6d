-- The partner found in the node reached is the partner in the whole tree.
use Rattle.std.proofs.Common.{◌+◌, ◌<◌, ◌^◌}
use Rattle.bracket_tree_rules.specs.Tree.{weight, IsTree}
use Rattle.bracket_nodes.specs.Seen.{seen_tree}
use Rattle.bracket_nodes.specs.Shapes.{tree_size}
use Rattle.bracket_nodes.specs.Walks.{ShowsPartner}
use Rattle.bracket_nodes.proofs.node.Node.partner_of.Given as goal

abbrev pub invariant-loop-found : goal.invariant-loop-found
invariant-loop-found l =
    IsTree (seen_tree l.here.node)
    × (l.here.start.lines + l.here.start.columns + weight (seen_tree l.here.node) < 2 ^ 64)
    × ShowsPartner l.self l.here.start (seen_tree l.here.node) l.place

abbrev pub decreases-loop-found : goal.decreases-loop-found
decreases-loop-found l = tree_size (seen_tree l.here.node)
