-- The node found in the node reached is the one found in the whole tree.
use Rattle.std.proofs.Common.{◌≡◌}
use Rattle.bracket_tree_rules.specs.Parts.{ShowsNode}
use Rattle.bracket_nodes.specs.Paths.{IsOnPath}
use Rattle.bracket_nodes.specs.Seen.{seen_tree}
use Rattle.bracket_nodes.specs.Shapes.{tree_size}
use Rattle.bracket_nodes.proofs.reader.NodeReader.longest_at.Given as goal

abbrev pub invariant-loop-place : goal.invariant-loop-place
invariant-loop-place l =
    (l.self ≡ l.fn.self)
    × (IsOnPath l.fn.self l.here
    × ShowsNode l.fn.self l.here.start (seen_tree l.here.node) l.place l.fn.lines l.fn.opened l.fn.level)

abbrev pub decreases-loop-place : goal.decreases-loop-place
decreases-loop-place l = tree_size (seen_tree l.here.node)
