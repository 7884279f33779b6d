-- The bracket found in the node reached is the one found in the whole tree.
use Rattle.std.proofs.Common.{◌≡◌}
use Rattle.bracket_tree_rules.specs.Parts.{ShowsBrackets}
use Rattle.bracket_nodes.specs.Paths.{IsOnPath}
use Rattle.bracket_nodes.specs.Seen.{seen_tree}
use Rattle.bracket_nodes.specs.Shapes.{tree_size}
use Rattle.bracket_nodes.proofs.reader.NodeReader.bracket_at.Given as goal

abbrev pub invariant-loop-token : goal.invariant-loop-token
invariant-loop-token l =
    (l.self ≡ l.fn.self)
    × (IsOnPath l.fn.self l.here
    × ShowsBrackets l.fn.self l.here.start (seen_tree l.here.node) l.place)

abbrev pub decreases-loop-token : goal.decreases-loop-token
decreases-loop-token l = tree_size (seen_tree l.here.node)
