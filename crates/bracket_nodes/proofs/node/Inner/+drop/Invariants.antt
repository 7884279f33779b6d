-- The loop goes down the tree.
use Rattle.std.proofs.Common.{◌≤◌}
use Rattle.bracket_nodes.specs.Shapes.{tree_size}
use Rattle.bracket_nodes.proofs.node.Inner.+drop.Given as goal

abbrev pub invariant-loop-inside : goal.invariant-loop-inside
invariant-loop-inside l = tree_size l.self ≤ tree_size l.fn.self

abbrev pub decreases-loop-inside : goal.decreases-loop-inside
decreases-loop-inside l = tree_size l.self
