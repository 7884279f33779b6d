use Rattle.std.proofs.Common.{◌≡◌, ◌+◌, ◌++◌}
use Rattle.bracket_tree_rules.specs.Tree.{all_items, all_weight}
use Rattle.bracket_nodes.specs.Joining.{joined_items, joined_weight}
use Rattle.bracket_nodes.proofs.joiner.concat.Given as goal

abbrev pub invariant-loop-node : goal.invariant-loop-node
invariant-loop-node l = record {
  in_order : joined_items l.joiner ++ all_items l.node-iterator.rest.items ≡ all_items l.fn.nodes.items;
  weighs : joined_weight l.joiner + all_weight l.node-iterator.rest.items ≡ all_weight l.fn.nodes.items;
}
