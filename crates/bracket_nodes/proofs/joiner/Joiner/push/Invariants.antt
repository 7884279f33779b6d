use Rattle.std.proofs.Common.{◌≡◌, ◌+◌, ◌++◌}
use Rattle.bracket_tree_rules.specs.Tree.{items, weight}
use Rattle.bracket_nodes.specs.Shapes.{link_tree}
use Rattle.bracket_nodes.specs.Joining.{joined_items, joined_weight, count}
use Rattle.bracket_nodes.proofs.joiner.Joiner.push.Given as goal

abbrev pub invariant-loop-top : goal.invariant-loop-top
invariant-loop-top l = record {
  in_order : joined_items l.self ++ items (link_tree l.list) ≡ joined_items l.initial.self ++ items (link_tree l.initial.list);
  weighs : joined_weight l.self + weight (link_tree l.list) ≡ joined_weight l.initial.self + weight (link_tree l.initial.list);
}

abbrev pub decreases-loop-top : goal.decreases-loop-top
decreases-loop-top l = count l.self
