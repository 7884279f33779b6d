use Rattle.std.proofs.Common.{◌≡◌, ◌+◌, ◌++◌, vec_len}
use Rattle.bracket_tree_rules.specs.Tree.{items, weight}
use Rattle.bracket_nodes.specs.Shapes.{link_tree}
use Rattle.bracket_nodes.specs.Joining.{linked_items, linked_weight, joined_items, joined_weight}
use Rattle.bracket_nodes.proofs.joiner.Joiner.finish.Given as goal

abbrev pub invariant-loop-before : goal.invariant-loop-before
invariant-loop-before l = record {
  in_order : linked_items l.self.lists.items ++ items (link_tree l.list) ≡ joined_items l.initial.self;
  weighs : linked_weight l.self.lists.items + weight (link_tree l.list) ≡ joined_weight l.initial.self;
}

abbrev pub decreases-loop-before : goal.decreases-loop-before
decreases-loop-before l = vec_len l.self.lists
