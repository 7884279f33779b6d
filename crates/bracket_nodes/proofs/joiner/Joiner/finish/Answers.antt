use Rattle.std.proofs.Common.{arith}
use Rattle.bracket_nodes.specs.Shapes.{link_tree}
use Rattle.bracket_nodes.specs.Joining.{linked_items, linked_weight}
use Rattle.bracket_nodes.proofs.Joined.{popped_items, popped_weight, Holds-joined}
use Rattle.bracket_nodes.proofs.joiner.Joiner.finish.Goals as goal

pub join-requires : goal.join-requires
join-requires c =
    let popped = popped_weight c.loop-before.self.lists.items c.pop.new.self.items c.in-Some.before (c.in-Some.ensures).items in
    record { fits = omega (arith, popped, c.loop-before.invariant.weighs, c.requires.fits) }

pub loop-before-preserved : goal.loop-before-preserved
loop-before-preserved c =
    let old = c.loop-before.self.lists.items in
    let new = c.pop.new.self.items in
    let top = c.in-Some.before in
    let held = Holds-joined (linked_items old) (linked_items new) (linked_weight old) (linked_weight new)
    (link_tree top) (link_tree c.loop-before.list) (link_tree c.in_ok-list.list) _ _
    (popped_items old new top (c.in-Some.ensures).items) (popped_weight old new top (c.in-Some.ensures).items)
    c.in_ok-list.ensures c.loop-before.invariant.in_order c.loop-before.invariant.weighs in
    record { in_order = held.in_order; weighs = held.weighs }
