use Rattle.std.proofs.Common.{ap, sym, ◌∙◌}
use Rattle.batch_rules.specs.Batches.{sorted_ops}
use Rattle.batch_rules.proofs.Order.{sorted_ops_again}
use Rattle.edit_batches.proofs.order.Sorted.of.Goals as goal

pub invariant_of-result : goal.invariant_of-result
invariant_of-result c =
    ap sorted_ops c.in_ok-ops.ensures.sorted ∙ sorted_ops_again c.args.ops.items ∙ sym c.in_ok-ops.ensures.sorted
