use Rattle.std.proofs.Common.{◌≤◌, length, get_or, ap, arith}
use Rattle.std.proofs.lemmas.List.Sums.{sum_by_more_le_part}
use Rattle.text_rules.specs.declared.Op.{Op}
use Rattle.text_rules.proofs.Breaks.{break_ends_few}
use Rattle.line_starts.specs.Starts.{break_count}
use Rattle.line_starts.proofs.Starts.{break_count_is}
use Rattle.text_batches.proofs.needs.text_breaks.Goals as goal

few_breaks : (op : Op) → break_count op.text ≤ length op.text
few_breaks op = omega (arith, break_count_is op.text, break_ends_few 0 op.text)

pub overflow_add-breaks : goal.overflow_add-breaks
overflow_add-breaks c =
    let ops = c.args.ops.now in
    let op = c.op-item.result in
    let few = sum_by_more_le_part (λ (o : Op). break_count o.text) (λ (o : Op). length o.text) ops c.loop-op.op-index op c.loop-op-test.true few_breaks in
    let most = few_breaks (get_or ops c.loop-op.op-index op) in
    let own = ap (λ (o : Op). break_count o.text) c.op-item.is in
    omega (arith, few, most, own, ap break_count c.as_slice.ensures, c.count_breaks-breaks.ensures.breaks, c.loop-op.invariant, c.requires)
