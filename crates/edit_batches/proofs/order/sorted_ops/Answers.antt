use Rattle.std.proofs.Common.{rules}
use Rattle.std.proofs.lemmas.List.Sorted.{answers_always}
use Rattle.batch_rules.proofs.Order.{sorted_ops_by}
use Rattle.edit_batches.proofs.Keys.{is_less, is_less_is}
use Rattle.edit_batches.proofs.order.sorted_ops.Goals as goal

pub returns-clause-sorted : goal.returns-clause-sorted
returns-clause-sorted c =
    let sorted = c.in_ok-sort_by_key.ensures.sorted (λ op. (op.span.end, op.span.start)) (answers_always _ _ _ (λ f a r f' h. search rules)) in
    let stable = c.sort_by_key.ensures.stable (λ op. (op.span.end, op.span.start)) (answers_always _ _ _ (λ f a r f' h. search rules)) in
    sorted_ops_by is_less is_less_is _ _ sorted stable
