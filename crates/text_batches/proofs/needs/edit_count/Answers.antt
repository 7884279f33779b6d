use Rattle.std.proofs.Common.{ℕ, ◌+◌, ◌≤◌, List, [], ◌∷◌, length, take, get_or, ap, arith}
use Rattle.std.specs.Prelude.{sum_by}
use Rattle.std.proofs.lemmas.List.{length-take}
use Rattle.std.proofs.lemmas.List.Sums.{sum_by-cons, sum_by_more, sum_by-take-le}
use Rattle.text_rules.specs.declared.Op.{Op}
use Rattle.batch_rules.specs.Batches.{text_units}
use Rattle.text_buffer.specs.Room.{part_count}
use Rattle.text_batches.specs.Needs.{edit_count}
use Rattle.text_batches.proofs.needs.edit_count.Goals as goal

-- an op has one edit, and at most one more for each unit of its text
few_edits : (ops : List Op) → edit_count ops ≤ length ops + text_units ops
few_edits [] = omega arith
few_edits (op ∷ ops) =
    omega (arith, few_edits ops, sum_by-cons {X = Op} (λ o. part_count o.text) op ops, sum_by-cons {X = Op} (λ o. length o.text) op ops)

pub overflow_add-edits : goal.overflow_add-edits
overflow_add-edits c =
    let ops = c.args.ops.now in
    let op = c.op-item.result in
    let next = sum_by_more {X = Op} (λ o. part_count o.text) ops c.loop-op.op-index op c.loop-op-test.true in
    let most = sum_by-take-le {X = Op} (λ o. length o.text) ops (c.loop-op.op-index + 1) in
    let few = few_edits (take (c.loop-op.op-index + 1) ops) in
    let own = ap (λ (o : Op). part_count o.text) c.op-item.is in
    omega (arith, few, next, most, own, length-take (c.loop-op.op-index + 1) ops, ap (λ t. part_count t) c.as_slice.ensures, c.part_count-edits.ensures, c.loop-op.invariant, c.requires)
