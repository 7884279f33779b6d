use Rattle.std.proofs.Common.{◌+◌, ◌∷◌, drop, subst, arith}
use Rattle.mirror_model.proofs.Misfits.{next_in}
use Rattle.mirror_model.proofs.Carries.{IsOnWay, few_texts, first_stands, first_texts}
use Rattle.mirror_model.proofs.mirror.Mirror.carry_out.Goals as goal
use Rattle.mirror_model.proofs.mirror.Mirror.carry_out.Goals.{After-ops}

pub need_of_batches-requires : goal.need_of_batches-requires
need_of_batches-requires c = few_texts c.args.self.now.units c.args.batches.now c.requires

-- the batch whose turn it is, and those that are left after it
on_way : (c : After-ops) → IsOnWay c.args.self.now.units c.args.batches.now (c.batch-item.result ∷ drop (c.loop-batch.batch-index + 1) c.args.batches.now) c.loop-batch.self-inside.text
on_way c =
    let next = next_in c.args.batches.now c.loop-batch.batch-index c.batch-item.result c.loop-batch-test.true c.batch-item.is in
    subst (λ left. IsOnWay c.args.self.now.units c.args.batches.now left c.loop-batch.self-inside.text) next c.loop-batch.invariant.way

pub apply_to_text-requires-clause-standing : goal.apply_to_text-requires-clause-standing
apply_to_text-requires-clause-standing c =
    rw (c.ops.ensures.ops, c.batch.ensures)
    (first_stands c.args.self.now.units c.args.batches.now c.loop-batch.self-inside.text c.batch-item.result _ (on_way (goal.at.apply_to_text-requires-clause-standing c).After-ops)
    (rw (← c.batch.ensures) c.ops.ensures.in_order))

pub apply_to_text-requires-clause-small : goal.apply_to_text-requires-clause-small
apply_to_text-requires-clause-small c =
    let way = on_way (goal.at.apply_to_text-requires-clause-small c).After-ops in
    let few = first_texts c.args.self.now.units c.args.batches.now c.loop-batch.self-inside.text c.batch-item.result _ way (rw (← c.batch.ensures) c.ops.ensures.in_order) in
    rw (c.ops.ensures.ops, c.batch.ensures) (omega (arith, few, way.small))
