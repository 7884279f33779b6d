use Rattle.std.proofs.Common.{arith}
use Rattle.edit_batches.proofs.Passes.{passed, inverse_more}
use Rattle.edit_batches.proofs.inverse.inverse_of.Goals as goal

pub overflow_add-start : goal.overflow_add-start
overflow_add-start g c =
    let op = passed _ _ _ _ _ c.loop-op.invariant.standing c.loop-op-test.true c.op-item.is in
    omega (arith, op.units, c.loop-op.invariant.fits)

pub overflow_add-end : goal.overflow_add-end
overflow_add-end g c =
    let op = passed _ _ _ _ _ c.loop-op.invariant.standing c.loop-op-test.true c.op-item.is in
    omega (arith, op.units, c.loop-op.invariant.fits, c.len.ensures)

pub units_between-requires-clause-within : goal.units_between-requires-clause-within
units_between-requires-clause-within g c =
    let op = passed _ _ _ _ _ c.loop-op.invariant.standing c.loop-op-test.true c.op-item.is in
    op.within

pub loop-op-preserved : goal.loop-op-preserved
loop-op-preserved g c =
    let op = passed _ _ _ _ _ c.loop-op.invariant.standing c.loop-op-test.true c.op-item.is in
    record {
      standing = op.later;
      fits = omega (arith, op.units, c.loop-op.invariant.fits, c.len.ensures);
      ops = inverse_more _ _ _ _ _ _ _ _ _ _ _ c.loop-op-test.true c.op-item.is c.len.ensures c.in_ok-text.ensures c.in_ok-push.ensures.items c.loop-op.invariant.ops;
    }
