use Rattle.std.proofs.Common.{arith}
use Rattle.column_encodings.proofs.Blocks.{past_block, in_block}
use Rattle.column_encodings.proofs.lanes.ascii_in_front.Goals as goal

pub returns-then-ascii-lt-LANES-clause-ascii : goal.returns-then-ascii-lt-LANES-clause-ascii
returns-then-ascii-lt-LANES-clause-ascii c =
    let block = c.ascii_in_block-ascii.ensures.ascii in
    omega (arith, block, c.loop-at.invariant.ascii, in_block c.args.units.now c.loop-at.at 32 c.loop-at-test.true (omega (arith, block, c.if-ascii-lt-LANES.true)))

pub loop-at-preserved : goal.loop-at-preserved
loop-at-preserved c =
    let block = c.ascii_in_block-ascii.ensures.ascii in
    let whole = past_block c.args.units.now c.loop-at.at 32 c.loop-at-test.true (omega (arith, block, c.ascii_in_block-ascii.ensures.within, c.if-ascii-lt-LANES.false)) in
    record {
      ascii = omega (arith, whole, block, c.loop-at.invariant.ascii);
      within = omega arith;
    }
