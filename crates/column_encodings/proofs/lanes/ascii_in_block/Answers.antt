use Rattle.std.proofs.Common.{arith}
use Rattle.std.proofs.lemmas.Simd.{length-chunk}
use Rattle.std.proofs.lemmas.List.Sums.{prefix_len-le-length}
use Rattle.std.specs.Char.{is_ascii}
use lib.Lanes.{chunk}
use Rattle.column_encodings.proofs.Blocks.{all_ascii, ascii_before}
use Rattle.column_encodings.proofs.lanes.ascii_in_block.Goals as goal

pub returns-then-others-eq0-clause-ascii : goal.returns-then-others-eq0-clause-ascii
returns-then-others-eq0-clause-ascii c =
    let block = chunk c.args.at 32 c.args.units.now in
    omega (arith, length-chunk c.args.at 32 c.args.units.now c.requires, all_ascii block (omega (arith, c.others_in_block-others.ensures, c.if-others-eq0.true)))

pub returns-else-others-eq0-clause-ascii : goal.returns-else-others-eq0-clause-ascii
returns-else-others-eq0-clause-ascii c =
    let others = c.others_in_block-others.ensures in
    let long = length-chunk c.args.at 32 c.args.units.now c.requires in
    rw others (ascii_before (chunk c.args.at 32 c.args.units.now) (omega (arith, long)) (omega (arith, others, c.if-others-eq0.false)))

pub returns-else-others-eq0-clause-within : goal.returns-else-others-eq0-clause-within
returns-else-others-eq0-clause-within c =
    let block = chunk c.args.at 32 c.args.units.now in
    let others = c.others_in_block-others.ensures in
    let long = length-chunk c.args.at 32 c.args.units.now c.requires in
    rw others (omega (arith, long, prefix_len-le-length is_ascii block, ascii_before block (omega (arith, long)) (omega (arith, others, c.if-others-eq0.false))))
