use Rattle.std.proofs.Common.{arith, w16}
use Rattle.std.proofs.lemmas.Simd.{length-chunk}
use lib.Lanes.{chunk}
use lib.Dec.{leb}
use Rattle.column_encodings.proofs.Blocks.{bitmask_splat_left}
use Rattle.column_encodings.proofs.lanes.others_in_block.Goals as goal

pub returns : goal.returns
returns c =
    let block = chunk c.args.at 32 c.args.units.now in
    bitmask_splat_left w16 leb 0x80 32 block (length-chunk c.args.at 32 c.args.units.now c.requires) (omega arith)
