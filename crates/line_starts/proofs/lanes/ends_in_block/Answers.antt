use Rattle.std.proofs.Common.{◌+◌, ◌%◌, ◌^◌, ap, ◌∙◌, arith, bit_and, bit_or, map}
use lib.Lanes.{chunk, zip2, mask_l, top}
use Rattle.std.proofs.lemmas.Simd.{length-chunk, mask_l-mod, zip2_splat}
use Rattle.line_starts.proofs.Blocks.{hit, miss, lanes_end, block_marks, length-block_marks}
use Rattle.line_starts.proofs.lanes.ends_in_block.Goals as goal

pub returns : goal.returns
returns c =
    let at = c.args.at in
    let x = c.args.units.now in
    let block = chunk at 32 x in
    let after = chunk (at + 1) 32 x in
    let long = length-chunk at 32 x (omega arith) in
    let long_after = length-chunk (at + 1) 32 x (omega arith) in
    (λ i. mask_l (map (top 15) (zip2 bit_or (zip2_splat hit block 32 10 long i) (zip2 bit_and (zip2_splat hit block 32 13 long i) (zip2_splat miss after 32 10 long_after i)))) % 2 ^ 64)
    ∙ ap (λ ms. mask_l ms % 2 ^ 64) (lanes_end block after)
    ∙ mask_l-mod (block_marks at x) 64 (omega (arith, length-block_marks at x c.requires))
