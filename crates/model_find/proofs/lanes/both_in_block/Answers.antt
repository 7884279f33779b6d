use Rattle.std.proofs.Common.{ℕ, ◌+◌, ◌%◌, ◌^◌, ◌==◌, ◌&&◌, ap, sym, ◌∙◌, arith, bit_and, map}
use lib.Lanes.{chunk, zip2, mask_l, top}
use Rattle.std.proofs.lemmas.Simd.{length-chunk, length-zip2, mask_l-mod, zip2_splat}
use Rattle.model_find.proofs.Ahead.{hit, lanes_both}
use Rattle.model_find.proofs.lanes.both_in_block.Goals as goal

pub returns : goal.returns
returns c =
    let x = c.args.run.now in
    let behind : ℕ = c.args.at + c.args.apart in
    let block = chunk c.args.at 32 x in
    let others = chunk behind 32 x in
    let long = length-chunk c.args.at 32 x (omega arith) in
    let long_others = length-chunk behind 32 x (omega arith) in
    (λ i. mask_l (map (top 15) (zip2 bit_and (zip2_splat hit block 32 c.args.unit long i) (zip2_splat hit others 32 c.args.other long_others i))) % 2 ^ 64)
    ∙ ap (λ ms. mask_l ms % 2 ^ 64) (lanes_both c.args.unit c.args.other block others)
    ∙ mask_l-mod (zip2 (λ u v. u == c.args.unit && v == c.args.other) block others) 64
    (omega (arith, length-zip2 (λ u v. u == c.args.unit && v == c.args.other) block others (long ∙ sym long_others), long))
