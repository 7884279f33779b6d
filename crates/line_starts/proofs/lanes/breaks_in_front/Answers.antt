use Rattle.std.proofs.Common.{◌≡◌, ◌*◌, ◌%◌, ◌^◌, ◌≤◌, ap, ◌∙◌, arith}
use Rattle.std.proofs.Math.Nat.{mod-eq_of_lt, one-mul, pow-le-pow_right}
use lib.Count.{ones}
use Rattle.line_starts.proofs.Blocks.{front_count}
use Rattle.line_starts.proofs.lanes.breaks_in_front.Goals as goal

pub returns : goal.returns
returns c =
    let k = c.args.many in
    let small : 2 ^ k ≤ 2 ^ 32 = pow-le-pow_right {n = 2} (omega arith) {i = k} {j = 32} c.requires.few in
    let one : 1 * 2 ^ k % 18446744073709551616 ≡ 2 ^ k = ap (λ n. n % 18446744073709551616) (one-mul (2 ^ k)) ∙ mod-eq_of_lt (omega (arith, small)) in
    omega (arith, ap ones ((λ i. c.ends_in_block.ensures i % one i)), front_count c.args.at c.args.units.now c.requires.within k c.requires.few)
