use Rattle.std.proofs.Common.{◌≡◌, ◌+ℤ◌, FitsSigned, w64, to_z, of_z, rules, arith}
use Rattle.std.proofs.lemmas.Int.{ints}
use Rattle.interval_deltas.proofs.weave.MarksWeave.shift.Goals as goal

pub returns : goal.returns
returns c =
    let (acc, near, (low, order, high)) = c.requires in
    let start_fits : FitsSigned w64 c.args.item.start = search rules in let end_fits : FitsSigned w64 c.args.item.end = search rules in
    let start : to_z w64 (of_z w64 (to_z w64 (of_z w64 c.args.by) +ℤ to_z w64 (of_z w64 c.args.item.start))) ≡ c.args.by +ℤ c.args.item.start = omega (arith, ints, near, low, order, high, start_fits, c.ranges.by) in
    let end : c.of.result ≡ c.args.by +ℤ c.args.item.end = omega (arith, ints, near, low, order, high, end_fits, c.of.ensures, c.offset.ensures, c.ranges.by) in
    λ i. record { start = start i; end = end i; label = c.args.item.label }
