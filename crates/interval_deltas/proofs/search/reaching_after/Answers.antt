use Rattle.std.proofs.Common.{◌≡◌, ℤ, w64, to_z, of_z, subst, arith}
use Rattle.std.proofs.lemmas.Int.{ints}
use Rattle.interval_deltas.specs.Kept.{FirstReaching}
use Rattle.interval_deltas.proofs.search.reaching_after.Goals as goal

pub returns : goal.returns
returns c us x vs is =
    let own : to_z w64 (of_z w64 c.args.offset) ≡ c.args.offset = omega (arith, ints, c.ranges.offset) in
    subst (λ (z : ℤ). FirstReaching z vs c.reached.result) own (c.reached.ensures vs (c.search_after.ensures us x vs is))
