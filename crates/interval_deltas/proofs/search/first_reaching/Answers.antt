use Rattle.std.proofs.Common.{◌≡◌, ℤ, w64, to_z, of_z, subst, arith}
use Rattle.std.proofs.lemmas.Int.{ints}
use Rattle.interval_deltas.specs.Kept.{FirstReaching}
use Rattle.interval_deltas.proofs.search.first_reaching.Goals as goal

pub returns : goal.returns
returns c =
    let items = c.args.tree.now.items in
    let own : to_z w64 (of_z w64 c.args.offset) ≡ c.args.offset = omega (arith, ints, c.ranges.offset) in
    subst (λ (z : ℤ). FirstReaching z items c.reached.result) own (c.reached.ensures items c.search.ensures)
