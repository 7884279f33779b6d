use Rattle.std.proofs.Common.{◌≡◌, ℤ, true, w64, to_z, of_z, sym, ◌∙◌, ap, arith}
use Rattle.std.specs.Int.{int_min, int_max}
use Rattle.std.proofs.lemmas.Int.{ints, clamps}
use Rattle.decoration_rules.specs.Marks.{stands_before}
use Rattle.interval_deltas.specs.Carrier.{Carried}
use Rattle.interval_deltas.specs.Kept.{as_mark, mark_at}
use Rattle.interval_deltas.proofs.WithLines.{met_below}
use Rattle.interval_deltas.proofs.carrier.Carrier.meet.Goals as goal

abbrev own : ℤ → ℤ
own z = to_z w64 (of_z w64 z)

pub returns-then-stands_below : goal.returns-then-stands_below
returns-then-stands_below c =
    let v = c.args.self.now in let m = c.args.mark.now in
    let below : stands_before (as_mark m) (mark_at v.greatest) ≡ true =
    ap (λ (w : Carried). stands_before (as_mark m) (mark_at w.greatest)) (sym c.self.view_is) ∙ sym c.stands_below.ensures ∙ c.if-stands_below.true in
    let first : own c.min-self-inside.result ≡ int_min c.self.inside.first m.start = let k = c.self.invariant in let r = c.requires in omega (arith, ints, clamps, c.min-self-inside.ensures.value, k, r) in
    let last : own c.max-self-inside.result ≡ int_max c.self.inside.last m.start = let k = c.self.invariant in let r = c.requires in omega (arith, ints, clamps, c.max-self-inside.ensures.value, k, r) in
    (λ i. record { lines = c.self.inside.lines; greatest = c.self.inside.greatest; first = first i; last = last i })
    ∙ ap (λ (w : Carried). record w { first = int_min w.first m.start; last = int_max w.last m.start }) c.self.view_is ∙ sym (met_below v m below)

pub invariant_of-self : goal.invariant_of-self
invariant_of-self c =
    let (place, low, high) = c.self.invariant in let r = c.requires in let first = c.min-self-inside.ensures.value in let last = c.max-self-inside.ensures.value in (
      place,
      (omega (arith, ints, clamps, first, low, r), omega (arith, ints, clamps, first, low, r)),
      (omega (arith, ints, clamps, last, high, r), omega (arith, ints, clamps, last, high, r)),
    )
