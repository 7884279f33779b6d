use Rattle.std.proofs.Common.{◌≡◌, ℤ, Bool, true, false, not, w64, to_z, of_z, refl, sym, ◌∙◌, ap, subst, arith}
use Rattle.std.specs.Prelude.{IsTrue}
use Rattle.std.proofs.lemmas.Bool.{both_ways}
use Rattle.std.proofs.lemmas.Int.{ints}
use Rattle.rb_rules.specs.Woven.{sum_of}
use Rattle.interval_deltas.specs.Weave.{marks, reaches}
use Rattle.interval_deltas.specs.Kept.{capped}
use Rattle.interval_deltas.specs.Mover.{Moving}
use Rattle.interval_deltas.proofs.Carrying.{stays_past, stays_low}
use Rattle.interval_deltas.proofs.mover.MoverRewritingMarks.skips.Goals as goal

abbrev own : ℤ → ℤ
own z = to_z w64 (of_z w64 z)

not_told : (b : Bool) → IsTrue (not b) → b ≡ false
not_told true t = absurd (both_ways false refl t)
not_told false t = refl

pub returns-then-self : goal.returns-then-self
returns-then-self c = λ _ es values sum. stays_past c.args.self.now es (sym (ap (λ (v : Moving). v.past) c.self.view_is) ∙ c.if-self.true)

pub returns-else-self : goal.returns-else-self
returns-else-self c = λ told es values sum.
    let v = c.args.self.now in let is = ap (λ (o : Moving). capped o.edit.start) c.self.view_is in
    let offset : own c.capped.result ≡ capped v.edit.start = omega (arith, ints, c.capped.ensures) ∙ is in
    let low : reaches (own c.capped.result) c.args.sum ≡ false = sym c.reaches.ensures ∙ not_told c.reaches.result told in
    stays_low v es (subst (λ z. reaches z (sum_of marks es) ≡ false) offset (subst (λ s. reaches (own c.capped.result) s ≡ false) (sym sum) low))
