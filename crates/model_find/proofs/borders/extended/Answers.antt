use Rattle.std.proofs.Common.{◌≡◌, ◌+◌, length, sym, subst, arith}
use Rattle.model_find.specs.Matching.{IsLongest}
use Rattle.model_find.proofs.Matching.{Falls, falls_first, falls_next, falls_found, falls_last}
use Rattle.model_find.proofs.borders.extended.Goals as goal

pub loop-matched-init : goal.loop-matched-init
loop-matched-init g c = record {
  few = omega arith;
  falls = λ x low at inside before unit longest. falls_first c.args.kind x c.args.sought.now low at c.args.matched c.args.unit longest;
  cost = omega arith;
}

pub returns-then-sought-matched-clause-longest : goal.returns-then-sought-matched-clause-longest
returns-then-sought-matched-clause-longest g c = λ x low at inside before unit longest.
    let n = c.loop-matched.matched in
    let falls = c.loop-matched.invariant.falls x low at inside before unit longest in
    falls_found c.args.kind x c.args.sought.now low at n c.args.unit falls (omega (arith, c.loop-matched.invariant.few, c.requires.part)) (sym unit)
    c.if-sought-matched.true (λ none. absurd (omega (arith, c.loop-matched-test.true, none)))

pub loop-matched-preserved : goal.loop-matched-preserved
loop-matched-preserved g c =
    let n = c.loop-matched.matched in
    let border = c.requires.borders n c.loop-matched-test.true (omega (arith, c.loop-matched.invariant.few, c.requires.known)) in
    record {
      few = omega (arith, c.loop-matched.invariant.few, border.behind);
      falls = λ x low at inside before unit longest.
          falls_next c.args.kind x c.args.sought.now low at n c.args.unit _ (c.loop-matched.invariant.falls x low at inside before unit longest)
          c.loop-matched-test.true c.if-sought-matched.false border;
      cost = omega (arith, c.loop-matched.invariant.cost, border.behind, c.tick.ensures);
    }

pub returns-clause-longest : goal.returns-clause-longest
returns-clause-longest g c = λ x low at inside before unit longest.
    let none : c.loop-matched.matched ≡ 0 = omega (arith, c.loop-matched-test.false) in
    let falls = subst (λ n. Falls c.args.kind x c.args.sought.now low at n c.args.unit) none (c.loop-matched.invariant.falls x low at inside before unit longest) in
    subst (λ n. IsLongest (length c.args.sought.now) c.args.kind x c.args.sought.now low (at + 1) n) (sym c.from.ensures)
    (falls_last c.args.kind x c.args.sought.now low at c.args.before c.args.unit c.begins.result inside before unit falls (omega (arith, c.requires.part)) c.begins.ensures)
