use Rattle.std.proofs.Common.{◌≡◌, ℕ, ◌+◌, ◌-◌, ◌<◌, ◌≤◌, false, length, get_or, sym, ap, subst, ◌∙◌, arith}
use Rattle.search_rules.specs.Occurrences.{stands_at}
use Rattle.model_find.specs.Matching.{HasRead}
use Rattle.model_find.proofs.Matching.{read_over, none_begins, run_unit, run_within}
use Rattle.model_find.proofs.search.Search.pass.Goals as goal

pub returns-then-from-to-clause-passes : goal.returns-then-from-to-clause-passes
returns-then-from-to-clause-passes c = λ x all found stands is.
    let s = c.args.self.now in
    let run = c.args.run.now in
    let m : ℕ = length s.sought.now in
    let start : ℕ = s.at - c.args.from in
    let to : ℕ = s.at + (c.args.to - c.args.from) in
    let last : start + (c.args.to - 1) ≡ to - 1 = omega (arith, c.if-from-to.true) in
    let within = run_within s.kind x s.sought.now run start is (omega (arith, c.if-from-to.true, c.requires.within)) in
    let nowhere : (place : ℕ) → s.at ≤ place → place < to → stands_at s.kind x s.sought.now place ≡ false =
    λ place from below.
    let k : ℕ = place - start in
    let there : start + k ≡ place = omega arith in
    ap (stands_at s.kind x s.sought.now) (sym there)
    ∙ none_begins s.kind x s.sought.now run start k is (omega (arith, c.requires.within)) s.some (c.requires.none k (omega arith) (omega arith)) in
    subst (λ n. HasRead m s.kind x s.sought.now all found to (get_or run (c.args.to - 1) 0) n) (sym c.requires.matched)
    (read_over s.kind x s.sought.now s.some all found s.at s.before to (get_or run (c.args.to - 1) 0)
    (subst (λ n. HasRead m s.kind x s.sought.now all found s.at s.before n) c.requires.matched stands)
    (omega (arith, c.if-from-to.true)) (omega (arith, within, c.requires.within))
    (run_unit s.kind x s.sought.now run start (c.args.to - 1) is (omega (arith, c.if-from-to.true, c.requires.within)) ∙ ap (λ (n : ℕ). get_or x n 0) last)
    nowhere)
