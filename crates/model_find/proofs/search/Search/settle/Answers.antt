use Rattle.std.proofs.Common.{◌≡◌, ℕ, ◌-◌, ◌∷◌, [], ◌++◌, List, length, get_or, sym, subst, ◌∙◌, arith}
use Rattle.text_lengths.specs.declared.Span.{Span}
use Rattle.model_find.specs.Matching.{HasRead, IsLongest}
use Rattle.model_find.proofs.Matching.{cuts_between, read_cut, read_found}
use Rattle.model_find.proofs.search.Search.settle.Goals as goal

pub returns-then-cuts_between-clause-settles : goal.returns-then-cuts_between-clause-settles
returns-then-cuts_between-clause-settles g c = λ x all stands (inside, next).
    let s = c.args.self.now in
    let m : ℕ = length s.sought.now in
    let whole : s.matched ≡ m = omega (arith, c.if-self.false, c.args.self.now.few) in
    let less : ℕ = get_or s.borders.now (s.matched - 1) 0 in
    let border = c.args.self.now.fronts s.matched (omega (arith, whole, c.args.self.now.some)) (omega (arith, whole, c.args.self.now.all)) in
    read_cut s.kind x s.sought.now c.args.self.now.some all c.args.out.now.items s.at s.before less
    (subst (λ n. HasRead m s.kind x s.sought.now all c.args.out.now.items s.at s.before n) whole stands)
    (sym (cuts_between s.kind x s.at s.before c.args.unit stands.unit next) ∙ sym c.cuts_between.ensures ∙ c.if-cuts_between.true)
    (subst (λ n. IsLongest m s.kind s.sought.now s.sought.now 1 n less) whole border)

pub returns-clause-settles : goal.returns-clause-settles
returns-clause-settles g c = λ x all stands (inside, next).
    let s = c.args.self.now in
    let m : ℕ = length s.sought.now in
    let found : List Span = c.args.out.now.items in
    let whole : s.matched ≡ m = omega (arith, c.if-self.false, c.args.self.now.few) in
    subst (λ spans. HasRead (m - 1) s.kind x s.sought.now all spans s.at s.before 0) {x = found ++ c.found-found.result ∷ []} (sym c.in_ok-push.ensures.items)
    (read_found s.kind x s.sought.now c.args.self.now.some all found s.at s.before c.found-found.result
    (subst (λ n. HasRead m s.kind x s.sought.now all found s.at s.before n) whole stands)
    (sym (cuts_between s.kind x s.at s.before c.args.unit stands.unit next) ∙ sym c.cuts_between.ensures ∙ c.if-cuts_between.false)
    (c.found-found.ensures ∙ (λ i. record { start = s.at - whole i; end = s.at })))
