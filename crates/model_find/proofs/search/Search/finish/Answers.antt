use Rattle.std.proofs.Common.{◌≡◌, ◌-◌, List, length, subst, ◌∙◌, arith}
use Rattle.text_lengths.specs.declared.Span.{Span}
use Rattle.model_find.specs.Matching.{HasRead}
use Rattle.model_find.proofs.Matching.{read_all, read_all_found}
use Rattle.model_find.proofs.search.Search.finish.Goals as goal

pub returns-then-self-clause-found : goal.returns-then-self-clause-found
returns-then-self-clause-found c = λ x all stands end.
    let s = c.args.self.now in
    let found : List Span = c.args.out.now.items in
    read_all s.kind x s.sought.now c.args.self.now.some all found s.before s.matched
    (subst (λ at. HasRead (length s.sought.now) s.kind x s.sought.now all found at s.before s.matched) end stands) c.if-self.true

pub returns-clause-found : goal.returns-clause-found
returns-clause-found c = λ x all stands end.
    let s = c.args.self.now in
    let found : List Span = c.args.out.now.items in
    let whole : s.matched ≡ length s.sought.now = omega (arith, c.if-self.false, c.args.self.now.few) in
    c.in_ok-push.ensures.items
    ∙ read_all_found s.kind x s.sought.now c.args.self.now.some all found s.before c.found.result
    (subst (λ n. HasRead (length s.sought.now) s.kind x s.sought.now all found (length x) s.before n) whole
    (subst (λ at. HasRead (length s.sought.now) s.kind x s.sought.now all found at s.before s.matched) end stands))
    (c.found.ensures ∙ (λ i. record { start = end i - whole i; end = end i }))
