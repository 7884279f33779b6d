use Rattle.std.proofs.Common.{Bor, ◌≡◌, ℕ, ◌-◌, ◌<◌, List, length, get_or, sym, ap, ◌∙◌, arith}
use Rattle.model_find.proofs.Matching.{read_on}
use Rattle.model_find.proofs.search.Search.feed.Goals as goal

pub returns-clause-reads : goal.returns-clause-reads
returns-clause-reads g c = λ x all stands (inside, next).
    let old = c.args.self.now in
    let s = c.settle.new.self in
    let m : ℕ = length s.sought.now in
    let place : old.at ≡ s.at = sym c.settle.ensures.place.0 in
    let there : s.at < length x = omega (arith, place, inside) in
    let unit = next ∙ ap (λ (i : ℕ). get_or x i 0) place in
    let reads = c.in_ok-settle.ensures.settles x all stands (inside, next) in
    read_on s.kind x s.sought.now s.some all c.settle.new.out.items (m - 1) s.at s.before s.matched c.args.unit c.extended-self.result reads
    (omega (arith, c.in_ok-settle.ensures.part, ap (λ (r : Bor (List ℕ)). length r.now) c.settle.ensures.same.sought)) there unit
    (λ low longest. c.extended-self.ensures.longest x low s.at there reads.unit unit longest)
    c.extended-self.ensures.few
