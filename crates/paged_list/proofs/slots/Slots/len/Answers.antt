use Rattle.std.proofs.Common.{◌≡◌, ◌^◌, length, ap, arith}
use Rattle.std.proofs.lemmas.Nat.{one_shl}
use Rattle.paged_list.proofs.Pages.{length-row}
use Rattle.paged_list.proofs.slots.Slots.len.Goals as goal

pub returns-clause-value : goal.returns-clause-value
returns-clause-value g c =
    let ps = c.self.inside.pages.items in let h = c.self.invariant in let count = c.len.ensures in let long = c.self.inside.pages.ok.0 in let few = h.few in
    let same : c.len.result ≡ length ps = omega (arith, count, long) in let all = length-row ps h.double in let power = ap (λ k. 2 ^ k) same in let is = ap length c.self.view_is in
    rw (one_shl c.len.result 64 (omega (arith, same, few))) (omega (arith, power, all, is))
