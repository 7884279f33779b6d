use Rattle.std.proofs.Common.{◌≡◌, ◌^◌, length, ap, ◌∙◌, arith}
use Rattle.std.proofs.lemmas.Nat.{one_shl}
use Rattle.paged_list.proofs.Pages.{few_slots, pages_grown, row_longer}
use Rattle.paged_list.proofs.slots.Slots.grow.Goals as goal

pub returns-clause-slots : goal.returns-clause-slots
returns-clause-slots g c =
    let ps = c.self.inside.pages.items in let count = c.len-pages.ensures in let long = c.self.inside.pages.ok.0 in let few = c.if-pages-ge-MOST_PAGES.false in
    let same : c.len-pages.result ≡ length ps = omega (arith, count, long) in
    rw c.in_ok-push.ensures.items (rw c.in_ok-page.ensures (
    row_longer ps c.self.invariant c.args.self.now c.self.view_is _ (one_shl c.len-pages.result 64 (omega (arith, few)) ∙ ap (λ k. 2 ^ k) same)))

pub returns-clause-few : goal.returns-clause-few
returns-clause-few g c =
    let ps = c.self.inside.pages.items in let count = c.len-pages.ensures in let long = c.self.inside.pages.ok.0 in let few = c.if-pages-ge-MOST_PAGES.false in
    let same : c.len-pages.result ≡ length ps = omega (arith, count, long) in
    rw c.in_ok-push.ensures.items (rw c.in_ok-page.ensures (
    few_slots _ (pages_grown ps c.self.invariant _ (one_shl c.len-pages.result 64 (omega (arith, few)) ∙ ap (λ k. 2 ^ k) same) (omega (arith, few, same)))))
