use Rattle.std.proofs.Common.{◌<◌, ap, sym, ◌∙◌, arith}
use Rattle.paged_list.proofs.Laid.{last_filled, popped_items, popped_laid}
use Rattle.paged_list.proofs.list.PagedList.pop.Goals as goal

pub empty-requires : goal.empty-requires
empty-requires g c =
    let slots = c.self.inside.slots in let len = c.self.inside.len in let h = c.self.invariant in let ne = c.if-self-eq0.false in let some : 0 < len = omega (arith, ne) in
    last_filled slots len h some

pub invariant_of-self : goal.invariant_of-self
invariant_of-self g c =
    let slots = c.self.inside.slots in let len = c.self.inside.len in let h = c.self.invariant in let ne = c.if-self-eq0.false in let some : 0 < len = omega (arith, ne) in
    popped_laid slots len h some c.empty.new.self c.empty.ensures.slots

pub returns-clause-items : goal.returns-clause-items
returns-clause-items g c =
    let slots = c.self.inside.slots in let len = c.self.inside.len in let h = c.self.invariant in let ne = c.if-self-eq0.false in let some : 0 < len = omega (arith, ne) in
    ap (λ a. a.items) (sym c.self.view_is) ∙ popped_items slots len h some c.empty.new.self c.empty.ensures.slots c.empty.result c.empty.ensures.value
