use Rattle.std.proofs.Common.{length, sym, ap, ◌∙◌, arith}
use Rattle.paged_list.proofs.Laid.{within_slots}
use Rattle.paged_list.proofs.list.PagedList.len.Goals as goal

pub returns-clause-value : goal.returns-clause-value
returns-clause-value g c =
    sym c.self.invariant.count ∙ ap (λ a. length a.items) c.self.view_is

pub returns-clause-room : goal.returns-clause-room
returns-clause-room g c =
    let le = within_slots c.self.inside.slots c.self.inside.len c.self.invariant in let same = ap (λ a. a.capacity) c.self.view_is in omega (arith, le, same)
