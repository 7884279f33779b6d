use Rattle.std.proofs.Common.{◌+◌, length, ap, ◌∙◌}
use Rattle.paged_list.proofs.Laid.{longer_laid, longer_values}
use Rattle.paged_list.proofs.list.PagedList.grow.Goals as goal

pub invariant_of-self-2 : goal.invariant_of-self-2
invariant_of-self-2 g c =
    let slots = c.self.inside.slots in let len = c.self.inside.len in let h = c.self.invariant in
    longer_laid slots len h (length slots + 1) c.grow.new.self c.in_ok-grow.ensures.slots c.in_ok-grow.ensures.few

pub returns-clause-items : goal.returns-clause-items
returns-clause-items g c =
    let slots = c.self.inside.slots in let len = c.self.inside.len in let h = c.self.invariant in
    longer_values slots len h (length slots + 1) c.grow.new.self c.in_ok-grow.ensures.slots ∙ ap (λ a. a.items) c.self.view_is
