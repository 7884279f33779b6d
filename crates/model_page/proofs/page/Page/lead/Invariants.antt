use Rattle.edit_stack.specs.Element.{step_of}
use Rattle.model_page.specs.Ways.{rest_on}
use Rattle.model_page.proofs.Pages.{IsOnWay}
use Rattle.model_page.proofs.page.Page.lead.Given as goal

abbrev pub invariant-loop-done : goal.invariant-loop-done
invariant-loop-done l = IsOnWay l.way l.fn.self (step_of l.step).changes (rest_on l.way l.done (step_of l.step).changes) l.self
