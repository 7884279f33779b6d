use Rattle.model_page.specs.View.{page_of}
use Rattle.model_page.proofs.Pages.{IsPageAfter}
use Rattle.model_page.proofs.page.Page.carry.Given as goal

abbrev pub invariant-loop-done : goal.invariant-loop-done
invariant-loop-done l = IsPageAfter l.fn.self l.forces l.ops l.done (page_of l.self-inside)
