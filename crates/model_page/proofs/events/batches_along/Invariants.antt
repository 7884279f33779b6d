use Rattle.std.proofs.Common.{◌≡◌, ◌++◌}
use Rattle.edit_stack.specs.Element.{step_of}
use Rattle.model_page.specs.Ways.{batches_by, rest_on}
use Rattle.model_page.proofs.events.batches_along.Given as goal

abbrev pub invariant-loop-done : goal.invariant-loop-done
invariant-loop-done l = let cs = (step_of l.step).changes in l.batches.items ++ batches_by l.way (rest_on l.way l.done cs) ≡ batches_by l.way cs
