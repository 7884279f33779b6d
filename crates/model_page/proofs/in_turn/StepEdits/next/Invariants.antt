use Rattle.std.proofs.Common.{◌≡◌, ◌-◌, ◌≤◌, ◌++◌, length}
use Rattle.edit_stack.specs.Element.{step_of}
use Rattle.model_page.specs.InTurn.{begun, all_edits_along}
use Rattle.model_page.specs.Ways.{rest_on}
use Rattle.model_page.proofs.in_turn.StepEdits.next.Given as goal

-- nothing was told yet
abbrev pub invariant-loop-change : goal.invariant-loop-change
invariant-loop-change l =
    let s = l.self-inside in
    let changes = (step_of s.step.now).changes in record {
      within : s.done ≤ length changes;
      left : begun s.edits ++ all_edits_along s.way (rest_on s.way s.done changes) ≡ l.fn.self;
    }

abbrev pub decreases-loop-change : goal.decreases-loop-change
decreases-loop-change l = length (step_of l.self-inside.step.now).changes - l.self-inside.done
