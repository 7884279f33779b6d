use Rattle.std.proofs.Common.{◌≡◌, take}
use Rattle.edit_stack.specs.Element.{step_of}
use Rattle.model_page.specs.Counts.{edit_count_along, unit_count, breaks_along}
use Rattle.model_page.proofs.change.need_of_step.Given as goal

abbrev pub invariant-loop-at : goal.invariant-loop-at
invariant-loop-at l = record {
  edits : l.all.edits ≡ edit_count_along l.way (take l.at (step_of l.step).changes);
  units : l.all.units ≡ unit_count l.way (take l.at (step_of l.step).changes);
  breaks : l.all.breaks ≡ breaks_along l.way (take l.at (step_of l.step).changes);
}
