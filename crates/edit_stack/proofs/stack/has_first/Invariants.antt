use Rattle.std.proofs.Common.{◌≡◌, false, map, take}
use Rattle.std.specs.List.{list_any}
use Rattle.edit_stack.specs.Element.{step_of}
use Rattle.undo_rules.specs.Tags.{has_tag}
use Rattle.edit_stack.proofs.stack.has_first.Given as goal

abbrev pub invariant-loop-at : goal.invariant-loop-at
invariant-loop-at g l = list_any (has_tag l.tag) (map step_of (take l.at l.elements.items)) ≡ false
