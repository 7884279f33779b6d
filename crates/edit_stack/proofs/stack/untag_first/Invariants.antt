use Rattle.std.proofs.Common.{◌≡◌, length, map, take, drop}
use Rattle.edit_stack.specs.Element.{step_of}
use Rattle.undo_rules.specs.Tags.{without_tag}
use Rattle.edit_stack.proofs.stack.untag_first.Given as goal

abbrev pub invariant-loop-at : goal.invariant-loop-at
invariant-loop-at g l = record {
  done : map step_of (take l.at l.elements.items) ≡ map (without_tag l.tag) (map step_of (take l.at l.initial.elements.items));
  rest : drop l.at l.elements.items ≡ drop l.at l.initial.elements.items;
  len : length l.elements.items ≡ length l.initial.elements.items;
  capacity : l.elements.capacity ≡ l.initial.elements.capacity;
}
