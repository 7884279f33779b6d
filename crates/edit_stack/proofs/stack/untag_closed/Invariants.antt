use Rattle.std.proofs.Common.{◌≡◌, ◌≤◌, length, take}
use Rattle.edit_stack.proofs.LastTags.{AreUntagged}
use Rattle.edit_stack.proofs.stack.untag_closed.Given as goal

abbrev pub invariant-loop-left : goal.invariant-loop-left
invariant-loop-left g l = record {
  within : l.at ≤ l.kept;
  done : AreUntagged l.doc l.count l.left l.at (take l.kept l.initial.elements.items) (take l.kept l.elements.items);
  len : length l.elements.items ≡ length l.initial.elements.items;
  capacity : l.elements.capacity ≡ l.initial.elements.capacity;
}

abbrev pub decreases-loop-left : goal.decreases-loop-left
decreases-loop-left g l = l.at
