use Rattle.std.proofs.Common.{◌≡◌, ◌≤◌, drop}
use Rattle.decoration_rules.specs.Decorations.{kept}
use Rattle.decorations.proofs.Removed.{AreLeft}
use Rattle.decorations.proofs.changes.remove_all.Given as goal

abbrev pub invariant-loop-id : goal.invariant-loop-id
invariant-loop-id l = record {
  same : kept l.tree.marks (drop l.id-index l.ids) ≡ kept l.initial.tree.marks l.ids;
  left : AreLeft l.tree.marks (drop l.id-index l.ids);
  room : l.initial.tree.spare ≤ l.tree.spare;
}
