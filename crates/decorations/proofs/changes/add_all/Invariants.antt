use Rattle.std.proofs.Common.{◌≡◌, ◌+◌, ◌≤◌, length}
use Rattle.decoration_rules.specs.Marks.{in_order}
use Rattle.decorations.proofs.Added.{so_far}
use Rattle.decorations.proofs.changes.add_all.Given as goal

abbrev pub invariant-loop-new : goal.invariant-loop-new
invariant-loop-new l = record {
  marks : l.tree.marks ≡ in_order (so_far l.owner l.first l.add l.initial.tree.marks l.new-index);
  id : l.id ≡ l.first + l.new-index;
  room : length l.add ≤ l.tree.spare + l.new-index;
}
