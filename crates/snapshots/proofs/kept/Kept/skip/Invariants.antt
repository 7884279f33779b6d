use Rattle.std.proofs.Common.{◌≡◌, ◌-◌, ◌≤◌, drop, vec_len}
use Rattle.std.specs.List.{All}
use Rattle.snapshots.specs.Spans.{IsSmall, without}
use Rattle.snapshots.proofs.kept.Kept.skip.Given as goal

abbrev pub invariant-loop-self : goal.invariant-loop-self
invariant-loop-self l = record {
  same : without l.left (drop l.self-inside.read l.self-inside.spans.items) ≡ without l.fn.n l.fn.self.spans;
  id : l.self-inside.id ≡ l.fn.self.id;
  within : l.self-inside.read ≤ vec_len l.self-inside.spans;
  small : All IsSmall l.self-inside.spans.items;
}

abbrev pub decreases-loop-self : goal.decreases-loop-self
decreases-loop-self l = vec_len l.self-inside.spans - l.self-inside.read
