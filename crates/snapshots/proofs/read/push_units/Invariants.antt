use Rattle.std.proofs.Common.{◌≡◌, ◌≤◌, ◌++◌, take, drop, vec_len}
use Rattle.snapshots.specs.Spans.{spelled}
use Rattle.snapshots.proofs.read.push_units.Given as goal

abbrev pub invariant-loop-span : goal.invariant-loop-span
invariant-loop-span l = record {
  text : l.out.items ++ take l.left (spelled l.chunks.buffers (drop l.span-index l.spans))
      ≡ l.fn.out.items ++ take l.most (spelled l.chunks.buffers l.spans);
  before : take (vec_len l.fn.out) l.out.items ≡ l.fn.out.items;
  grown : vec_len l.fn.out ≤ vec_len l.out;
}
