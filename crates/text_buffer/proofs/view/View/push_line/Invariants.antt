use Rattle.std.proofs.Common.{length}
use Rattle.text_buffer.specs.Reading.{spans_left, pieces_left, CanRead}
use Rattle.text_buffer.specs.Text.{spelled}
use Rattle.text_buffer.proofs.LineCopies.{Copied}
use Rattle.text_buffer.proofs.view.View.push_line.Given as goal

abbrev pub invariant-loop-span : goal.invariant-loop-span
invariant-loop-span l = record {
  can : CanRead l.self.chunks.now.buffers (pieces_left l.self.chunks.now.buffers l.rest);
  copied : Copied (spelled l.self.chunks.now.buffers (pieces_left l.self.chunks.now.buffers l.fn.rest)) (spelled l.self.chunks.now.buffers (pieces_left l.self.chunks.now.buffers l.rest))
      l.fn.out.items l.out.items;
}

abbrev pub decreases-loop-span : goal.decreases-loop-span
decreases-loop-span l = length (spans_left l.rest)
