use Rattle.std.proofs.Common.{◌≡◌, ◌+◌, ◌-◌, ◌≤◌, ◌++◌, length, take, drop, vec_len, vec_capacity}
use Rattle.std.specs.List.{concat}
use Rattle.piece_tree.specs.Pieces.{pieces_of}
use Rattle.text_buffer.specs.Text.{spelled}
use Rattle.text_buffer.proofs.view.View.push_span.Given as goal

abbrev pub invariant-loop-left : goal.invariant-loop-left
invariant-loop-left l = record {
  copied : l.out.items ++ take l.left (concat l.runs.left)
      ≡ l.fn.out.items ++ take (l.fn.span.end - l.fn.span.start) (drop l.fn.span.start (spelled l.self.chunks.now.buffers (pieces_of l.self.pieces.now.entries)));
  enough : l.left ≤ length (concat l.runs.left);
  room : vec_len l.out + l.left ≤ vec_capacity l.out;
}

abbrev pub decreases-loop-left : goal.decreases-loop-left
decreases-loop-left l = l.left
