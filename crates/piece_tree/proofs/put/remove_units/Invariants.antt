use Rattle.std.proofs.Common.{◌≡◌, ℕ, ◌<◌, ◌≤◌, ◌^◌, List, length}
use Rattle.rb_arena.specs.RbTree.{AtItem, SplitsAt}
use Rattle.piece_tree.specs.declared.piece.Piece.{Piece}
use Rattle.piece_tree.specs.Pieces.{back, unit_count}
use Rattle.piece_tree.specs.Runs.{pieces_in}
use Rattle.piece_tree.specs.Splicing.{HasPiecesBehind}
use Rattle.piece_tree.proofs.put.remove_units.Given as goal

abbrev pub invariant-loop-id : goal.invariant-loop-id
invariant-loop-id l = record {
  pieces : HasPiecesBehind l.chunks.buffers l.runs.runs l.after;
  left : AtItem l.fn.runs.runs l.after (λ us x vs.
      (ws : List (ℕ × List Piece)) × SplitsAt l.runs.runs l.after us x ws × (back l.chunks.buffers l.units (pieces_in vs) ≡ back l.chunks.buffers l.missing (pieces_in ws)));
  small : unit_count (pieces_in l.runs.runs) < 2 ^ 62;
  room : l.fn.runs.spare ≤ l.runs.spare;
}

abbrev pub decreases-loop-id : goal.decreases-loop-id
decreases-loop-id l = length l.runs.runs
