use Rattle.std.proofs.Common.{◌≡◌, ◌-◌, ◌≤◌, length, drop}
use Rattle.piece_tree.specs.Pieces.{unit_count, back}
use Rattle.piece_tree.proofs.left.left_of.Given as goal

abbrev pub invariant-loop-place : goal.invariant-loop-place
invariant-loop-place l = record {
  ordered : l.from ≤ l.place;
  within : l.place ≤ length l.pieces;
  left : back l.chunks.buffers l.missing (drop l.place l.pieces) ≡ back l.chunks.buffers l.units (drop l.from l.pieces);
  count : l.missing - unit_count (drop l.place l.pieces) ≡ l.units - unit_count (drop l.from l.pieces);
}

abbrev pub decreases-loop-place : goal.decreases-loop-place
decreases-loop-place l = length l.pieces - l.place
