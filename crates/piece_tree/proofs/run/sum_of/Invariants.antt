use Rattle.std.proofs.Common.{◌≡◌, ◌≤◌, ◌*◌, ◌^◌, take}
use Rattle.piece_tree.specs.Pieces.{unit_count, break_count_of}
use Rattle.piece_tree.proofs.run.sum_of.Given as goal

-- the sum so far, of pieces of less than 2^32 units and breaks each
abbrev pub invariant-loop-piece : goal.invariant-loop-piece
invariant-loop-piece l = record {
  units : l.sum.units ≡ unit_count (take l.piece-index l.pieces);
  breaks : l.sum.breaks ≡ break_count_of (take l.piece-index l.pieces);
  few_units : l.sum.units ≤ l.piece-index * 2 ^ 32;
  few_breaks : l.sum.breaks ≤ l.piece-index * 2 ^ 32;
}
