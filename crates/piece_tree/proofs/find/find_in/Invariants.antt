use Rattle.std.proofs.Common.{◌≡◌, ◌+◌}
use Rattle.piece_tree.proofs.Finding.{IsPast}
use Rattle.piece_tree.proofs.find.find_in.Given as goal

-- the pieces so far do not contain the target, and each was a step
abbrev pub invariant-loop-piece : goal.invariant-loop-piece
invariant-loop-piece g l = record {
  past : IsPast l.pieces l.fn.before l.sought l.piece-index l.sum;
  place : l.place ≡ l.piece-index;
  steps : l.steps ≡ l.fn.steps + l.piece-index;
}
