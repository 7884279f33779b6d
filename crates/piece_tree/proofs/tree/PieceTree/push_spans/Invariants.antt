use Rattle.std.proofs.Common.{◌≡◌, ◌++◌, map, length}
use Rattle.piece_tree.specs.Pieces.{pieces_of, BeginsWith}
use Rattle.piece_tree.specs.Runs.{pieces_in}
use Rattle.piece_tree.proofs.tree.PieceTree.push_spans.Given as goal

-- the spans of the pieces of the runs so far were appended
abbrev pub invariant-loop-pieces : goal.invariant-loop-pieces
invariant-loop-pieces l = record {
  begins : BeginsWith l.fn.out.items l.out.items;
  whole : l.out.items ++ map (λ p. p.span) (pieces_in l.walk.left) ≡ l.fn.out.items ++ map (λ p. p.span) (pieces_of l.self.entries);
}

abbrev pub decreases-loop-pieces : goal.decreases-loop-pieces
decreases-loop-pieces l = length l.walk.left
