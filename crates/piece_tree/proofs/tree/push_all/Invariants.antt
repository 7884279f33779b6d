use Rattle.std.proofs.Common.{◌≡◌, ◌++◌, map, take}
use Rattle.piece_tree.proofs.tree.push_all.Given as goal

-- the spans of the pieces so far were appended
abbrev pub invariant-loop-piece : goal.invariant-loop-piece
invariant-loop-piece l = l.out.items ≡ l.fn.out.items ++ map (λ p. p.span) (take l.piece-index l.pieces)
