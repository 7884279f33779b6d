use Rattle.std.specs.List.{All}
use Rattle.piece_tree.specs.Pieces.{IsFound}
use Rattle.text_buffer.proofs.seeking.follow_line.Given as goal

abbrev pub invariant-loop : goal.invariant-loop
invariant-loop l = record {
  found : IsFound l.pieces.entries l.found;
  remembered : All (IsFound l.pieces.entries) l.remembered;
}
