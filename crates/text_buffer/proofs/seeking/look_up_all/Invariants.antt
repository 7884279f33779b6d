use Rattle.std.specs.List.{All}
use Rattle.piece_tree.specs.Pieces.{IsFound}
use Rattle.text_buffer.proofs.seeking.look_up_all.Given as goal

abbrev pub invariant-loop-op : goal.invariant-loop-op
invariant-loop-op l = All (IsFound l.pieces.entries) l.remembered
