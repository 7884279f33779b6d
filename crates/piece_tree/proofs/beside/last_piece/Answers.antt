use Rattle.std.proofs.Common.{[], sym}
use Rattle.std.proofs.lemmas.List.{append-nil}
use Rattle.piece_tree.proofs.NearPieces.{run_before, piece_before}
use Rattle.piece_tree.proofs.beside.last_piece.Goals as goal

pub last_in-requires : goal.last_in-requires
last_in-requires c = let runs = c.args.runs.now.runs in run_before runs runs [] (sym (append-nil runs)) c.last.result c.last.ensures

pub returns : goal.returns
returns c = let runs = c.args.runs.now.runs in piece_before runs runs [] (sym (append-nil runs)) c.last.result c.last_in.result c.last.ensures c.last_in.ensures
