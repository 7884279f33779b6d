use Rattle.piece_tree.proofs.NearPieces.{last_is}
use Rattle.piece_tree.proofs.beside.last_in.Goals as goal

pub returns : goal.returns
returns c = last_is c.args.runs.now.runs c.args.run c.in_ok-run.run' c.in_ok-run.was c.get-pieces.result.now c.get-pieces.ensures.run c.get-pieces.ensures.some _
