use Rattle.std.proofs.Common.{refl, arith}
use Rattle.piece_tree.specs.Pieces.{piece_of}
use Rattle.piece_tree.proofs.Cuts.{span_few}
use Rattle.piece_tree.proofs.piece.piece_of.Goals as goal

pub overflow_cast-result : goal.overflow_cast-result
overflow_cast-result c =
    let b = c.args.chunks.now.buffers in
    omega (arith, c.breaks.ensures, span_few b (piece_of b c.args.span) c.args.span c.requires refl, c.requires.fits)
