use Rattle.std.proofs.Common.{sym, subst, ◌∙◌, arith}
use Rattle.chunk_buffers.specs.Chunks.{LiesIn}
use Rattle.piece_tree.proofs.Prolonged.{meets, inside-prolonged}
use Rattle.piece_tree.proofs.put.joined.Goals as goal

pub prolonged-requires : goal.prolonged-requires
prolonged-requires c =
    let own = c.in-Some-Some.own in let piece = c.in-Some-Some.piece in let is = c.requires.counted piece c.in-Some-Some.is-1 in
    omega (arith, meets own.span piece.span (sym c.goes_on.ensures ∙ c.if-goes_on.true), is.inside.fits)

pub piece_of-whole-requires : goal.piece_of-whole-requires
piece_of-whole-requires c =
    let own = c.in-Some-Some.own in let piece = c.in-Some-Some.piece in let is = c.requires.counted piece c.in-Some-Some.is-1 in
    subst (LiesIn c.args.chunks.now.buffers) (sym c.prolonged.ensures) (inside-prolonged own.span piece.span (sym c.goes_on.ensures ∙ c.if-goes_on.true) c.args.chunks.now.buffers is.inside)
