use Rattle.std.proofs.Common.{ap, ◌∙◌, arith}
use Rattle.piece_tree.specs.declared.piece.PieceSum.{PieceSum}
use Rattle.piece_tree.specs.Pieces.{sum_of}
use Rattle.piece_tree.specs.Runs.{Runs, pieces_in}
use Rattle.piece_tree.proofs.Storing.{sum_is}
use Rattle.piece_tree.proofs.runs.RunTree.sum.Goals as goal

pub returns-clause-sum : goal.returns-clause-sum
returns-clause-sum c =
    c.sum.ensures ∙ sum_is c.self.inside.stored c.self.inside.tree.items c.self.invariant.each ∙ ap (λ (r : Runs). sum_of (pieces_in r.runs)) c.self.view_is

pub returns-clause-small : goal.returns-clause-small
returns-clause-small c =
    let is = ap (λ (s : PieceSum). s.units) (c.sum.ensures ∙ sum_is c.self.inside.stored c.self.inside.tree.items c.self.invariant.each) in
    omega (arith, is, c.self.invariant.small)
