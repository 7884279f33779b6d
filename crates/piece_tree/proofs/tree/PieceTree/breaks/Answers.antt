use Rattle.std.proofs.Common.{ap, ◌∙◌, arith}
use Rattle.piece_tree.specs.Pieces.{break_count_of}
use Rattle.piece_tree.specs.Runs.{pieces_in}
use Rattle.piece_tree.proofs.Sums.{breaks_few}
use Rattle.piece_tree.proofs.Looking.{pieces_shown}
use Rattle.piece_tree.proofs.tree.PieceTree.breaks.Goals as goal

pub returns-clause-sum : goal.returns-clause-sum
returns-clause-sum c =
    ap (λ s. s.breaks) c.sum.ensures.sum ∙ ap break_count_of (pieces_shown c.self.inside.runs.runs c.args.self.now.entries (ap (λ v. v.entries) c.self.view_is))

pub returns-clause-small : goal.returns-clause-small
returns-clause-small c =
    omega (arith, ap (λ s. s.breaks) c.sum.ensures.sum, breaks_few (pieces_in c.self.inside.runs.runs) c.self.invariant.few, c.self.invariant.small)
