use Rattle.std.proofs.Common.{ap, ◌∙◌}
use Rattle.piece_tree.specs.Pieces.{unit_count}
use Rattle.piece_tree.proofs.Looking.{pieces_shown}
use Rattle.piece_tree.proofs.tree.PieceTree.len.Goals as goal

pub returns-clause-sum : goal.returns-clause-sum
returns-clause-sum c =
    ap (λ s. s.units) c.sum.ensures.sum ∙ ap unit_count (pieces_shown c.self.inside.runs.runs c.args.self.now.entries (ap (λ v. v.entries) c.self.view_is))
