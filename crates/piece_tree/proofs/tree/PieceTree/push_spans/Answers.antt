use Rattle.std.proofs.Common.{[], ◌++◌, map, refl, ap, sym, ◌∙◌}
use Rattle.std.proofs.lemmas.List.{append-nil}
use Rattle.piece_tree.specs.Runs.{pieces_in}
use Rattle.piece_tree.proofs.NearPieces.{run_behind}
use Rattle.piece_tree.proofs.Looking.{pieces_shown}
use Rattle.piece_tree.proofs.Walks.{left_all}
use Rattle.piece_tree.proofs.tree.PieceTree.push_spans.Goals as goal

pub walk_from-walk-requires : goal.walk_from-walk-requires
walk_from-walk-requires c = let runs = c.self.inside.runs.runs in run_behind runs [] runs refl c.first.result c.first.ensures

pub loop-pieces-init : goal.loop-pieces-init
loop-pieces-init c =
    let runs = c.self.inside.runs.runs in let out = c.args.out.now.items in record {
      begins = ([], sym (append-nil out));
      whole = ap (λ ps. out ++ map (λ p. p.span) ps)
          (ap pieces_in (left_all runs c.first.result c.walk_from-walk.result.left c.first.ensures c.walk_from-walk.ensures.left)
          ∙ pieces_shown runs c.args.self.now.entries (ap (λ v. v.entries) c.self.view_is));
    }
