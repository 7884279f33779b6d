use Rattle.std.proofs.Common.{◌<◌, ap, sym, subst}
use Rattle.piece_tree.specs.Searches.{number_of, count_of}
use Rattle.piece_tree.proofs.Looking.{pieces_shown, within_look_ups, run_found, can_find, piece_found, small_found}
use Rattle.piece_tree.proofs.tree.PieceTree.look_up.Goals as goal

pub find-run-requires : goal.find-run-requires
find-run-requires g c =
    subst (λ ps. number_of c.args.sought < count_of c.args.sought ps) (sym (pieces_shown c.self.inside.runs.runs c.args.self.now.entries (ap (λ v. v.entries) c.self.view_is))) c.requires

pub get-pieces-requires : goal.get-pieces-requires
get-pieces-requires g c = run_found c.self.inside.runs.runs c.args.sought c.find-run.result c.find-run.ensures.run

pub find_in-requires : goal.find_in-requires
find_in-requires g c = record {
  few = c.get-pieces.ensures.few;
  there = can_find c.self.inside.runs.runs c.args.sought c.find-run.result c.find-run.ensures.run c.get-pieces.result.now c.get-pieces.ensures.run c.self.invariant.small c.self.invariant.few;
}

pub returns : goal.returns
returns g c =
    let runs = c.self.inside.runs.runs in let entries = c.args.self.now.entries in let shown = ap (λ v. v.entries) c.self.view_is in let is = c.find_in.ensures.found in record {
      piece = piece_found runs c.args.sought c.find-run.result c.find-run.ensures.run c.get-pieces.result.now c.get-pieces.ensures.run c.self.invariant.small entries shown c.find_in.result is;
      has = is.has;
      small = small_found runs c.args.sought c.find-run.result c.find-run.ensures.run c.get-pieces.result.now c.get-pieces.ensures.run c.self.invariant.small entries shown c.find_in.result is;
      cost = within_look_ups runs entries shown 1 _ c.find-run.ensures.full c.find-run.ensures.cost;
    }
