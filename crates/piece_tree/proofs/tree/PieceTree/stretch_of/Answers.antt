use Rattle.std.proofs.Common.{ap, sym, subst}
use Rattle.piece_tree.specs.Pieces.{IsAmong}
use Rattle.piece_tree.proofs.Neighbours.{among}
use Rattle.piece_tree.proofs.NearPieces.{run_named}
use Rattle.piece_tree.proofs.Stretches.{place_front, front_counts, stretch_is}
use Rattle.piece_tree.proofs.tree.PieceTree.stretch_of.Goals as goal

pub get-pieces-requires : goal.get-pieces-requires
get-pieces-requires c =
    let near = c.args.near.now in
    run_named c.self.inside.runs.runs near.id (subst (λ v. IsAmong v.entries near.id) (sym c.self.view_is) (among c.args.self.now.entries near c.requires))

pub slice_bounds-sum_of-end : goal.slice_bounds-sum_of-end
slice_bounds-sum_of-end c =
    place_front c.self.inside.runs.runs c.args.self.now.entries (ap (λ v. v.entries) c.self.view_is) c.args.near.now c.requires c.get-pieces.result.now c.get-pieces.ensures.run

pub overflow_sub-before : goal.overflow_sub-before
overflow_sub-before c =
    (front_counts c.self.inside.runs.runs c.args.self.now.entries (ap (λ v. v.entries) c.self.view_is) c.args.near.now c.requires c.get-pieces.result.now c.get-pieces.ensures.run
    c.sum_of-earlier.result c.sum_of-earlier.ensures).0

pub overflow_sub-before-2 : goal.overflow_sub-before-2
overflow_sub-before-2 c =
    (front_counts c.self.inside.runs.runs c.args.self.now.entries (ap (λ v. v.entries) c.self.view_is) c.args.near.now c.requires c.get-pieces.result.now c.get-pieces.ensures.run
    c.sum_of-earlier.result c.sum_of-earlier.ensures).1

pub returns : goal.returns
returns c =
    stretch_is c.self.inside.runs.runs c.args.self.now.entries (ap (λ v. v.entries) c.self.view_is) c.args.near.now c.requires c.get-pieces.result.now c.get-pieces.ensures.run
    c.sum_of-earlier.result c.sum_of-earlier.ensures c.get-pieces.ensures.own c.sum_of.result c.sum_of.ensures _ c.found.result c.found.ensures
