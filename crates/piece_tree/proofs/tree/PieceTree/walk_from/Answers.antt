use Rattle.std.proofs.Common.{[], ap}
use Rattle.piece_tree.proofs.Looking.{within_look_ups}
use Rattle.piece_tree.proofs.Walks.{walk_named, walk_left, walk_in}
use Rattle.piece_tree.proofs.tree.PieceTree.walk_from.Goals as goal

pub walk_from-requires : goal.walk_from-requires
walk_from-requires c =
    rw c.place_of-run.ensures (walk_named c.self.inside.runs.runs c.args.self.now.entries (ap (λ v. v.entries) c.self.view_is) c.args.id c.requires)

pub invariant_of-result : goal.invariant_of-result
invariant_of-result c =
    rw c.place_of-run.ensures (walk_in c.self.inside.runs.runs c.args.self.now.entries (ap (λ v. v.entries) c.self.view_is) c.args.id c.requires c.walk_from.result.left
    (rw c.place_of-run.ensures at c.walk_from.ensures.left) c.walk_from.ensures.full [])

pub returns-clause-left : goal.returns-clause-left
returns-clause-left c =
    rw c.place_of-run.ensures (walk_left c.self.inside.runs.runs c.args.self.now.entries (ap (λ v. v.entries) c.self.view_is) c.args.id c.walk_from.result.left
    (rw c.place_of-run.ensures at c.walk_from.ensures.left))

pub returns-clause-due : goal.returns-clause-due
returns-clause-due c =
    within_look_ups c.self.inside.runs.runs c.args.self.now.entries (ap (λ v. v.entries) c.self.view_is) 2 _ c.walk_from.ensures.full c.walk_from.ensures.due
