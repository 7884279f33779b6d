use Rattle.std.proofs.Common.{ap, sym, ◌∙◌, arith}
use Rattle.piece_tree.specs.Runs.{entry_at}
use Rattle.piece_tree.proofs.Looking.{entries_few, entries_small}
use Rattle.piece_tree.proofs.Neighbours.{own, small_reach, first_there, next_is}
use Rattle.piece_tree.proofs.tree.PieceTree.next_found.Goals as goal

pub overflow_add-before : goal.overflow_add-before
overflow_add-before c =
    let runs = c.self.inside.runs.runs in let entries = c.args.self.now.entries in let shown = ap (λ v. v.entries) c.self.view_is in
    omega (arith, (small_reach entries c.args.near.now c.requires (entries_few runs entries shown c.self.invariant.few) (entries_small runs entries shown c.self.invariant.small)).0)

pub overflow_add-before-2 : goal.overflow_add-before-2
overflow_add-before-2 c =
    let runs = c.self.inside.runs.runs in let entries = c.args.self.now.entries in let shown = ap (λ v. v.entries) c.self.view_is in
    omega (arith, (small_reach entries c.args.near.now c.requires (entries_few runs entries shown c.self.invariant.few) (entries_small runs entries shown c.self.invariant.small)).1)

pub returns : goal.returns
returns c = λ is.
    let entries = c.args.self.now.entries in let near = c.args.near.now in let next = c.in_ok-next.next in
    let told = c.piece_after.ensures is.earlier is.later (own entries near is).piece (ap (λ v. v.entries) c.self.view_is ∙ is.place) in
    let (ws, after) = first_there is.later next.0 next.1 (sym c.in_ok-next.was ∙ told) in
    rw c.found.ensures (next_is entries near is (entry_at next.0 next.1) ws after)
