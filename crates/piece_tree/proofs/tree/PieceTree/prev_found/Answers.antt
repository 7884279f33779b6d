use Rattle.std.proofs.Common.{ap, sym, ◌∙◌}
use Rattle.piece_tree.specs.Runs.{entry_at}
use Rattle.piece_tree.proofs.Neighbours.{own, last_none, last_there, prev_within, prev_is}
use Rattle.piece_tree.proofs.tree.PieceTree.prev_found.Goals as goal

pub returns-in_err-prev : goal.returns-in_err-prev
returns-in_err-prev c = λ is.
    let told = c.piece_before.ensures is.earlier is.later (own c.args.self.now.entries c.args.near.now is).piece (ap (λ v. v.entries) c.self.view_is ∙ is.place) in
    rw c.from_residual.ensures (last_none is.earlier (sym c.in_err-prev.was ∙ told))

pub overflow_sub-before : goal.overflow_sub-before
overflow_sub-before c =
    let is = c.requires in let entries = c.args.self.now.entries in let near = c.args.near.now in let prev = c.in_ok-prev.prev in
    let told = c.piece_before.ensures is.earlier is.later (own entries near is).piece (ap (λ v. v.entries) c.self.view_is ∙ is.place) in
    let (ws, before) = last_there is.earlier prev.0 prev.1 (sym c.in_ok-prev.was ∙ told) in
    (prev_within entries near is (entry_at prev.0 prev.1) ws before).0

pub overflow_sub-before-2 : goal.overflow_sub-before-2
overflow_sub-before-2 c =
    let is = c.requires in let entries = c.args.self.now.entries in let near = c.args.near.now in let prev = c.in_ok-prev.prev in
    let told = c.piece_before.ensures is.earlier is.later (own entries near is).piece (ap (λ v. v.entries) c.self.view_is ∙ is.place) in
    let (ws, before) = last_there is.earlier prev.0 prev.1 (sym c.in_ok-prev.was ∙ told) in
    (prev_within entries near is (entry_at prev.0 prev.1) ws before).1

pub returns : goal.returns
returns c = λ is.
    let entries = c.args.self.now.entries in let near = c.args.near.now in let prev = c.in_ok-prev.prev in
    let told = c.piece_before.ensures is.earlier is.later (own entries near is).piece (ap (λ v. v.entries) c.self.view_is ∙ is.place) in
    let (ws, before) = last_there is.earlier prev.0 prev.1 (sym c.in_ok-prev.was ∙ told) in
    rw c.found.ensures (prev_is entries near is (entry_at prev.0 prev.1) ws before)
