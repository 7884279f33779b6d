use Rattle.std.proofs.Common.{◌∷◌, ◌++◌, [], sym, ◌∙◌, append_assoc, arith}
use Rattle.piece_tree.proofs.NearPieces.{run_named, run_behind, within, after_all, after_one}
use Rattle.piece_tree.proofs.beside.piece_after.Goals as goal

pub get-pieces-requires : goal.get-pieces-requires
get-pieces-requires c = run_named c.args.runs.now.runs c.args.id c.requires

pub next-requires : goal.next-requires
next-requires c = run_named c.args.runs.now.runs c.args.id c.requires

pub first_in-requires : goal.first_in-requires
first_in-requires c =
    let runs = c.args.runs.now.runs in let own = c.args.id.run in
    let (us, (x, (vs, at))) = run_named runs c.args.id c.requires in
    run_behind runs (us ++ (own, x) ∷ []) vs (at ∙ sym (append_assoc us ((own, x) ∷ []) vs)) c.next.result (c.next.ensures us x vs at)

pub returns-then-place-pieces : goal.returns-then-place-pieces
returns-then-place-pieces c = λ earlier later p h.
    after_all c.args.runs.now.runs c.args.id p earlier later h c.get-pieces.result.now c.get-pieces.ensures.run c.if-place-pieces.true c.next.result c.first_in.result c.next.ensures c.first_in.ensures

pub overflow_add-next : goal.overflow_add-next
overflow_add-next c =
    let is = c.requires in
    omega (arith, within c.args.runs.now.runs c.args.id is.piece is.earlier is.later is.place c.get-pieces.result.now c.get-pieces.ensures.run)

pub bounds-pieces-place : goal.bounds-pieces-place
bounds-pieces-place c =
    let is = c.requires in
    omega (arith, within c.args.runs.now.runs c.args.id is.piece is.earlier is.later is.place c.get-pieces.result.now c.get-pieces.ensures.run)

pub returns : goal.returns
returns c = λ earlier later p h.
    let xs = c.get-pieces.result.now in
    let there = within c.args.runs.now.runs c.args.id p earlier later h xs c.get-pieces.ensures.run in
    after_one c.args.runs.now.runs c.args.id p earlier later h xs c.get-pieces.ensures.run _ (omega (arith, there))
