use Rattle.std.proofs.Common.{◌∷◌, arith}
use Rattle.piece_tree.proofs.NearPieces.{run_named, run_before, within, before_all, before_one}
use Rattle.piece_tree.proofs.beside.piece_before.Goals as goal

pub prev-requires : goal.prev-requires
prev-requires c = run_named c.args.runs.now.runs c.args.id c.requires

pub last_in-requires : goal.last_in-requires
last_in-requires c =
    let runs = c.args.runs.now.runs in
    let (us, (x, (vs, at))) = run_named runs c.args.id c.requires in
    run_before runs us ((c.args.id.run, x) ∷ vs) at c.prev.result (c.prev.ensures us x vs at)

pub returns-then-id-eq0 : goal.returns-then-id-eq0
returns-then-id-eq0 c = λ earlier later p h.
    before_all c.args.runs.now.runs c.args.id p earlier later h c.if-id-eq0.true c.prev.result c.last_in.result c.prev.ensures c.last_in.ensures

pub get-pieces-requires : goal.get-pieces-requires
get-pieces-requires c = run_named c.args.runs.now.runs c.args.id c.requires

pub bounds-pieces-id : goal.bounds-pieces-id
bounds-pieces-id c =
    let is = c.requires in
    omega (arith, within c.args.runs.now.runs c.args.id is.piece is.earlier is.later is.place c.get-pieces.result.now c.get-pieces.ensures.run)

pub returns : goal.returns
returns c = λ earlier later p h.
    before_one c.args.runs.now.runs c.args.id p earlier later h c.get-pieces.result.now c.get-pieces.ensures.run _ (omega arith)
