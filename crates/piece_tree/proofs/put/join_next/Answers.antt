use Rattle.std.proofs.Common.{length, ap, sym, ◌∙◌, arith}
use Rattle.piece_tree.proofs.PutPieces.{joins_none, joins_next, can_join, next_named}
use Rattle.piece_tree.proofs.put.join_next.Goals as goal

pub returns-then-end-gt-FEW_PIECES-clause-joined : goal.returns-then-end-gt-FEW_PIECES-clause-joined
returns-then-end-gt-FEW_PIECES-clause-joined c = λ us x vs e. joins_none c.args.runs.now.runs us c.args.id x vs e

pub get-requires : goal.get-requires
get-requires c =
    let (us, (x, (vs, e))) = c.requires.named in
    next_named c.args.runs.now.runs us c.args.id x vs e c.in-Some.next c.next.result c.in-Some.is (c.next.ensures us x vs e)

pub remove-requires : goal.remove-requires
remove-requires c =
    let (us, (x, (vs, e))) = c.requires.named in
    next_named c.args.runs.now.runs us c.args.id x vs e c.in-Some.next c.next.result c.in-Some.is (c.next.ensures us x vs e)

pub replace_in-requires-clause-fits : goal.replace_in-requires-clause-fits
replace_in-requires-clause-fits c =
    let (us, (x, (vs, e))) = c.requires.named in
    let read = c.pieces-then-pieces-le-FEW_PIECES.ensures ∙ c.of-more.ensures.pieces in
    let size = ap length (c.get-end.ensures.run us x vs e) in
    let same = ap length (c.pieces.ensures ∙ sym c.pieces-then-pieces-le-FEW_PIECES.ensures) in
    can_join c.args.runs.now.runs us c.args.id x vs e c.in-Some.next c.next.result c.in-Some.is (c.next.ensures us x vs e)
    c.remove.new.self.runs c.pieces-then-pieces-le-FEW_PIECES.result.now (length c.get-end.result.now) c.remove.ensures.runs
    (λ ws y zs at. read ∙ c.get.ensures.run ws y zs at) size
    (omega (arith, size, c.get-end.ensures.some)) (omega (arith, size, same, c.if-end-gt-FEW_PIECES.false, c.if-pieces-le-FEW_PIECES.true)) c.requires.small

pub returns-then-pieces-le-FEW_PIECES-clause-joined : goal.returns-then-pieces-le-FEW_PIECES-clause-joined
returns-then-pieces-le-FEW_PIECES-clause-joined c = λ us x vs e.
    let read = c.pieces-then-pieces-le-FEW_PIECES.ensures ∙ c.of-more.ensures.pieces in
    joins_next c.args.runs.now.runs us c.args.id x vs e c.in-Some.next c.next.result c.in-Some.is (c.next.ensures us x vs e)
    c.remove.new.self.runs c.replace_in.new.self.runs c.pieces-then-pieces-le-FEW_PIECES.result.now (length c.get-end.result.now) c.remove.ensures.runs
    (λ ws y zs at. read ∙ c.get.ensures.run ws y zs at) (ap length (c.get-end.ensures.run us x vs e)) c.replace_in.ensures.runs

pub returns-else-pieces-le-FEW_PIECES-clause-joined : goal.returns-else-pieces-le-FEW_PIECES-clause-joined
returns-else-pieces-le-FEW_PIECES-clause-joined c = λ us x vs e. joins_none c.args.runs.now.runs us c.args.id x vs e
