use Rattle.std.proofs.Common.{◌≡◌, ℕ, List, length, take, drop, min, arith, sym, ◌∙◌}
use Rattle.std.proofs.lemmas.List.{take-append-le, length-take-le}
use Rattle.script_runner.proofs.ServeLemmas.{served_to_start, serves_end, served_to_more, served_to_write_fault, piece_broken_at_err, piece_answered_at_ok}
use Rattle.script_runner.proofs.serving.serve.Goals as goal

-- how many bytes a read may give
room : (buf given : List ℕ) (n left : ℕ) → n ≡ min (length buf) left → length given ≡ length (take n buf) → length given ≡ min (length buf) left
room buf given n left is whole = whole ∙ length-take-le n buf (omega arith) ∙ is

pub loop-left-init : goal.loop-left-init
loop-left-init g c =
    served_to_start _ _ c.new-progress.result _ _ c.new-progress.ensures.line c.new-progress.ensures.refused c.new-progress.ensures.memory

pub returns-then-given-eq0 : goal.returns-then-given-eq0
returns-then-given-eq0 g c =
    let offered = room c.loop-left.buf c.read.new.buf _ _ c.min-room.ensures c.read.auto.buf in
    let kept = c.loop-left.auto.buf in
    serves_end _ _ _ _ _ _ _ _ _ _ _ _ _ c.loop-left.invariant c.in-Ok.given c.read.new.buf c.in-Ok.ensures c.if-given-eq0.true
    (omega (arith, c.requires)) c.ranges.most.fits (omega arith) c.finish.ensures

pub returns-then-is_err : goal.returns-then-is_err
returns-then-is_err g c =
    let n = c.in-Ok.given in let given = c.in-Ok.ensures in
    let offered = room c.loop-left.buf c.read.new.buf _ _ c.min-room.ensures c.read.auto.buf in
    let piece = rw (take-append-le n c.read.new.buf (drop c.min-room.result c.loop-left.buf) given.within) at c.answer_piece.ensures in
    served_to_write_fault _ _ _ _ _ _ _ _ _ c.loop-left.invariant _ n c.read.new.buf given (omega arith) (omega (arith, given.within)) _ _
    (piece_broken_at_err _ _ _ _ _ c.answer_piece.new.progress _ _ (sym c.is_err.ensures.value ∙ c.if-is_err.true) piece)

pub loop-left-preserved : goal.loop-left-preserved
loop-left-preserved g c =
    let n = c.in-Ok.given in let given = c.in-Ok.ensures in
    let offered = room c.loop-left.buf c.read.new.buf _ _ c.min-room.ensures c.read.auto.buf in
    let piece = rw (take-append-le n c.read.new.buf (drop c.min-room.result c.loop-left.buf) given.within) at c.answer_piece.ensures in
    served_to_more _ _ _ _ _ _ _ _ _ c.loop-left.invariant _ n c.read.new.buf given (omega arith) (omega (arith, given.within)) _ _ _
    (piece_answered_at_ok _ _ _ _ _ _ _ _ (sym c.is_err.ensures.value ∙ c.if-is_err.false) piece)
