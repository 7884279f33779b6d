use Rattle.std.proofs.Common.{refl}
use Rattle.std.proofs.lemmas.Result.{err_from_is_err_and}
use Rattle.script_runner.proofs.LedLemmas.{answered_to_line, piece_broken, piece_answered}
use Rattle.script_runner.proofs.serving.answer_piece.Goals as goal

pub returns-in_err-answer_line : goal.returns-in_err-answer_line
returns-in_err-answer_line g c =
    let failed = err_from_is_err_and c.from_residual.result c.from_residual.ensures.1 in
    rw failed.1
    (piece_broken _ _ _ _ _ _ _ _ c.loop-line.invariant _ c.in-Some.ensures.line _ _ _
    c.in-Some.ensures.split c.in_err-answer_line.ensures)

pub loop-line-preserved : goal.loop-line-preserved
loop-line-preserved g c =
    answered_to_line _ _ _ _ _ _ _ _ c.loop-line.invariant _ c.in-Some.ensures.line _ _ _ _
    c.in-Some.ensures.split c.in_ok-answer_line.ensures

pub returns : goal.returns
returns g c =
    piece_answered _ _ _ _ _ _ _ _ c.loop-line.invariant _ c.in_default.ensures.none _ c.extend.ensures refl refl refl
