use Rattle.std.proofs.Common.{length}
use Rattle.script_runner.proofs.LedLemmas.{IsAnsweredTo}
use Rattle.script_runner.proofs.serving.answer_piece.Given as goal

abbrev pub invariant-loop-line : goal.invariant-loop-line
invariant-loop-line g l =
    IsAnsweredTo l.fn.piece l.rest l.fn.session l.fn.progress l.session l.progress
    (g.K.Sink.state l.fn.out) (g.K.Sink.state l.out)

abbrev pub decreases-loop-line : goal.decreases-loop-line
decreases-loop-line g l = length l.rest
