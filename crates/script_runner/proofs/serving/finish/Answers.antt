use Rattle.script_runner.proofs.ServeLemmas.{finish_empty, finish_line, finish_broken}
use Rattle.script_runner.proofs.serving.finish.Goals as goal

pub returns-then-progress-eq0 : goal.returns-then-progress-eq0
returns-then-progress-eq0 g c = rw c.ended.ensures (finish_empty _ _ _ c.if-progress-eq0.true)

pub returns-in-Ok : goal.returns-in-Ok
returns-in-Ok g c = rw c.ended-in-Ok.ensures (finish_line _ _ _ _ _ _ c.if-progress-eq0.false c.in-Ok.ensures)

pub returns : goal.returns
returns g c = finish_broken _ _ _ c.answer_line.new.progress _ _ c.if-progress-eq0.false c.in-Err.ensures
