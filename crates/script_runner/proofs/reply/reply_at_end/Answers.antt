use Rattle.script_runner.proofs.ServeLemmas.{nothing_so_far}
use Rattle.script_runner.proofs.reply.reply_at_end.Goals as goal

pub returns-then-line-eq0-clause-turn : goal.returns-then-line-eq0-clause-turn
returns-then-line-eq0-clause-turn c = λ bytes so_far. rw (nothing_so_far _ bytes so_far c.if-line-eq0.true) c.answer.ensures.turn
