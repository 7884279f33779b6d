use Rattle.std.proofs.Common.{arith}
use Rattle.script_play.specs.Draws.{next}
use Rattle.script_play.proofs.play.next.Goals as goal

pub returns : goal.returns
unfolding next
returns c = omega arith
