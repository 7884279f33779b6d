use Rattle.std.specs.Prelude.{length}
use Rattle.worked_oracles.proofs.tests.flat_lines.with_breaks.Given as goal

abbrev pub decreases-loop-content : goal.decreases-loop-content
decreases-loop-content l = length l.rest
