use Rattle.std.specs.Prelude.{length}
use Rattle.worked_oracles.proofs.tests.flat_lines.line_count.Given as goal

abbrev pub decreases-loop-after : goal.decreases-loop-after
decreases-loop-after l = length l.rest
