use Rattle.std.proofs.Common.{min, arith}
use Rattle.bracket_nodes.specs.declared.leaf.TheConstants.{HIGHEST_BREAKS}
use Rattle.bracket_nodes.proofs.Runs.{breaks_sound}
use Rattle.bracket_nodes.proofs.leaf.Form.is_sound.Goals as goal

pub returns-in-Breaks : goal.returns-in-Breaks
returns-in-Breaks c = λ _. rw c.in-Breaks.is (breaks_sound (min c.in-Breaks.field-0 HIGHEST_BREAKS) (omega arith))
