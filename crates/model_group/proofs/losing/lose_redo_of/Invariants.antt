use Rattle.std.proofs.Common.{take}
use Rattle.model_group.specs.Losing.{LoseTags}
use Rattle.model_group.proofs.Losses.{lost_of}
use Rattle.model_group.proofs.losing.lose_redo_of.Given as goal

abbrev pub invariant-loop-i : goal.invariant-loop-i
invariant-loop-i l = LoseTags (lost_of l.fn.models (take l.i l.ready)) l.members l.fn.models l.models
