use Rattle.model_group.specs.Losing.{tags_from}
use Rattle.model_group.proofs.Losses.{LostBelow}
use Rattle.model_group.proofs.losing.lose_from.Given as goal

abbrev pub invariant-loop-k : goal.invariant-loop-k
invariant-loop-k l = LostBelow l.k (tags_from l.fn.models l.doc l.first) l.spared l.fn.models l.models
