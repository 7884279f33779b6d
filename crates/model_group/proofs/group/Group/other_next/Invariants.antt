use Rattle.std.proofs.Common.{◌≡◌, drop}
use Rattle.group_rules.specs.Going.{other_next_from}
use Rattle.model_group.specs.State.{documents}
use Rattle.model_group.specs.Prepared.{going_along}
use Rattle.model_group.proofs.group.Group.other_next.Given as goal

abbrev pub invariant-loop-doc : goal.invariant-loop-doc
invariant-loop-doc l =
    other_next_from l.doc (going_along l.way) l.tag (drop l.doc (documents l.model-items))
    ≡ other_next_from 0 (going_along l.way) l.tag (documents l.model-items)
