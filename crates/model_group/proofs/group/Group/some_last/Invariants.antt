use Rattle.std.proofs.Common.{◌≡◌, drop}
use Rattle.group_rules.specs.Going.{some_last_from}
use Rattle.model_group.specs.State.{documents}
use Rattle.model_group.proofs.group.Group.some_last.Given as goal

abbrev pub invariant-loop-doc : goal.invariant-loop-doc
invariant-loop-doc l = some_last_from l.doc l.tag (drop l.doc (documents l.model-items)) ≡ some_last_from 0 l.tag (documents l.model-items)
