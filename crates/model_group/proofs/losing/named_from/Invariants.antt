use Rattle.undo_rules.specs.Tags.{all_steps}
use Rattle.model_group.specs.Losing.{Names}
use Rattle.model_group.proofs.Losses.{tags_between}
use Rattle.model_group.proofs.losing.named_from.Given as goal

abbrev pub invariant-loop-at : goal.invariant-loop-at
invariant-loop-at l = Names (tags_between (all_steps l.model.document.history) l.first l.at) l.named
