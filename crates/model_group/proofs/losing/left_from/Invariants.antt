use Rattle.std.proofs.Common.{◌≡◌, ◌≤◌}
use Rattle.undo_rules.specs.Tags.{all_steps}
use Rattle.model_group.specs.Losing.{left_count}
use Rattle.model_group.proofs.Losses.{tags_between}
use Rattle.model_group.proofs.losing.left_from.Given as goal

abbrev pub invariant-loop-at : goal.invariant-loop-at
invariant-loop-at l = record {
  count : l.count ≡ left_count l.before l.k (tags_between (all_steps l.model.document.history) l.first l.at);
  few : l.count ≤ l.at;
}
