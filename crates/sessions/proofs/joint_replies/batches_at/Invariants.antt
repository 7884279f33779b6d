use Rattle.std.proofs.Common.{◌≡◌, ◌++◌, map, length, Some}
use Rattle.std.specs.Vec.Iter.{into_iter_items, into_iter_len}
use Rattle.group_rules.specs.Joint.{flat_batch}
use Rattle.model_group.specs.State.{documents}
use Rattle.session_rules.specs.Step.{batches_at}
use Rattle.sessions.proofs.joint_replies.batches_at.Given as goal

abbrev pub invariant-loop-edit : goal.invariant-loop-edit
invariant-loop-edit l = record {
  all : l.yielded ++ into_iter_items l.edit-iterator ≡ l.fn.edits;
  len : into_iter_len l.edit-iterator ≡ length (into_iter_items l.edit-iterator);
  found : batches_at (documents l.fn.group) l.yielded ≡ Some (map flat_batch l.batches.items);
  same : l.group ≡ l.fn.group;
}
