use Rattle.std.proofs.Common.{◌≡◌, ◌++◌, length, Some}
use Rattle.std.specs.Vec.Iter.{into_iter_items, into_iter_len}
use Rattle.group_rules.specs.Group.{doc_in}
use Rattle.model_group.specs.State.{documents}
use Rattle.session_rules.specs.Step.{ops_at}
use Rattle.sessions.proofs.ops.ops_at.Given as goal

abbrev pub invariant-loop-op : goal.invariant-loop-op
invariant-loop-op l = record {
  all : l.yielded ++ into_iter_items l.op-iterator ≡ l.fn.ops;
  len : into_iter_len l.op-iterator ≡ length (into_iter_items l.op-iterator);
  found : ops_at (doc_in (documents l.fn.group) l.fn.doc) l.yielded ≡ Some l.found.items;
  same : l.group ≡ l.fn.group;
}
