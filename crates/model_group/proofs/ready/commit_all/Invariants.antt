use Rattle.std.proofs.Common.{◌≡◌, ◌++◌, length}
use Rattle.std.specs.Vec.Iter.{into_iter_items, into_iter_len}
use Rattle.model_group.specs.Prepared.{CommitAll, acts_in}
use Rattle.model_group.proofs.ready.commit_all.Given as goal

abbrev pub invariant-loop-one : goal.invariant-loop-one
invariant-loop-one l = record {
  all : l.yielded ++ into_iter_items l.one-iterator ≡ l.fn.ready.items;
  len : into_iter_len l.one-iterator ≡ length (into_iter_items l.one-iterator);
  done : CommitAll (acts_in l.manner) l.yielded l.fn.models l.models;
}
