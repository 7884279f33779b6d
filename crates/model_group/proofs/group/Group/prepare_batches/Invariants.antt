use Rattle.std.proofs.Common.{◌≡◌, ◌++◌, map, length, MatchOption}
use Rattle.std.specs.Prelude.{⊤}
use Rattle.std.specs.Vec.Iter.{into_iter_items, into_iter_len}
use Rattle.group_rules.specs.Joint.{flat_batch}
use Rattle.model_group.specs.State.{KeepAll, documents}
use Rattle.model_group.specs.Prepared.{AreBatchesReady, IsFirstOf}
use Rattle.model_group.proofs.group.Group.prepare_batches.Given as goal

abbrev pub invariant-loop-batch : goal.invariant-loop-batch
invariant-loop-batch l = record {
  all : l.yielded ++ into_iter_items l.batch-iterator ≡ l.fn.batches.items;
  len : into_iter_len l.batch-iterator ≡ length (into_iter_items l.batch-iterator);
  kept : KeepAll l.fn.self l.self;
  ready : MatchOption l.refusal (AreBatchesReady l.self (map flat_batch l.yielded) l.ready.items) (λ e. ⊤);
  first : IsFirstOf (documents l.fn.self) (map flat_batch l.yielded) l.refusal;
}
