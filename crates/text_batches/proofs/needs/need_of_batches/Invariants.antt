use Rattle.std.proofs.Common.{◌≡◌, take}
use Rattle.text_batches.specs.Needs.{need_of_batches}
use Rattle.text_batches.proofs.needs.need_of_batches.Given as goal

abbrev pub invariant-loop-batch : goal.invariant-loop-batch
invariant-loop-batch l = l.all ≡ need_of_batches (take l.batch-index l.batches)
