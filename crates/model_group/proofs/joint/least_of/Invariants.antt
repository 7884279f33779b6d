use Rattle.std.proofs.Common.{◌≡◌, map, take}
use Rattle.group_rules.specs.Joint.{flat_batch, least_of}
use Rattle.model_group.proofs.joint.least_of.Given as goal

abbrev pub invariant-loop-batch : goal.invariant-loop-batch
invariant-loop-batch l = l.least ≡ least_of (map flat_batch (take l.batch-index l.batches))
