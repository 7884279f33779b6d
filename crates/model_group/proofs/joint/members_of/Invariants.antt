use Rattle.std.proofs.Common.{map, take}
use Rattle.group_rules.specs.Joint.{flat_batch}
use Rattle.model_group.proofs.Naming.{HaveSet}
use Rattle.model_group.proofs.joint.members_of.Given as goal

abbrev pub invariant-loop-batch : goal.invariant-loop-batch
invariant-loop-batch l = HaveSet (map flat_batch (take l.batch-index l.batches)) l.members
