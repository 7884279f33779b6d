use Rattle.std.proofs.Common.{◌≡◌, map, drop}
use Rattle.group_rules.specs.Joint.{flat_batch}
use Rattle.textmodel_c.specs.JointOps.{batches_of, batches_from}
use Rattle.textmodel_c.proofs.joint.batches_of.Given as goal

abbrev pub invariant-loop-op : goal.invariant-loop-op
invariant-loop-op l = batches_from (map flat_batch l.batches.items) (drop l.op-index l.ops) l.rest ≡ batches_of l.fn.ops l.fn.text
