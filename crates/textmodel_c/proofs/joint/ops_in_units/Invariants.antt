use Rattle.std.proofs.Common.{◌≡◌, drop}
use Rattle.textmodel_c.specs.JointOps.{ops_in_units}
use Rattle.textmodel_c.proofs.JoinedTexts.{found_before}
use Rattle.textmodel_c.proofs.joint.ops_in_units.Given as goal

abbrev pub invariant-loop-op : goal.invariant-loop-op
invariant-loop-op l = found_before l.counted.items (ops_in_units (drop l.op-index l.ops) l.rest) ≡ ops_in_units l.fn.ops l.fn.text
