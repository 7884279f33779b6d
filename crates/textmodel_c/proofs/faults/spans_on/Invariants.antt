use Rattle.std.proofs.Common.{◌≡◌, take}
use Rattle.textmodel_c.specs.Faults.{spans_on}
use Rattle.textmodel_c.proofs.faults.spans_on.Given as goal

abbrev pub invariant-loop-op : goal.invariant-loop-op
invariant-loop-op l = l.spans.items ≡ spans_on l.doc (take l.op-index l.ops)
