use Rattle.std.proofs.Common.{◌≡◌, take}
use Rattle.text_batches.specs.Needs.{text_breaks}
use Rattle.text_batches.proofs.needs.text_breaks.Given as goal

abbrev pub invariant-loop-op : goal.invariant-loop-op
invariant-loop-op l = l.breaks ≡ text_breaks (take l.op-index l.ops)
