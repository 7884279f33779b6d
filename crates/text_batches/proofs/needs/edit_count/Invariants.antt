use Rattle.std.proofs.Common.{◌≡◌, take}
use Rattle.text_batches.specs.Needs.{edit_count}
use Rattle.text_batches.proofs.needs.edit_count.Given as goal

abbrev pub invariant-loop-op : goal.invariant-loop-op
invariant-loop-op l = l.edits ≡ edit_count (take l.op-index l.ops)
