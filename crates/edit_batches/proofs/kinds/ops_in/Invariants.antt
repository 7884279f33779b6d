use Rattle.std.proofs.Common.{◌≡◌, ◌++◌, map, take, drop}
use Rattle.batch_rules.specs.Batches.{op_in}
use Rattle.edit_batches.proofs.kinds.ops_in.Given as goal

abbrev pub invariant-loop-at : goal.invariant-loop-at
invariant-loop-at l = l.ops.items ≡ map (op_in l.fn.kind) (take l.at l.fn.ops.items) ++ drop l.at l.fn.ops.items
