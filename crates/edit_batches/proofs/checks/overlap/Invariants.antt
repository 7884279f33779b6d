use Rattle.std.proofs.Common.{◌≡◌, drop}
use Rattle.batch_rules.specs.Batches.{overlap}
use Rattle.edit_batches.proofs.Passes.{overlap_after}
use Rattle.edit_batches.proofs.checks.overlap.Given as goal

abbrev pub invariant-loop-op : goal.invariant-loop-op
invariant-loop-op l = overlap_after l.end (drop l.op-index l.ops) ≡ overlap l.ops
