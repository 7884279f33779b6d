use Rattle.std.proofs.Common.{◌≡◌, drop}
use Rattle.batch_rules.specs.Batches.{overlap}
use Rattle.textmodel_c.proofs.OverlapPasses.{overlap_after}
use Rattle.textmodel_c.proofs.faults.overlap.Given as goal

abbrev pub invariant-loop-op : goal.invariant-loop-op
invariant-loop-op l = overlap_after l.end (drop l.op-index l.ops) ≡ overlap l.ops
