use Rattle.edit_batches.proofs.Passes.{overlap_from_start}
use Rattle.edit_batches.proofs.checks.overlap.Goals as goal

pub loop-op-init : goal.loop-op-init
loop-op-init c = overlap_from_start c.args.ops.now
