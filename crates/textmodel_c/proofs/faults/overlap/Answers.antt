use Rattle.textmodel_c.proofs.OverlapPasses.{overlap_from_start}
use Rattle.textmodel_c.proofs.faults.overlap.Goals as goal

pub loop-op-init : goal.loop-op-init
loop-op-init c = overlap_from_start c.args.ops.now
