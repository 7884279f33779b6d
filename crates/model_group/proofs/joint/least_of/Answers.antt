use Rattle.std.proofs.Common.{min, map, take, ap, sym, ◌∙◌}
use Rattle.group_rules.specs.Joint.{flat_batch, least_of}
use Rattle.model_group.proofs.Naming.{taken, least_of-push}
use Rattle.model_group.proofs.joint.least_of.Goals as goal

pub loop-batch-preserved : goal.loop-batch-preserved
loop-batch-preserved c =
    let xs = c.args.batches.now in
    let i = c.loop-batch.batch-index in
    let b = c.batch-item.result in
    c.min-least.ensures ∙ ap (λ n. min n b.doc) c.loop-batch.invariant ∙ sym (least_of-push (map flat_batch (take i xs)) (flat_batch b))
    ∙ sym (ap least_of (taken xs i b c.loop-batch-test.true c.batch-item.is))
