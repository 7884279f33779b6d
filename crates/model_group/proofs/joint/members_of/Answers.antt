use Rattle.std.proofs.Common.{◌≡◌, true, map, sym, subst, ap, rules, ◌∙◌}
use Rattle.group_rules.specs.Joint.{flat_batch, docs_of, names_badly}
use Rattle.model_group.proofs.Naming.{HaveSet, taken, batch_among, have_more, have_none_more}
use Rattle.model_group.proofs.joint.members_of.Goals as goal

pub returns-in_err-members : goal.returns-in_err-members
returns-in_err-members c =
    let xs = c.args.batches.now in
    let b = c.batch-item.result in
    let badly : names_badly (docs_of (map flat_batch xs)) ≡ true =
    ap (λ batches. names_badly (docs_of batches)) (batch_among xs c.loop-batch.batch-index b c.loop-batch-test.true c.batch-item.is)
    ∙ have_none_more _ _ (flat_batch b) c.loop-batch.invariant _ (sym c.more.ensures ∙ c.in_err-members.was) in
    rw badly (search rules)

pub loop-batch-preserved : goal.loop-batch-preserved
loop-batch-preserved c =
    let b = c.batch-item.result in
    subst (λ batches. HaveSet batches c.in_ok-members.members)
    (sym (taken c.args.batches.now c.loop-batch.batch-index b c.loop-batch-test.true c.batch-item.is))
    (have_more _ _ (flat_batch b) c.loop-batch.invariant _ (sym c.more.ensures ∙ c.in_ok-members.was))
