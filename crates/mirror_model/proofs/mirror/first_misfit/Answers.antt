use Rattle.std.proofs.Common.{◌≡◌, ℕ, ◌+◌, Some, ap, subst, ◌∙◌, arith}
use Rattle.mirror_model.proofs.Misfits.{FitSoFar, none_yet, one_more, does_not_fit, all_fit}
use Rattle.mirror_model.proofs.mirror.first_misfit.Goals as goal

pub loop-batch-init : goal.loop-batch-init
loop-batch-init c = record {
  number = omega arith;
  fit = λ x is. subst (FitSoFar x c.args.batches.now 0) is (none_yet x c.args.batches.now);
}

pub loop-batch-preserved : goal.loop-batch-preserved
loop-batch-preserved c = record {
  number = omega arith;
  fit = λ x is.
      let so_far = c.loop-batch.invariant.fit x is in
      one_more x c.args.batches.now c.loop-batch.batch-index c.loop-batch.len so_far c.batch-item.result c.loop-batch-test.true c.batch-item.is c.in-Some.after
      (rw (← c.batch.ensures) (c.in-Some.ensures so_far.now so_far.length));
}

pub returns-in-None : goal.returns-in-None
returns-in-None c x is =
    let so_far = c.loop-batch.invariant.fit x is in
    let number : c.loop-batch.number + 1 ≡ c.loop-batch.batch-index + 1 = omega arith in
    ap (λ (n : ℕ). Some n) number
    ∙ does_not_fit x c.args.batches.now c.loop-batch.batch-index c.loop-batch.len so_far c.batch-item.result c.loop-batch-test.true c.batch-item.is (rw (← c.batch.ensures) (c.in-None.ensures so_far.now so_far.length))

pub returns : goal.returns
returns c x is = all_fit x c.args.batches.now c.loop-batch.batch-index c.loop-batch.len (c.loop-batch.invariant.fit x is) (omega arith)
