use Rattle.std.proofs.Common.{ℕ, ◌+◌, ◌*◌, false, ap, ◌∙◌, arith}
use Rattle.std.specs.Int.{from_bool}
use Rattle.model_find.proofs.Ahead.{one_before, marks_fit}
use Rattle.model_find.proofs.starts.marks_one_by_one.Goals as goal

pub overflow_mul-marks : goal.overflow_mul-marks
overflow_mul-marks c =
    let inv = c.loop-from.invariant in
    omega (arith, marks_fit c.args.run.now c.args.sought.now _ inv.knows (omega (arith, inv.within, c.loop-from-test.true, c.requires.few)) false)

pub overflow_add-marks : goal.overflow_add-marks
overflow_add-marks c =
    let inv = c.loop-from.invariant in
    omega (arith, c.from.ensures, marks_fit c.args.run.now c.args.sought.now _ inv.knows (omega (arith, inv.within, c.loop-from-test.true, c.requires.few)) c.may_begin.result)

pub loop-from-preserved : goal.loop-from-preserved
loop-from-preserved c =
    let inv = c.loop-from.invariant in
    record {
      behind = omega (arith, c.loop-from-test.true);
      within = omega (arith, inv.within);
      knows = one_before c.args.run.now c.args.sought.now _ _ inv.knows (omega (arith, c.loop-from-test.true)) (omega (arith, inv.within, c.loop-from-test.true))
          (omega (arith, c.loop-from-test.true, c.requires.few))
          (ap (λ (m : ℕ). 2 * c.loop-from.marks + m) (c.from.ensures ∙ ap from_bool c.may_begin.ensures));
    }
