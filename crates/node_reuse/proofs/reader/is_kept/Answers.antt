use Rattle.std.proofs.Common.{◌≡◌, ℕ, zero, suc, ◌+◌, ◌<◌, false, eqb, drop, ap, arith}
use Rattle.std.proofs.lemmas.Bool.{eqb-true, eqb-false}
use Rattle.mark_rules.specs.Marks.{new_run}
use Rattle.node_reuse.specs.Paying.{runs_ahead}
use Rattle.node_reuse.proofs.NewRuns.{run_within, starts_kept, runs_forward, run_asked}
use Rattle.node_reuse.proofs.reader.is_kept.Goals as goal

some_lines : (line lines : ℕ) → eqb line (line + lines) ≡ false → 0 < lines
some_lines line zero e = absurd (eqb-false line (line + zero) e (omega arith))
some_lines line (suc lines) e = omega arith

pub overflow_add-new_to : goal.overflow_add-new_to
overflow_add-new_to g c =
    omega (arith, c.new_from.ensures.run, c.requires.fits, run_within (g.O.Old.text c.args.old.now).marks c.args.line c.requires.there)

pub returns-clause-kept : goal.returns-clause-kept
returns-clause-kept g c = λ e.
    starts_kept (g.O.Old.text c.args.old.now).marks c.args.line c.requires.there
    (omega (arith, c.new_from.ensures.run, eqb-true c.args.line (c.args.line + c.new_from.result) e))

pub returns-clause-runs : goal.returns-clause-runs
returns-clause-runs g c =
    runs_forward (g.O.Old.text c.args.old.now).marks c.args.line c.args.line c.args.new_to.now (c.args.line + c.new_from.result) (omega arith)
    (omega (arith, c.if-line-new_to.false))

pub returns-clause-pays : goal.returns-clause-pays
returns-clause-pays g c = λ e.
    let marks = (g.O.Old.text c.args.old.now).marks in
    let line = c.args.line in
    let run = c.new_from.ensures.run in
    let some = some_lines line c.new_from.result e in
    let same : runs_ahead marks line (line + c.new_from.result) ≡ runs_ahead marks line (line + new_run (drop line marks)) =
    ap (λ (n : ℕ). runs_ahead marks line (line + n)) run in
    omega (arith, c.new_from.ensures.step, same, run_asked marks line c.args.new_to.now (omega (arith, c.if-line-new_to.false)) (omega (arith, run, some)))
