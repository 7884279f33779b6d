use Rattle.std.proofs.Common.{◌+◌, ◌-◌, drop, sym, ap, ◌∙◌, arith}
use Rattle.mark_rules.specs.declared.Mark.TheVariants.{Kept}
use Rattle.mark_rules.specs.Marks.{mark_at, kept_run}
use Rattle.node_reuse.proofs.Remembered.{later_mark, later_run}
use Rattle.node_reuse.proofs.marks.LineMarks.remembered.Goals as goal

pub returns-clause-mark : goal.returns-clause-mark
returns-clause-mark c =
    let here = c.self.inside in
    ap Kept (omega (arith, c.in_ok-checked_add.ensures))
    ∙ later_mark here.hunks.now.marks here.line c.args.line c.in-Kept.number c.in_ok-past.past (sym c.self.invariant.is ∙ c.in-Kept.is)
    (omega (arith, c.in_ok-past.ensures)) (omega (arith, c.if-self-past.false, c.self.invariant.run))
    ∙ ap (mark_at (c.args.line + 1)) c.self.view_is

pub returns-clause-kept : goal.returns-clause-kept
returns-clause-kept c =
    let here = c.self.inside in
    ap (λ kept. kept - c.in_ok-past.past) c.self.invariant.run
    ∙ later_run here.hunks.now.marks here.line c.args.line c.in-Kept.number c.in_ok-past.past (sym c.self.invariant.is ∙ c.in-Kept.is)
    (omega (arith, c.in_ok-past.ensures)) (omega (arith, c.if-self-past.false, c.self.invariant.run))
    ∙ ap (λ marks. kept_run (drop c.args.line marks)) c.self.view_is
