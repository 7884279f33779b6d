use Rattle.std.proofs.Common.{ap, sym, subst, arith}
use Rattle.mark_rules.specs.Marks.{Rises}
use Rattle.mark_rules.proofs.MarkLaws.{Rises-edited}
use Rattle.line_hunks.specs.Hunks.{Shown}
use Rattle.line_hunks.specs.Runs.{all_marks}
use Rattle.line_hunks.proofs.RunMarks.{line_count-marks}
use Rattle.line_hunks.proofs.hunks.Hunks.edit.Goals as goal

pub edit-requires-clause-within : goal.edit-requires-clause-within
edit-requires-clause-within c =
    omega (arith, line_count-marks c.self.inside.runs c.args.self.now.marks (ap (λ (s : Shown). s.marks) c.self.view_is), c.requires.within)

pub edit-requires-clause-fits : goal.edit-requires-clause-fits
edit-requires-clause-fits c =
    omega (arith, line_count-marks c.self.inside.runs c.args.self.now.marks (ap (λ (s : Shown). s.marks) c.self.view_is), c.requires.fits)

pub invariant_of-self : goal.invariant_of-self
invariant_of-self c = (
  c.edit.ensures.whole,
  subst Rises (sym c.edit.ensures.marks)
      (Rises-edited c.args.first c.args.old c.args.new (all_marks c.self.inside.runs) (omega (arith, c.requires.new)) c.self.invariant.1),
)
