use Rattle.std.proofs.Common.{drop, ◌-◌, ap, sym, ◌∙◌, subst, arith}
use Rattle.mark_rules.specs.Marks.{mark_at, kept_run}
use Rattle.line_hunks.specs.Hunks.{Shown}
use Rattle.line_hunks.specs.Run.{kept_lines}
use Rattle.line_hunks.specs.declared.run.Run.{Run}
use Rattle.line_hunks.specs.Runs.{all_marks}
use Rattle.line_hunks.specs.Numbers.{AreNumbers}
use Rattle.line_hunks.proofs.RunMarks.{line_count-marks}
use Rattle.line_hunks.proofs.PlaceLaws.{mark-here, kept-here}
use Rattle.line_hunks.proofs.Appending.{numbers-here}
use Rattle.line_hunks.proofs.hunks.Hunks.at.Goals as goal

pub place-place-requires-clause-within : goal.place-place-requires-clause-within
place-place-requires-clause-within c =
    omega (arith, line_count-marks c.self.inside.runs c.args.self.now.marks (ap (λ (s : Shown). s.marks) c.self.view_is), c.requires.within)

pub returns-clause-mark : goal.returns-clause-mark
returns-clause-mark c =
    ap (λ (r : Run). r.first) c.split.ensures.behind
    ∙ mark-here (all_marks c.self.inside.runs) c.args.n c.place-place.result c.place-place.ensures
    ∙ ap (λ (s : Shown). mark_at c.args.n s.marks) c.self.view_is

pub returns-clause-kept : goal.returns-clause-kept
returns-clause-kept c =
    c.kept.ensures
    ∙ ap kept_lines c.split.ensures.behind
    ∙ kept-here (all_marks c.self.inside.runs) c.args.n c.place-place.result c.place-place.ensures
    ∙ ap (λ (s : Shown). kept_run (drop (c.args.n - 1) s.marks)) c.self.view_is

pub returns-clause-range : goal.returns-clause-range
returns-clause-range c =
    let here = numbers-here (all_marks c.self.inside.runs) c.args.n c.place-place.result c.place-place.ensures c.self.invariant.1 in
    subst (λ kept. AreNumbers c.split.result.1.first kept) (sym c.kept.ensures)
    (subst (λ (r : Run). AreNumbers r.first (kept_lines r)) (sym c.split.ensures.behind) here)
