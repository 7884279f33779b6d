use Rattle.std.proofs.Common.{drop, ◌-◌, ap, ◌∙◌, arith}
use Rattle.mark_rules.specs.Marks.{new_run}
use Rattle.line_hunks.specs.Hunks.{Shown}
use Rattle.line_hunks.specs.Run.{new_of}
use Rattle.line_hunks.specs.declared.run.Run.{Run}
use Rattle.line_hunks.specs.Runs.{all_marks}
use Rattle.line_hunks.proofs.RunMarks.{line_count-marks}
use Rattle.line_hunks.proofs.PlaceLaws.{new-here}
use Rattle.line_hunks.proofs.hunks.Hunks.new_from.Goals as goal

pub place-place-requires-clause-within : goal.place-place-requires-clause-within
place-place-requires-clause-within c =
    omega (arith, line_count-marks c.self.inside.runs c.args.self.now.marks (ap (λ (s : Shown). s.marks) c.self.view_is), c.requires.within)

pub returns : goal.returns
returns c =
    c.fresh.ensures
    ∙ ap (λ (r : Run). new_of r.first r.lines) c.split.ensures.behind
    ∙ new-here (all_marks c.self.inside.runs) c.args.n c.place-place.result c.place-place.ensures
    ∙ ap (λ (s : Shown). new_run (drop (c.args.n - 1) s.marks)) c.self.view_is
