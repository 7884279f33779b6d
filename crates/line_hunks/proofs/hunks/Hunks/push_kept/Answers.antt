use Rattle.std.proofs.Common.{◌≡◌, length, ap, ◌∙◌, arith}
use Rattle.mark_rules.specs.Marks.{mark_at}
use Rattle.line_hunks.specs.Hunks.{Shown}
use Rattle.line_hunks.specs.Runs.{all_marks}
use Rattle.line_hunks.proofs.RunMarks.{line_count-marks}
use Rattle.line_hunks.proofs.Appending.{marks-same}
use Rattle.line_hunks.proofs.hunks.Hunks.push_kept.Goals as goal

pub push_kept-requires-clause-fits : goal.push_kept-requires-clause-fits
push_kept-requires-clause-fits c =
    let reserved = c.reserve.new.self in
    let same : all_marks reserved ≡ c.args.self.now.marks =
    marks-same c.self.inside.runs reserved c.reserve.ensures.front c.reserve.ensures.gap c.reserve.ensures.back
    ∙ ap (λ (s : Shown). s.marks) c.self.view_is in
    omega (arith, line_count-marks reserved c.args.self.now.marks same, c.requires.fits)

pub push_kept-requires-clause-new : goal.push_kept-requires-clause-new
push_kept-requires-clause-new c =
    let reserved = c.reserve.new.self in
    let same : all_marks reserved ≡ c.args.self.now.marks =
    marks-same c.self.inside.runs reserved c.reserve.ensures.front c.reserve.ensures.gap c.reserve.ensures.back
    ∙ ap (λ (s : Shown). s.marks) c.self.view_is in
    ap (λ n. mark_at n (all_marks reserved)) (line_count-marks reserved c.args.self.now.marks same)
    ∙ ap (mark_at (length c.args.self.now.marks)) same
    ∙ c.requires.new
