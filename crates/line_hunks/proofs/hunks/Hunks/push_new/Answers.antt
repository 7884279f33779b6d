use Rattle.std.proofs.Common.{◌≡◌, ap, sym, ◌∙◌, subst, arith}
use Rattle.mark_rules.specs.Marks.{Rises}
use Rattle.line_hunks.specs.Hunks.{Shown}
use Rattle.line_hunks.specs.Runs.{all_marks}
use Rattle.line_hunks.proofs.RunMarks.{line_count-marks}
use Rattle.line_hunks.proofs.Appending.{marks-same, Rises-behind}
use Rattle.line_hunks.proofs.hunks.Hunks.push_new.Goals as goal

pub push_new-requires-clause-fits : goal.push_new-requires-clause-fits
push_new-requires-clause-fits c =
    let reserved = c.reserve.new.self in
    let same : all_marks reserved ≡ c.args.self.now.marks =
    marks-same c.self.inside.runs reserved c.reserve.ensures.front c.reserve.ensures.gap c.reserve.ensures.back
    ∙ ap (λ (s : Shown). s.marks) c.self.view_is in
    omega (arith, line_count-marks reserved c.args.self.now.marks same, c.requires.fits)

pub invariant_of-self-2 : goal.invariant_of-self-2
invariant_of-self-2 c =
    let reserved = c.reserve.new.self in
    let same : all_marks reserved ≡ all_marks c.self.inside.runs =
    marks-same c.self.inside.runs reserved c.reserve.ensures.front c.reserve.ensures.gap c.reserve.ensures.back in
    let rises : Rises (all_marks reserved) = subst Rises (sym same) c.self.invariant.1 in
    (c.push_new.ensures.whole, subst Rises (sym c.push_new.ensures.marks) (Rises-behind c.args.lines (all_marks reserved) rises))
