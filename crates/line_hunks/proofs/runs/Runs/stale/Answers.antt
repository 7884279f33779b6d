use Rattle.std.proofs.Common.{◌≡◌, length, true, refl, ◌∙◌, arith}
use Rattle.mark_rules.specs.Marks.{has_new}
use Rattle.line_hunks.specs.Runs.{all_marks}
use Rattle.line_hunks.proofs.RunMarks.{line_count-marks}
use Rattle.line_hunks.proofs.PlaceLaws.{not-kept, first-new, last-new, SpansNew-between}
use Rattle.line_hunks.proofs.runs.Runs.stale.Goals as goal

pub overflow_sub-result : goal.overflow_sub-result
overflow_sub-result c =
    let marks = all_marks c.args.self.now in
    let lines : c.lines-lines.result ≡ length marks = c.lines-lines.ensures ∙ line_count-marks c.args.self.now marks refl in
    let stale : has_new marks ≡ true = not-kept c.is_clean.result (has_new marks) c.is_clean.ensures c.if-is_clean.false in
    let last = last-new marks c.lines-lines.result c.place-2.result c.place-2.ensures lines stale in
    omega (arith, last.within, lines, c.kept-behind.ensures)

pub returns-clause-some : goal.returns-clause-some
returns-clause-some c =
    let marks = all_marks c.args.self.now in
    let lines : c.lines-lines.result ≡ length marks = c.lines-lines.ensures ∙ line_count-marks c.args.self.now marks refl in
    let stale : has_new marks ≡ true = not-kept c.is_clean.result (has_new marks) c.is_clean.ensures c.if-is_clean.false in
    rw (c.kept-before.ensures, c.kept-behind.ensures, lines)
    (SpansNew-between marks _ _
    (first-new marks c.place.result c.place.ensures stale)
    (last-new marks c.lines-lines.result c.place-2.result c.place-2.ensures lines stale))
