use Rattle.std.proofs.Common.{◌++◌, drop, ap, sym, ◌∙◌}
use Rattle.line_hunks.specs.declared.run.Run.{Run}
use Rattle.line_hunks.specs.Run.{run_marks, is_new, new_lines}
use Rattle.line_hunks.specs.Runs.{marks_up, marks_down}
use Rattle.line_hunks.proofs.RunMarks.{is_new-later, StandsBy-alike, replaced-marks}
use Rattle.line_hunks.proofs.runs.Runs.replace.Goals as goal

pub take_lines-tail-requires-clause-apart : goal.take_lines-tail-requires-clause-apart
take_lines-tail-requires-clause-apart c =
    StandsBy-alike c.args.self.now.gap.first c.split.result.1.first c.args.self.now.sides.back
    (sym (ap (λ (r : Run). is_new r.first) c.split.ensures.behind ∙ is_new-later c.args.self.now.gap.first c.args.before)) c.requires.whole.behind

pub returns-clause-marks : goal.returns-clause-marks
returns-clause-marks c =
    replaced-marks c.args.self.now.sides.front c.args.self.now.gap c.args.self.now.sides.back c.args.before c.args.old c.args.new
    (run_marks c.split.result.0) (run_marks c.take_lines-tail.result ++ marks_down c.take_lines-tail.new.sides.back)
    c.set_front.result c.set_back.result c.set_back.new.sides.front c.set_back.new.sides.back
    c.requires.within
    (ap run_marks c.split.ensures.before)
    (c.take_lines-tail.ensures.marks ∙ ap (λ (r : Run). drop c.args.old (run_marks r ++ marks_down c.args.self.now.sides.back)) c.split.ensures.behind)
    (ap (λ front. marks_up front ++ run_marks (new_lines c.set_front.result)) c.set_back.ensures.front
    ∙ c.set_front.ensures.marks
    ∙ ap (λ front. marks_up front ++ run_marks c.split.result.0) c.take_lines-tail.ensures.front)
    (c.set_back.ensures.marks ∙ ap (λ back. run_marks c.take_lines-tail.result ++ marks_down back) c.set_front.ensures.back)
