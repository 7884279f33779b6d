use Rattle.std.proofs.Common.{ap, ◌∙◌}
use Rattle.line_hunks.specs.Hunks.{Shown}
use Rattle.line_hunks.proofs.RunMarks.{line_count-marks}
use Rattle.line_hunks.proofs.hunks.Hunks.lines.Goals as goal

pub returns-clause-lines : goal.returns-clause-lines
returns-clause-lines c =
    c.lines.ensures ∙ line_count-marks c.self.inside.runs c.args.self.now.marks (ap (λ (s : Shown). s.marks) c.self.view_is)
