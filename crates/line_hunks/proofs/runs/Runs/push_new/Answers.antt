use Rattle.std.proofs.Common.{◌++◌, ap, ◌∙◌}
use Rattle.std.specs.Prelude.{replicate}
use Rattle.mark_rules.specs.declared.Mark.TheVariants.{New}
use Rattle.line_hunks.proofs.Appending.{longer-marks}
use Rattle.line_hunks.proofs.runs.Runs.push_new.Goals as goal

pub returns-in-New-clause-marks : goal.returns-in-New-clause-marks
returns-in-New-clause-marks c =
    let r = c.seek_end.new.self in
    longer-marks r.sides.front r.gap r.sides.back c.args.lines c.seek_end.ensures.last c.in-New.is
    ∙ ap (λ marks. marks ++ replicate c.args.lines New) c.seek_end.ensures.marks
