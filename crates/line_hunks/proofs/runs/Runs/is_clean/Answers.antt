use Rattle.std.proofs.Common.{ap, sym, not}
use Rattle.line_hunks.specs.Run.{is_new}
use Rattle.line_hunks.proofs.PlaceLaws.{new-gap, clean-lines}
use Rattle.line_hunks.proofs.runs.Runs.is_clean.Goals as goal

pub returns-in-New : goal.returns-in-New
returns-in-New c =
    ap not (sym (new-gap c.args.self.now.sides.front c.args.self.now.gap c.args.self.now.sides.back c.requires.whole (ap is_new c.in-New.is)))

pub returns-in-Kept : goal.returns-in-Kept
returns-in-Kept c =
    clean-lines c.args.self.now.sides.front c.args.self.now.gap c.args.self.now.sides.back c.lines.result c.requires.whole
    (ap is_new c.in-Kept.is) c.lines.ensures.lines
