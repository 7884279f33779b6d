use Rattle.line_hunks.proofs.Turning.{marks-moved, lines-moved, Stands-moved}
use Rattle.line_hunks.proofs.runs.Runs.seek.Goals as goal

pub returns-clause-whole : goal.returns-clause-whole
returns-clause-whole c =
    Stands-moved c.args.self.now.sides.front c.args.self.now.gap c.args.self.now.sides.back c.seek-self.new.self.front c.seek-self.result c.seek-self.new.self.back c.seek-self.ensures.order c.requires.whole

pub returns-clause-marks : goal.returns-clause-marks
returns-clause-marks c =
    marks-moved c.args.self.now.sides.front c.args.self.now.gap c.args.self.now.sides.back c.seek-self.new.self.front c.seek-self.result c.seek-self.new.self.back c.seek-self.ensures.order

pub returns-clause-lines : goal.returns-clause-lines
returns-clause-lines c =
    lines-moved c.args.self.now.sides.front c.args.self.now.gap c.args.self.now.sides.back c.seek-self.new.self.front c.seek-self.result c.seek-self.new.self.back c.seek-self.ensures.order
