use Rattle.std.proofs.Common.{arith}
use Rattle.line_hunks.proofs.Appending.{last-none}
use Rattle.line_hunks.proofs.runs.Runs.seek_end.Goals as goal

pub returns-clause-last : goal.returns-clause-last
returns-clause-last c =
    let r = c.seek.new.self in
    let whole = c.seek.ensures.whole in
    last-none r.gap.first r.sides.back whole.behind
    (omega (arith, c.lines-last.ensures, c.seek.ensures.lines, c.seek.ensures.reach, c.seek.ensures.whole.some))
