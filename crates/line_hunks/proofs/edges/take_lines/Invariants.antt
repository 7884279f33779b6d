use Rattle.std.proofs.Common.{◌≡◌, ◌≤◌, length}
use Rattle.line_hunks.proofs.RunMarks.{IsCut}
use Rattle.line_hunks.proofs.edges.take_lines.Given as goal

abbrev pub invariant-loop-rest : goal.invariant-loop-rest
invariant-loop-rest l =
    IsCut l.fn.run l.fn.sides.back l.fn.lines l.rest l.sides.back l.more × (l.fn.sides.room ≤ l.sides.room) × (l.sides.front ≡ l.fn.sides.front)

abbrev pub decreases-loop-rest : goal.decreases-loop-rest
decreases-loop-rest l = length l.sides.back
