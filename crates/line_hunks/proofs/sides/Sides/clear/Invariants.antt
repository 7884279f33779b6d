use Rattle.std.proofs.Common.{◌≡◌, ◌≤◌, [], length}
use Rattle.line_hunks.proofs.sides.Sides.clear.Given as goal

abbrev pub invariant-loop : goal.invariant-loop
invariant-loop l = l.fn.self.room ≤ l.self.room

abbrev pub decreases-loop : goal.decreases-loop
decreases-loop l = length l.self.front

abbrev pub invariant-loop-2 : goal.invariant-loop-2
invariant-loop-2 l = (l.fn.self.room ≤ l.self.room) × (l.self.front ≡ [])

abbrev pub decreases-loop-2 : goal.decreases-loop-2
decreases-loop-2 l = length l.self.back
