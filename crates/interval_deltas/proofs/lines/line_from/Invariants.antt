use Rattle.std.proofs.Common.{◌-◌}
use Rattle.interval_deltas.specs.Lines.{HasStarted}
use Rattle.interval_deltas.proofs.lines.line_from.Given as goal

-- the line before `next` starts at the place or earlier
abbrev pub invariant-loop-next : goal.invariant-loop-next
invariant-loop-next l = HasStarted l.moves l.place (l.next - 1)
