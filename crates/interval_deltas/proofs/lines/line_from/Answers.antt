use Rattle.std.proofs.Common.{◌-◌, arith}
use Rattle.interval_deltas.proofs.LineSearch.{last_started}
use Rattle.interval_deltas.proofs.lines.line_from.Goals as goal

pub returns-then-place-moves : goal.returns-then-place-moves
returns-then-place-moves c =
    let next = c.loop-next.next in let low = c.loop-next.auto.next in
    last_started c.args.moves.now c.args.place c.requires.lines (next - 1) next (record { old = 0; content = 0; new = 0 }) (omega (arith, low)) c.loop-next-test.true c.loop-next.invariant c.if-place-moves.true
