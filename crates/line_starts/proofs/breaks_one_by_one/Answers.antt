use Rattle.std.proofs.Common.{◌+◌, ◌<◌, length, drop, ap, sym, ◌∙◌, arith}
use Rattle.line_starts.proofs.Blocks.{same_count}
use Rattle.line_starts.proofs.Starts.{break_ends_at_end, break_ends_at_other}
use Rattle.line_starts.proofs.breaks_one_by_one.Goals as goal
use Rattle.line_starts.proofs.breaks_one_by_one.Goals.{then-is_break_end, else-is_break_end}

pub loop-at-preserved : goal.loop-at-preserved
loop-at-preserved c =
    let x = c.args.units.now in
    let at = c.loop-at.at in
    let inside : at < length x = omega arith in
    let same = same_count 1 0 (drop (at + 1) x) in
    elim c.if-is_break_end.branch [
      | then-is_break_end w ↦
          let one = ap length (break_ends_at_end 0 at x inside (sym c.is_break_end.ensures ∙ w.if-is_break_end.true)) in
          record { counted = rw w.breaks-is (omega (arith, one, same, c.loop-at.invariant.counted)); few = rw w.breaks-is (omega arith) }
      | else-is_break_end w ↦
          let none = ap length (break_ends_at_other 0 at x inside (sym c.is_break_end.ensures ∙ w.if-is_break_end.false)) in
          record { counted = rw w.breaks-is (omega (arith, none, same, c.loop-at.invariant.counted)); few = rw w.breaks-is (omega arith) }
    ]
