use Rattle.std.proofs.Common.{arith, drop}
use Rattle.std.proofs.lemmas.List.{length-drop}
use Rattle.text_rules.proofs.Breaks.{break_ends_few}
use Rattle.line_starts.proofs.breaks_between.Goals as goal

pub overflow_add-breaks : goal.overflow_add-breaks
overflow_add-breaks c =
    let x = c.args.units.now in
    let from = c.args.from in
    omega (arith, c.loop-at.invariant.counted, c.from-breaks.ensures, c.breaks_in_block.ensures, break_ends_few 0 (drop from x), length-drop from x)

pub overflow_add-result : goal.overflow_add-result
overflow_add-result c =
    let x = c.args.units.now in
    let from = c.args.from in
    omega (arith, c.loop-at.invariant.counted, c.breaks_in_rest.ensures, break_ends_few 0 (drop from x), length-drop from x)
