use Rattle.std.proofs.Common.{arith}
use Rattle.decoration_rules.specs.declared.LineMove.{LineMove}
use Rattle.decoration_rules.proofs.LineLemmas.{carried_place-at, lines-within}
use Rattle.interval_deltas.proofs.lines.carried.Goals as goal

abbrev unread : LineMove
unread = record { old = 0; content = 0; new = 0 }

pub overflow_add-result : goal.overflow_add-result
overflow_add-result c =
    let within = lines-within c.args.moves.now c.requires.lines c.args.at unread c.requires.line.0.0 in let fits = c.requires.lines.fits in
    omega (arith, within, fits, c.min.ensures)

pub returns : goal.returns
returns c =
    let is = carried_place-at c.args.moves.now c.args.place c.args.at unread c.requires.lines c.requires.line.0.0 (c.requires.line.0.1 unread) c.requires.line.1 in
    omega (arith, is, c.min.ensures)
