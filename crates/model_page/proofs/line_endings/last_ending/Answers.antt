use Rattle.std.proofs.Common.{length, ap, ◌∙◌, arith}
use Rattle.model_page.specs.Changes.{text_from, text_to}
use Rattle.model_page.proofs.LineEdits.{length-line_moves}
use Rattle.model_page.proofs.line_endings.last_ending.Goals as goal

pub ending_at-requires-clause-inside : goal.ending_at-requires-clause-inside
ending_at-requires-clause-inside c =
    let x = (text_from c.args.way c.args.recast.now).units in
    let y = (text_to c.args.way c.args.recast.now).units in
    let moves = ap length (c.moves.ensures ∙ c.side-to.ensures.moves) in
    omega (arith, moves, length-line_moves x y c.side-to.ensures.contents)
