use Rattle.std.proofs.Common.{◌≡◌}
use Rattle.model_page.specs.Changes.{text_from, text_to}
use Rattle.model_page.specs.InTurn.{endings_of_first}
use Rattle.model_page.proofs.line_endings.last_ending.Given as goal

-- the endings of the lines behind are the same in both texts
abbrev pub invariant-loop-at : goal.invariant-loop-at
invariant-loop-at l =
    let x = (text_from l.fn.way l.recast).units in
    let y = (text_to l.fn.way l.recast).units in
    endings_of_first l.fn.left x y ≡ endings_of_first l.at x y
