use Rattle.std.proofs.Common.{◌≡◌, length, ap, sym, subst, ◌∙◌}
use Rattle.decoration_rules.specs.LineMoves.{line_moves}
use Rattle.model_page.specs.Changes.{text_from, text_to}
use Rattle.model_page.specs.InTurn.{edits_of_first, edits_along, parts_along}
use Rattle.model_page.specs.declared.change.Change.{Change}
use Rattle.model_page.proofs.LineEdits.{length-line_moves, all_endings}
use Rattle.model_page.proofs.in_turn.parts_of.Goals as goal
use Rattle.model_page.proofs.in_turn.parts_of.Goals.{After-moves}

module _ (c : After-moves) where
  all : length c.moves.result.now ≡ length (line_moves (text_from c.args.way c.in-Endings.recast).units (text_to c.args.way c.in-Endings.recast).units)
  all = ap length (c.moves.ensures ∙ c.side.ensures.moves)

pub returns-in-Endings-clause-count : goal.returns-in-Endings-clause-count
returns-in-Endings-clause-count c =
    let x = (text_from c.args.way c.in-Endings.recast).units in
    let y = (text_to c.args.way c.in-Endings.recast).units in
    all c ∙ length-line_moves x y c.side.ensures.contents ∙ ap (parts_along c.args.way) (sym c.in-Endings.is)

pub returns-in-Endings-clause-all : goal.returns-in-Endings-clause-all
returns-in-Endings-clause-all c =
    let x = (text_from c.args.way c.in-Endings.recast).units in
    let y = (text_to c.args.way c.in-Endings.recast).units in
    let left = length c.moves.result.now in
    subst (λ (change : Change). edits_of_first left c.args.way change ≡ edits_along c.args.way change) (sym c.in-Endings.is)
    (all_endings x y left c.side.ensures.contents (all c))
