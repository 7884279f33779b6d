use Rattle.std.proofs.Common.{◌≡◌, ◌+◌, Bool, true, false, [], ◌∷◌, ◌++◌, if◌then◌else◌, ap, sym, ◌∙◌}
use Rattle.bracket_rules.specs.Table.{same_units}
use Rattle.model_page.specs.InTurn.{endings_of_first}
use Rattle.model_page.proofs.LineEdits.{units_of, ending_told}
use Rattle.model_page.proofs.line_endings.ending_at.Goals as goal
use Rattle.model_page.proofs.line_endings.ending_at.Goals.{After-eq}

module _ (c : After-eq) (same : Bool) (is : c.eq.result ≡ same) where
  edits : endings_of_first (c.args.at + 1) c.args.from.now c.args.to.now
      ≡ (if same then [] else record { span = c.endings_of.result.0; text = units_of c.args.to.now c.endings_of.result.1; force = false } ∷ [])
      ++ endings_of_first c.args.at c.args.from.now c.args.to.now
  edits =
      let x = c.args.from.now in
      let y = c.args.to.now in
      let old = c.endings_of.result.0 in
      let new = c.endings_of.result.1 in
      let equal : same_units (units_of x old) (units_of y new) ≡ same = sym c.eq.ensures ∙ is in
      ending_told x y c.args.moves.now c.args.at old new c.requires.contents c.requires.moves c.requires.inside c.endings_of.ensures.old c.endings_of.ensures.new
      ∙ ap (λ (b : Bool). (if b then [] else record { span = old; text = units_of y new; force = false } ∷ []) ++ endings_of_first c.args.at x y) equal

pub returns-then-eq : goal.returns-then-eq
returns-then-eq c = edits (goal.at.returns-then-eq c).After-eq true c.if-eq.true

pub returns : goal.returns
returns c = edits (goal.at.returns c).After-eq false c.if-eq.false
