-- A text together with the same text with other line endings.
use Rattle.std.specs.Prelude.{ℕ, ◌≡◌, ◌≤◌, List, length}
use Rattle.unit_text.specs.declared.kind.Kind.{Kind}
use Rattle.unit_text.specs.Kinds.{normalized, IsOfKind}
use Rattle.text_rules.specs.declared.TheConstants.{MOST_TEXT_UNITS}
use Rattle.decoration_rules.specs.declared.LineMove.{LineMove}
use Rattle.decoration_rules.specs.LineMoves.{line_moves}

-- the text before and after the change, each with the kind of its line endings
pub record RecastState : Type 0 where
  pub before : List ℕ
  pub from : Kind
  pub after : List ℕ
  pub to : Kind

-- one of the two texts, with the kind of its line endings and the line moves from the other text to it
pub record SideState : Type 0 where
  pub units : List ℕ
  pub kind : Kind
  pub moves : List LineMove

abbrev pub recast_of : SideState → SideState → RecastState
recast_of before after = record { before = before.units; from = before.kind; after = after.units; to = after.kind }

-- the second text is the first one with its line endings replaced by those of the second's kind
pub record AreSides (before after : SideState) : Type 0 where
  pub endings : IsOfKind before.kind before.units
  pub same : after.units ≡ normalized after.kind before.units
  pub before_fits : length before.units ≤ MOST_TEXT_UNITS
  pub after_fits : length after.units ≤ MOST_TEXT_UNITS
  pub back : before.moves ≡ line_moves after.units before.units
  pub on : after.moves ≡ line_moves before.units after.units
