-- How decorations move with their lines: each line keeps its content and only its start changes, for example when the
-- line endings of a text change their kind.
use Rattle.std.specs.Prelude.{ℕ, ◌≡◌, ◌+◌, ◌-◌, ◌<◌, ◌≤◌, min, nat_le, if◌then◌else◌, List, [], ◌∷◌, map}
use Rattle.std.specs.List.{AllPairs}
use Rattle.text_lengths.specs.declared.Span.{Span}
use Rattle.decoration_rules.specs.declared.LineMove.{LineMove}
use Rattle.decoration_rules.specs.declared.Mark.{Mark}
use Rattle.decoration_rules.specs.Moves.{offset_limit}
use Rattle.decoration_rules.specs.Marks.{in_order}

-- the new offset of an offset in the line: its distance from the line's start is kept, but limited to the length of the
-- content
abbrev pub place_in : LineMove → ℕ → ℕ
place_in line place = line.new + min (place - line.old) line.content

-- the line of an offset: the last line that started at or before it; `first` if there is none
abbrev pub line_of : LineMove → List LineMove → ℕ → LineMove
line_of first [] place = first
line_of first (next ∷ lines) place = if nat_le next.old place then line_of next lines place else line_of first lines place

-- the offset after the lines have moved
abbrev pub carried_place : List LineMove → ℕ → ℕ
carried_place [] place = place
carried_place (first ∷ lines) place = place_in (line_of first lines place) place

-- the span after the lines have moved: both its bounds move
abbrev pub carried_span : List LineMove → Span → Span
carried_span lines span = record { start = carried_place lines span.start; end = carried_place lines span.end }

abbrev pub carried_mark : List LineMove → Mark → Mark
carried_mark lines mark = record mark { span = carried_span lines mark.span }

-- all decorations after the lines have moved, ordered by start, then by end, then by id
abbrev pub carried_with_lines : List LineMove → List Mark → List Mark
carried_with_lines lines marks = in_order (map (carried_mark lines) marks)

-- the end of the last line's content, which is the new length of the text
abbrev pub length_now : List LineMove → ℕ
length_now [] = 0
length_now (line ∷ []) = line.new + line.content
length_now (line ∷ next ∷ lines) = length_now (next ∷ lines)

-- there is a first line, and its old start is 0
abbrev pub StartsText : List LineMove → Type 0
StartsText [] = ⊥
StartsText (first ∷ lines) = first.old ≡ 0

-- the properties of the line moves of a text whose line endings change
pub record AreLineMoves (lines : List LineMove) : Type 0 where
  pub first : StartsText lines
  -- each old start is greater than those before it
  pub rising : AllPairs (λ line later. line.old < later.old) lines
  -- each new start is at or after the end of the content of the lines before it
  pub apart : AllPairs (λ line later. line.new + line.content ≤ later.new) lines
  pub fits : length_now lines < offset_limit
