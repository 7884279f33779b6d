-- Conversion between offsets and positions. A position is a line and a column, both counted from 1.
use Rattle.std.specs.Prelude.{ℕ, ◌+◌, ◌-◌, Bool, false, ◌&&◌, nat_lt, nat_le, if◌then◌else◌, List, [], ◌∷◌, length, Option, Some, None}
use Rattle.text_lengths.specs.declared.Position.{Position}
use Rattle.unit_text.specs.Units.{is_place}
use Rattle.text_rules.specs.Lines.{Line, lines_of, line_length, line_at, line_start}

abbrev pub one_line_down : Position → Position
one_line_down p = record { line = p.line + 1; column = p.column }

-- The position of an offset. Its line is the last one that starts at or before the offset. An offset inside a break
-- belongs to the line that the break ends.
abbrev pub position_in : List Line → ℕ → Position
position_in [] offset = record { line = 1; column = offset + 1 }
position_in (line ∷ []) offset = record { line = 1; column = offset + 1 }
position_in (line ∷ next ∷ lines) offset =
    if nat_lt offset (line_length line) then record { line = 1; column = offset + 1 }
    else one_line_down (position_in (next ∷ lines) (offset - line_length line))

abbrev pub position_of : List ℕ → ℕ → Position
position_of x offset = position_in (lines_of x) offset

abbrev pub offset_of : List ℕ → Position → ℕ
offset_of x p = line_start x p.line + p.column - 1

-- the column is valid in the line: from 1 to the content's length plus 1
abbrev pub has_column : Option Line → ℕ → Bool
has_column None column = false
has_column (Some line) column = nat_le 1 column && nat_le column (length line.content + 1)

-- the position is valid: the line exists, the column is valid in it, and the offset is not inside a pair of surrogates
abbrev pub is_position : List ℕ → Position → Bool
is_position x p = has_column (line_at x p.line) p.column && is_place x (offset_of x p)
