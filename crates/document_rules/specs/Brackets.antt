-- The brackets of the flat document: each query parses the whole text.
use Rattle.std.specs.Prelude.{ℕ, ◌+◌, ◌-◌, ◌^◌, ◌<◌, ◌==◌, ◌||◌, nat_lt, if◌then◌else◌, List, map, Option, option_map, Result, Ok, Err}
use Rattle.text_lengths.specs.declared.Length.{Length}
use Rattle.text_lengths.specs.declared.Position.{Position}
use Rattle.text_rules.specs.Lines.{lines_of}
use Rattle.text_rules.specs.Positions.{is_position}
use Rattle.bracket_rules.specs.declared.Entry.{Entry}
use Rattle.bracket_rules.specs.Parse.{Bracket, bracket_entries, entries_between, bracket_partner, bracket_level}
use Rattle.hiding_rules.specs.Rows.{hidden_brackets}
use Rattle.document_rules.specs.Refusals.{FlatRefusal, range}
use Rattle.document_rules.specs.Document.{FlatState, flat_line_count}

-- the content of each line
abbrev pub line_contents : List ℕ → List (List ℕ)
line_contents x = map (λ line. line.content) (lines_of x)

-- all brackets of the text that are not hidden by a comment or a string, in the order of the text
abbrev pub brackets_of : FlatState → List Bracket
brackets_of f = hidden_brackets f.scanner (line_contents f.units)

-- a place whose line and column can be increased by one without overflow
pub record IsSmall (place : Length) : Type 0 where
  pub lines : place.lines < 2 ^ 62
  pub columns : place.columns < 2 ^ 62

-- a position as a place: the lines before it, and the units before it in its line
abbrev pub place_of : Position → Length
place_of p = record { lines = p.line - 1; columns = p.column - 1 }

-- the entries of the brackets in lines `from` to `to`, both included, counted from 1; `range` if this is no range of lines
abbrev pub flat_brackets : FlatState → ℕ → ℕ → Result (List Entry) FlatRefusal
flat_brackets f from to =
    if from == 0 || nat_lt to from || nat_lt (flat_line_count f) to then Err range
    else Ok (entries_between (from - 1) (to - 1) (bracket_entries (brackets_of f)))

abbrev pub position_at : Length → Position
position_at place = record { line = place.lines + 1; column = place.columns + 1 }

-- the start and the length of the partner of the bracket that starts at this position, if it has one
abbrev pub flat_match : FlatState → Position → Result (Option (Position × ℕ)) FlatRefusal
flat_match f p =
    if is_position f.units p
    then Ok (option_map (λ spot. (position_at spot.place, spot.len)) (bracket_partner (brackets_of f) (place_of p)))
    else Err range

-- the number of brackets that are open after all brackets that start before this position
abbrev pub flat_level : FlatState → Position → Result ℕ FlatRefusal
flat_level f p = if is_position f.units p then Ok (bracket_level (brackets_of f) (place_of p)) else Err range
