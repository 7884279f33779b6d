-- A change of a text as edits that are carried out one after another, as a language server expects them: the span of each refers
-- to the text after the edits before it.
use Rattle.std.specs.Prelude.{ℕ, ◌+◌, if◌then◌else◌, false, List, [], ◌∷◌, ◌++◌, length}
use Rattle.text_rules.specs.declared.Op.{Op}
use Rattle.text_rules.specs.Edits.{edited}
use Rattle.text_rules.specs.Lines.{Line, lines_of, line_length}
use Rattle.bracket_rules.specs.Table.{same_units}

-- the text after the edits
abbrev pub edited_in_turn : List ℕ → List Op → List ℕ
edited_in_turn x [] = x
edited_in_turn x (op ∷ ops) = edited_in_turn (edited x op) ops

-- the op without force: it moves decorations by their stickiness
abbrev pub unforced : Op → Op
unforced op = record op { force = false }

-- The ops of a batch as edits in turn. They go from the last op to the first, so that the spans need no shift.
abbrev pub one_by_one : List Op → List Op
one_by_one [] = []
one_by_one (op ∷ ops) = one_by_one ops ++ unforced op ∷ []

-- the edit that replaces a line ending at the offset by another one; no edit if both are equal
abbrev pub ending_edit : ℕ → List ℕ → List ℕ → List Op
ending_edit at old new =
    if same_units old new then [] else record { span = record { start = at; end = at + length old }; text = new; force = false } ∷ []

-- The edits that replace the endings of lines by those of other lines, from the last line to the first. The first line begins at the
-- offset.
abbrev pub ending_edits_from : ℕ → List Line → List Line → List Op
ending_edits_from at [] others = []
ending_edits_from at (line ∷ lines) [] = []
ending_edits_from at (line ∷ lines) (other ∷ others) =
    ending_edits_from (at + line_length line) lines others ++ ending_edit (at + length line.content) line.break other.break

-- the edits from one text to another whose lines have the same contents
abbrev pub ending_edits : List ℕ → List ℕ → List Op
ending_edits x y = ending_edits_from 0 (lines_of x) (lines_of y)
