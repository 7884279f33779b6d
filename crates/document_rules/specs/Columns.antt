-- Columns of the flat document's lines, counted in bytes, units or code points.
use Rattle.std.specs.Prelude.{ℕ, ◌+◌, ◌-◌, ◌==◌, if◌then◌else◌, List, Option, Some, None, option_map, Result, Ok, Err}
use Rattle.text_lengths.specs.declared.Position.{Position}
use Rattle.column_encodings.specs.declared.Encoding.{Encoding}
use Rattle.column_encodings.specs.Columns.{column_in, offset_of}
use Rattle.document_rules.specs.Refusals.{FlatRefusal, range}
use Rattle.document_rules.specs.Document.{FlatState, flat_line}

abbrev pub or_range : {A : Type 0} → Option A → Result A FlatRefusal
or_range None = Err range
or_range (Some x) = Ok x

-- applies `tell` to the content of a line; `range` where it returns None
abbrev pub of_line : {A : Type 0} → (List ℕ → Option A) → Result (List ℕ) FlatRefusal → Result A FlatRefusal
of_line tell (Err why) = Err why
of_line tell (Ok content) = or_range (tell content)

-- the number of bytes, units or code points of its line before the position; `range` if the column is 0
abbrev pub flat_column_in : FlatState → Encoding → Position → Result ℕ FlatRefusal
flat_column_in f encoding p =
    of_line (λ content. if p.column == 0 then None else column_in encoding content (p.column - 1)) (flat_line f p.line)

-- converts a count of bytes, units or code points from the start of a line into a column
abbrev pub flat_column_of : FlatState → Encoding → ℕ → ℕ → Result ℕ FlatRefusal
flat_column_of f encoding line before =
    of_line (λ content. option_map (λ offset. offset + 1) (offset_of encoding content before)) (flat_line f line)
