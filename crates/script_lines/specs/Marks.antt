-- The marks of comments and strings that a line gives.
use Rattle.std.specs.Prelude.{ℕ, List, [], ◌∷◌, Option, Some, None, option_map, option_and_then, codes, if◌then◌else◌}
use Rattle.serde_json.specs.Data.{Data}
use Rattle.serde_json.specs.Find.{get}
use Rattle.hiding_rules.specs.Marks.{Marks, marks, are_marks}
use Rattle.script_lines.specs.Reading.{◌>>=◌}
use Rattle.script_lines.specs.Fields.{has_only, text_of, optional_text_at, list_in}
use Rattle.script_lines.specs.Brackets.{optional_pair_at}

abbrev pub sole_unit : List ℕ → Option ℕ
sole_unit [] = None
sole_unit (u ∷ []) = Some u
sole_unit (u ∷ v ∷ units) = None

-- a text of exactly one unit
abbrev pub quote_in : Data → Option ℕ
quote_in d = option_and_then sole_unit (text_of d)

abbrev pub optional_quotes_of : Option Data → Option (List ℕ)
optional_quotes_of None = Some []
optional_quotes_of (Some d) = list_in quote_in d

-- an array of quotes; no quotes if the field is missing
abbrev pub optional_quotes_at : List ℕ → Data → Option (List ℕ)
optional_quotes_at key d = optional_quotes_of (get key d)

-- the marks, if they are valid
abbrev pub marks_of : Marks → Option Marks
marks_of m = if are_marks m then Some m else None

abbrev pub marks_from : Data → Option Marks
marks_from d = do
  line ← optional_text_at (codes "line") d
  block ← optional_pair_at (codes "block") d
  quotes ← optional_quotes_at (codes "quotes") d
  marks_of (marks line block quotes)

-- `{}`, optionally with `"line":TEXT`, `"block":[OPENING,CLOSING]` and `"quotes":[TEXT,..]`
abbrev pub marks_in : Data → Option Marks
marks_in d = if has_only (codes "line" ∷ codes "block" ∷ codes "quotes" ∷ []) d then marks_from d else None

abbrev pub optional_marks_of : Option Data → Option (Option Marks)
optional_marks_of None = Some None
optional_marks_of (Some d) = option_map Some (marks_in d)

-- marks; no marks if the field is missing
abbrev pub optional_marks_at : List ℕ → Data → Option (Option Marks)
optional_marks_at key d = optional_marks_of (get key d)
