-- The rows of the table of commands, and sets of fields that several of them have in common.
use Rattle.std.specs.Prelude.{ℕ, List, [], ◌∷◌, Option, Some, None, option_map, codes, if◌then◌else◌}
use Rattle.std.specs.Str.{bytes_eq}
use Rattle.serde_json.specs.Data.{Data}
use Rattle.text_lengths.specs.declared.Position.{Position}
use Rattle.text_lengths.specs.declared.Span.{Span}
use Rattle.script_lines.specs.Reading.{◌>>=◌}
use Rattle.script_lines.specs.Fields.{has_fields, number_at, span_at, position_in}
use Rattle.script_lines.specs.declared.command.Command.{Command}

-- the name of a command, and the rule that reads its fields
pub record Row : Type 0 where
  pub name : List ℕ
  pub reads : Data → Option Command

abbrev pub row : List ℕ → (Data → Option Command) → Row
row name reads = record { name = name; reads = reads }

-- the command read by the row with this name; None if there is no such row
abbrev pub named_in : List Row → List ℕ → Data → Option Command
named_in [] name d = None
named_in (r ∷ rows) name d = if bytes_eq name r.name then r.reads d else named_in rows name d

-- ---- shapes of rows

-- `{"cmd":NAME}`
abbrev pub bare : Command → Data → Option Command
bare command d = if has_fields [] d then Some command else None

abbrev pub sole_number : List ℕ → Data → Option ℕ
sole_number key d = if has_fields (key ∷ []) d then number_at key d else None

-- `{"cmd":NAME,KEY:NUMBER}`
abbrev pub of_number : (ℕ → Command) → List ℕ → Data → Option Command
of_number command key d = option_map command (sole_number key d)

abbrev pub two_numbers : List ℕ → List ℕ → Data → Option (ℕ × ℕ)
two_numbers key other d = if has_fields (key ∷ other ∷ []) d
    then number_at key d >>= (λ a. number_at other d >>= (λ b. Some (a, b))) else None

-- `{"cmd":NAME,KEY:NUMBER,OTHER:NUMBER}`
abbrev pub of_two_numbers : (ℕ → ℕ → Command) → List ℕ → List ℕ → Data → Option Command
of_two_numbers command key other d = option_map (λ n. command n.0 n.1) (two_numbers key other d)

abbrev pub sole_span : List ℕ → Data → Option Span
sole_span key d = if has_fields (key ∷ []) d then span_at key d else None

-- `{"cmd":NAME,KEY:[START,END]}`
abbrev pub of_span : (Span → Command) → List ℕ → Data → Option Command
of_span command key d = option_map command (sole_span key d)

abbrev pub sole_position : Data → Option Position
sole_position d = if has_fields (codes "line" ∷ codes "col" ∷ []) d then position_in d else None

-- `{"cmd":NAME,"line":NUMBER,"col":NUMBER}`
abbrev pub of_position : (Position → Command) → Data → Option Command
of_position command d = option_map command (sole_position d)
