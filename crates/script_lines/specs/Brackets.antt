-- The bracket table that a line gives.
use Rattle.std.specs.Prelude.{ℕ, List, Option, Some, None, option_map, option_and_then, if◌then◌else◌}
use Rattle.serde_json.specs.Data.{Data, Items}
use Rattle.serde_json.specs.Find.{get, as_array}
use Rattle.bracket_rules.specs.Table.{Table, is_table}
use Rattle.script_lines.specs.Reading.{◌>>=◌}
use Rattle.script_lines.specs.Fields.{text_of, two_of, list_in}

abbrev pub two_texts : Data → Data → Option (List ℕ × List ℕ)
two_texts a b = do
  opening ← text_of a
  closing ← text_of b
  Some (opening, closing)

-- an array of two texts
abbrev pub pair_of : Items → Option (List ℕ × List ℕ)
pair_of ds = two_of two_texts ds

abbrev pub pair_in : Data → Option (List ℕ × List ℕ)
pair_in d = option_and_then pair_of (as_array d)

abbrev pub optional_pair_of : Option Data → Option (Option (List ℕ × List ℕ))
optional_pair_of None = Some None
optional_pair_of (Some d) = option_map Some (pair_in d)

-- two texts; no pair if the field is missing
abbrev pub optional_pair_at : List ℕ → Data → Option (Option (List ℕ × List ℕ))
optional_pair_at key d = optional_pair_of (get key d)

-- the pairs, if they are a valid table
abbrev pub table_of : Table → Option Table
table_of pairs = if is_table pairs then Some pairs else None

-- an array of pairs that are a valid table
abbrev pub table_in : Data → Option Table
table_in d = option_and_then table_of (list_in pair_in d)

abbrev pub optional_table_of : Option Data → Option (Option Table)
optional_table_of None = Some None
optional_table_of (Some d) = option_map Some (table_in d)

-- a table; no table if the field is missing
abbrev pub optional_table_at : List ℕ → Data → Option (Option Table)
optional_table_at key d = optional_table_of (get key d)
