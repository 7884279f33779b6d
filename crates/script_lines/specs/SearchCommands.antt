-- The commands that search for a text.
use Rattle.std.specs.Prelude.{ℕ, List, [], ◌∷◌, Option, Some, None, option_map, option_and_then, codes, if◌then◌else◌}
use Rattle.serde_json.specs.Data.{Data}
use Rattle.script_lines.specs.Reading.{◌>>=◌}
use Rattle.script_lines.specs.Fields.{has_fields, text_at}
use Rattle.script_lines.specs.declared.command.Command.{Command}
use Rattle.script_lines.specs.declared.command.Command.TheVariants.{Find, Replace}

-- a text of at least one unit
abbrev pub sought_of : List ℕ → Option (List ℕ)
sought_of [] = None
sought_of (u ∷ units) = Some (u ∷ units)

abbrev pub sought_at : List ℕ → Data → Option (List ℕ)
sought_at key d = option_and_then sought_of (text_at key d)

-- `{"cmd":"find","text":TEXT}`
abbrev pub find_in : Data → Option Command
find_in d = if has_fields (codes "text" ∷ []) d then option_map Find (sought_at (codes "text") d) else None

abbrev pub replace_of : Data → Option Command
replace_of d = do
  sought ← sought_at (codes "find") d
  text ← text_at (codes "text") d
  Some (Replace sought text)

-- `{"cmd":"replace","find":TEXT,"text":TEXT}`
abbrev pub replace_in : Data → Option Command
replace_in d = if has_fields (codes "find" ∷ codes "text" ∷ []) d then replace_of d else None
