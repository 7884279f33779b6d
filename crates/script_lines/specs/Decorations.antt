-- The decorations that a line adds.
use Rattle.std.specs.Prelude.{[], ◌∷◌, Option, Some, None, codes, if◌then◌else◌}
use Rattle.serde_json.specs.Data.{Data}
use Rattle.decoration_rules.specs.declared.NewDeco.{NewDeco}
use Rattle.script_lines.specs.Reading.{◌>>=◌}
use Rattle.script_lines.specs.Fields.{has_only, number_at, span_at, flag_at}

abbrev pub new_deco_of : Data → Option NewDeco
new_deco_of d = do
  span ← span_at (codes "at") d
  stick ← number_at (codes "stick") d
  collapse ← flag_at (codes "collapse") d
  Some (record { span = span; stick = stick; collapse = collapse })

-- `{"at":[START,END],"stick":NUMBER}`, optionally with `"collapse":BOOLEAN`, which is false if missing
abbrev pub new_deco_in : Data → Option NewDeco
new_deco_in d = if has_only (codes "at" ∷ codes "stick" ∷ codes "collapse" ∷ []) d then new_deco_of d else None
