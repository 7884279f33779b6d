-- The commands on decorations.
use Rattle.std.specs.Prelude.{[], ◌∷◌, Option, Some, None, codes, if◌then◌else◌}
use Rattle.serde_json.specs.Data.{Data}
use Rattle.script_lines.specs.Reading.{◌>>=◌}
use Rattle.script_lines.specs.Fields.{has_fields, whole_number, number_at, optional_number_at, list_at, span_at}
use Rattle.script_lines.specs.Decorations.{new_deco_in}
use Rattle.script_lines.specs.declared.command.Command.{Command}
use Rattle.script_lines.specs.declared.command.Command.TheVariants.{Decorate, Decos}

abbrev pub decorate_of : Data → Option Command
decorate_of d = do
  owner ← number_at (codes "owner") d
  remove ← list_at whole_number (codes "remove") d
  add ← list_at new_deco_in (codes "add") d
  Some (Decorate owner remove add)

-- `{"cmd":"decorate","owner":NUMBER,"remove":[NUMBER,..],"add":[NEW,..]}`
abbrev pub decorate_in : Data → Option Command
decorate_in d = if has_fields (codes "owner" ∷ codes "remove" ∷ codes "add" ∷ []) d then decorate_of d else None

abbrev pub decos_of : Data → Option Command
decos_of d = do
  span ← span_at (codes "at") d
  owner ← optional_number_at (codes "owner") d
  Some (Decos span owner)

-- `{"cmd":"decos","at":[START,END]}`, optionally with `"owner":NUMBER` for the decorations of one owner only
abbrev pub decos_in : Data → Option Command
decos_in d = if has_fields (codes "at" ∷ codes "owner" ∷ []) d then decos_of d else None
