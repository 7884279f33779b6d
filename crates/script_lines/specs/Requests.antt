-- The parsing of a line as a request.
use Rattle.std.specs.Prelude.{ℕ, List, [], ◌∷◌, Option, Some, None, option_map, option_and_then, unwrap_or, codes, if◌then◌else◌}
use Rattle.std.specs.Str.{is_utf8, bytes_eq}
use Rattle.serde_json.specs.Data.{Data, Items, no_items, item}
use Rattle.serde_json.specs.Find.{get, as_array}
use Rattle.serde_json.specs.Read.{read}
use Rattle.script_lines.specs.Reading.{◌>>=◌}
use Rattle.script_lines.specs.Fields.{has_only, all_of, number_at, optional_number_at, string_at}
use Rattle.script_lines.specs.EditCommands.{some_ops_at}
use Rattle.script_lines.specs.Commands.{command_in}
use Rattle.script_lines.specs.declared.request.DocEdit.{DocEdit}
use Rattle.script_lines.specs.declared.request.Request.{Request}
use Rattle.script_lines.specs.declared.request.Request.TheVariants.{One, Joint}

-- the number of the document that a command applies to: 0 if the field is missing
abbrev pub doc_in : Data → Option ℕ
doc_in d = option_map (λ doc. unwrap_or doc 0) (optional_number_at (codes "doc") d)

-- a command, optionally with `"doc":NUMBER` for its document, which is 0 if missing
abbrev pub one_in : Data → Option Request
one_in d = do
  doc ← doc_in d
  command ← command_in d
  Some (One doc command)

abbrev pub doc_edit_of : Data → Option DocEdit
doc_edit_of d = do
  doc ← number_at (codes "doc") d
  ops ← some_ops_at (codes "ops") d
  Some (record { doc = doc; ops = ops })

-- `{"doc":NUMBER,"ops":[OP,..]}`
abbrev pub doc_edit_in : Data → Option DocEdit
doc_edit_in d = if has_only (codes "doc" ∷ codes "ops" ∷ []) d then doc_edit_of d else None

-- at least two batches
abbrev pub joint_edits_in : Items → Option (List DocEdit)
joint_edits_in no_items = None
joint_edits_in (item d no_items) = None
joint_edits_in (item d (item e ds)) = all_of doc_edit_in (item d (item e ds))

-- `{"cmd":"joint","edits":[EDIT,EDIT,..]}`
abbrev pub joint_in : Data → Option Request
joint_in d = if has_only (codes "cmd" ∷ codes "edits" ∷ []) d
    then option_map Joint (option_and_then joint_edits_in (option_and_then as_array (get (codes "edits") d))) else None

abbrev pub request_named : List ℕ → Data → Option Request
request_named name d = if bytes_eq name (codes "joint") then joint_in d else one_in d

-- a joint edit or a command on one document, by the field `cmd`
abbrev pub request_in : Data → Option Request
request_in d = option_and_then (λ name. request_named name d) (string_at (codes "cmd") d)

-- a line is a request if it is JSON in UTF-8 and its value is a request
unfoldable pub request_of : List ℕ → Option Request
request_of line = if is_utf8 line then option_and_then request_in (read line) else None
