-- The commands that change the text.
use Rattle.std.specs.Prelude.{ℕ, [], ◌∷◌, List, Option, Some, None, option_map, option_and_then, codes, if◌then◌else◌}
use Rattle.serde_json.specs.Data.{Data, Items, no_items, item}
use Rattle.serde_json.specs.Find.{get, as_array}
use Rattle.script_lines.specs.declared.op.LineOp.{LineOp}
use Rattle.script_lines.specs.declared.op.Place.{Place}
use Rattle.script_lines.specs.declared.op.Place.TheVariants.{At, InRange}
use Rattle.script_lines.specs.Reading.{◌>>=◌}
use Rattle.script_lines.specs.Fields.{has_only, has_fields, all_of, text_at, span_from, positions_at, flag_at, kind_at, optional_kind_at}
use Rattle.script_lines.specs.Brackets.{optional_table_at}
use Rattle.script_lines.specs.Marks.{optional_marks_at}
use Rattle.script_lines.specs.declared.command.Command.{Command}
use Rattle.script_lines.specs.declared.command.Command.TheVariants.{Open, Edit, Eol}

abbrev pub open_of : Data → Option Command
open_of d = do
  text ← text_at (codes "text") d
  brackets ← optional_table_at (codes "brackets") d
  marks ← optional_marks_at (codes "marks") d
  kind ← optional_kind_at (codes "eol") d
  Some (Open text brackets marks kind)

-- `{"cmd":"open","text":TEXT}`, optionally with `"brackets":[[OPENING,CLOSING],..]` instead of the standard table, with `"marks":MARKS`
-- for comments and strings that hide brackets, and with `"eol":"lf"` or `"eol":"crlf"` for line endings all of that kind
abbrev pub open_in : Data → Option Command
open_in d = if has_fields (codes "text" ∷ codes "brackets" ∷ codes "marks" ∷ codes "eol" ∷ []) d then open_of d else None

-- the place of an op: the span of its field `at` if it has one, else the positions of its field `range`
abbrev pub place_of : Option Data → Data → Option Place
place_of (Some field) d = if has_only (codes "at" ∷ codes "text" ∷ codes "force" ∷ []) d then option_map At (span_from field) else None
place_of None d = if has_only (codes "range" ∷ codes "text" ∷ codes "force" ∷ []) d
    then option_map (λ p. InRange p.0 p.1) (positions_at (codes "range") d) else None

abbrev pub place_in : Data → Option Place
place_in d = place_of (get (codes "at") d) d

-- `{"at":[START,END],"text":TEXT}` or `{"range":[LINE,COL,LINE,COL],"text":TEXT}`, optionally with `"force":BOOLEAN`, false if missing
abbrev pub op_in : Data → Option LineOp
op_in d = do
  place ← place_in d
  text ← text_at (codes "text") d
  force ← flag_at (codes "force") d
  Some (record { place = place; text = text; force = force })

-- at least one op
abbrev pub some_ops_in : Items → Option (List LineOp)
some_ops_in no_items = None
some_ops_in (item d ds) = all_of op_in (item d ds)

abbrev pub some_ops_at : List ℕ → Data → Option (List LineOp)
some_ops_at key d = option_and_then some_ops_in (option_and_then as_array (get key d))

-- `{"cmd":"edit","ops":[OP,..]}`
abbrev pub edit_in : Data → Option Command
edit_in d = if has_fields (codes "ops" ∷ []) d then option_map Edit (some_ops_at (codes "ops") d) else None

-- `{"cmd":"eol","kind":"lf"}`, or with `"crlf"`
abbrev pub eol_in : Data → Option Command
eol_in d = if has_fields (codes "kind" ∷ []) d then option_map Eol (kind_at (codes "kind") d) else None
