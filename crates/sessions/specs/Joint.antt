-- A joint edit: its batches with offsets, and its reply.
use Rattle.std.specs.Prelude.{◌≡◌, ◌⊎◌, ℕ, List, [], ◌∷◌, map, length, Option, Some, None, Result, Ok, Err}
use Rattle.std.specs.List.{flat_map}
use Rattle.std.specs.declared.vec.Vec.{Vec}
use Rattle.std.specs.declared.alloc.Global.{Global}
use Rattle.document_rules.specs.declared.ModelError.{ModelError}
use Rattle.document_rules.specs.declared.ModelError.TheVariants as error
use Rattle.document_rules.specs.Document.{FlatState, flat_line_count}
use Rattle.group_rules.specs.declared.DocBatch.{DocBatch}
use Rattle.group_rules.specs.Joint.{FlatBatch, flat_batch}
use Rattle.script_lines.specs.Replies.{number_part}

-- the result is these batches, or `Range` if a position is invalid, or `Memory`
abbrev pub AreBatchesFound : Result (Vec DocBatch Global) ModelError → Option (List FlatBatch) → Type 0
AreBatchesFound (Ok batches) rule = rule ≡ Some (map flat_batch batches.items)
AreBatchesFound (Err e) rule = (e ≡ error.Memory) ⊎ ((e ≡ error.Range) × (rule ≡ None))

-- ` DOC VERSION UNITS LINES`
abbrev pub doc_part : ℕ → FlatState → List ℕ
doc_part n f = flat_map number_part (n ∷ f.version ∷ length f.units ∷ flat_line_count f ∷ [])
