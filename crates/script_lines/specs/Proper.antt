-- Properties of parsed requests.
use Rattle.std.specs.Prelude.{◌<◌, ◌≤◌, List, length, ⊤}
use Rattle.std.specs.List.{All}
use Rattle.script_lines.specs.declared.request.DocEdit.{DocEdit}
use Rattle.script_lines.specs.declared.request.Request.{Request}
use Rattle.script_lines.specs.declared.request.Request.TheVariants.{One, Joint}

-- at least one op
abbrev pub HasOps : DocEdit → Type 0
HasOps edit = 0 < length edit.ops

-- at least two batches, and at least one op in each
pub record AreBatches (edits : List DocEdit) : Type 0 where
  pub several : 2 ≤ length edits
  pub some : All HasOps edits

abbrev pub IsProper : Request → Type 0
IsProper (One n command) = ⊤
IsProper (Joint edits) = AreBatches edits
