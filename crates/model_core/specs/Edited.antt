-- The model after an edit of the text.
use Rattle.std.specs.Prelude.{Bool, List, length, Result, ⊤}
use Rattle.mark_rules.specs.declared.Mark.{Mark}
use Rattle.unit_text.specs.declared.kind.Kind.{Kind}
use Rattle.unit_text.specs.Kinds.{normalized}
use Rattle.text_rules.specs.declared.Op.{Op}
use Rattle.text_buffer.specs.Room.{part_count}
use Rattle.text_batches.specs.Needs.{edit_count}
use Rattle.batch_rules.specs.Batches.{sorted_ops, ops_in}
use Rattle.document_rules.specs.declared.ModelError.{ModelError}
use Rattle.document_rules.specs.Document.{FlatState}
use Rattle.model_page.specs.LineMarks.{marked_backwards}
use Rattle.model_core.specs.State.{ModelState, AfterCall, AfterMove, Leaves}

-- the ops as they are carried out: sorted, and with line endings of the document's kind
abbrev pub ops_as_done : FlatState → List Op → List Op
ops_as_done f ops = sorted_ops (ops_in f.kind ops)

-- the marks of the lines after the ops
abbrev pub marks_edited : ModelState → List Op → List Mark
marks_edited old ops = marked_backwards old.document.units (ops_as_done old.document ops) old.marks

-- the ops were carried out, or refused
abbrev pub HasEdited : List Op → Result ⊤ ModelError → ModelState → ModelState → Type 0
HasEdited ops result old new =
    AfterCall result (Leaves (edit_count (ops_as_done old.document ops)) (length ops) (marks_edited old ops)) old new

-- new line endings were set, which mark no line
abbrev pub HasRecast : Kind → Result Bool ModelError → ModelState → ModelState → Type 0
HasRecast kind result old new =
    AfterMove result (Leaves (part_count (normalized kind old.document.units)) 0 old.marks) old new
