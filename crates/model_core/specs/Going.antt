-- The last parse and the pieces after an undo or a redo.
use Rattle.std.specs.Prelude.{Bool, Result}
use Rattle.document_rules.specs.declared.ModelError.{ModelError}
use Rattle.model_page.specs.declared.change.Way.{Way}
use Rattle.model_page.specs.LineMarks.{marked_step}
use Rattle.model_core.specs.Prepared.{next_edit_count, next_marking_count}
use Rattle.model_core.specs.State.{ModelState, AfterMove, Leaves}
use Rattle.model_core.specs.Ways.{next_steps}

-- as after the edits of the next step
abbrev pub HasGone : Way → Result Bool ModelError → ModelState → ModelState → Type 0
HasGone way result old new =
    let steps = next_steps way old.document.history in
    AfterMove result (Leaves (next_edit_count way steps) (next_marking_count steps) (marked_step way old.marks steps)) old new
