-- The marks of the lines of the present text after edits.
use Rattle.std.specs.Prelude.{ℕ, List, [], ◌∷◌}
use Rattle.text_rules.specs.declared.Op.{Op}
use Rattle.text_rules.specs.Dirty.{first_dirty, old_dirty, new_dirty}
use Rattle.batch_rules.specs.Batches.{edited_backwards, inverse_from}
use Rattle.mark_rules.specs.declared.Mark.{Mark}
use Rattle.mark_rules.specs.Marks.{edited_marks}
use Rattle.undo_rules.specs.Stack.{Step}
use Rattle.document_rules.specs.Document.{FlatText, Deed, FlatChange, batch, recast}
use Rattle.model_page.specs.declared.change.Change.{Change}
use Rattle.model_page.specs.declared.change.Change.TheVariants.{Ops, Endings}
use Rattle.model_page.specs.declared.change.Way.{Way}
use Rattle.model_page.specs.declared.change.Way.TheVariants.{Back, On}
use Rattle.model_page.specs.Changes.{ops_by}

-- after an op on text x: the lines that it touches are new, the others keep their marks
abbrev pub marked_by : List ℕ → Op → List Mark → List Mark
marked_by x op marks = edited_marks (first_dirty x op.span) (old_dirty x op.span) (new_dirty x op.span op.text) marks

-- after the ops were carried out on text x, from the last one back
abbrev pub marked_backwards : List ℕ → List Op → List Mark → List Mark
marked_backwards x [] marks = marks
marked_backwards x (op ∷ ops) marks = marked_by (edited_backwards x ops) op (marked_backwards x ops marks)

-- after the change on text x: new line endings change no mark, since no line's content changes
abbrev pub marks_over : Way → Change → List ℕ → List Mark → List Mark
marks_over way (Ops ops inverse) x marks = marked_backwards x (ops_by way (Ops ops inverse)) marks
marks_over way (Endings r) x marks = marks

-- Undo and redo mark lines as any edit does. Back: by the inverses, the last change first.
abbrev pub marks_taken_back : FlatText → Deed → FlatText → List Mark → List Mark
marks_taken_back before (batch ops) after marks = marked_backwards after.units (inverse_from 0 0 before.units ops) marks
marks_taken_back before recast after marks = marks

abbrev pub marked_back : List Mark → List FlatChange → List Mark
marked_back marks [] = marks
marked_back marks (change ∷ changes) = marks_taken_back change.before change.deed change.after (marked_back marks changes)

-- On: by the batches in their order.
abbrev pub marks_made_again : FlatText → Deed → List Mark → List Mark
marks_made_again before (batch ops) marks = marked_backwards before.units ops marks
marks_made_again before recast marks = marks

abbrev pub marked_on : List Mark → List FlatChange → List Mark
marked_on marks [] = marks
marked_on marks (change ∷ changes) = marked_on (marks_made_again change.before change.deed marks) changes

-- after the next step is undone; unchanged if there is none
abbrev pub undone_marks : List Mark → List (Step FlatChange) → List Mark
undone_marks marks [] = marks
undone_marks marks (step ∷ steps) = marked_back marks step.changes

-- after the next step is redone; unchanged if there is none
abbrev pub redone_marks : List Mark → List (Step FlatChange) → List Mark
redone_marks marks [] = marks
redone_marks marks (step ∷ steps) = marked_on marks step.changes

-- after the next step on this way; unchanged if there is none
abbrev pub marked_step : Way → List Mark → List (Step FlatChange) → List Mark
marked_step Back marks steps = undone_marks marks steps
marked_step On marks steps = redone_marks marks steps
