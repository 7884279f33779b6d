-- The two ways to carry out changes: an undo takes them back, a redo makes them again.
use Rattle.std.specs.Prelude.{ℕ, ◌-◌, Bool, true, false, List, [], ◌∷◌, ◌++◌, length, take, drop}
use Rattle.text_rules.specs.declared.Op.{Op}
use Rattle.decoration_rules.specs.Decorations.{Decorations}
use Rattle.mark_rules.specs.declared.Mark.{Mark}
use Rattle.document_rules.specs.Document.{FlatText, FlatChange}
use Rattle.model_page.specs.declared.change.Change.{Change}
use Rattle.model_page.specs.declared.change.Way.{Way}
use Rattle.model_page.specs.declared.change.Way.TheVariants.{Back, On}
use Rattle.model_page.specs.Changes.{ops_by, text_back, text_on, changes_back, changes_on, LeadBack, LeadOn}
use Rattle.model_page.specs.Carrying.{decorations_back, decorations_on}
use Rattle.model_page.specs.LineMarks.{marked_back, marked_on}

-- whether ops force decorations: only on the way back
abbrev pub forces : Way → Bool
forces Back = true
forces On = false

abbrev pub other : Way → Way
other Back = On
other On = Back

abbrev pub text_by : Way → FlatText → List Change → FlatText
text_by Back now cs = text_back now cs
text_by On now cs = text_on now cs

abbrev pub changes_by : Way → FlatText → List Change → List FlatChange
changes_by Back now cs = changes_back now cs
changes_by On now cs = changes_on now cs

abbrev pub LeadBy : Way → FlatText → List Change → Type 0
LeadBy Back now cs = LeadBack now cs
LeadBy On now cs = LeadOn now cs

abbrev pub decorations_by : Way → Decorations → List Change → Decorations
decorations_by Back d cs = decorations_back d cs
decorations_by On d cs = decorations_on d cs

-- the marks after the changes
abbrev pub marked_along : Way → List Mark → List FlatChange → List Mark
marked_along Back marks changes = marked_back marks changes
marked_along On marks changes = marked_on marks changes

-- the batches of the changes on this way, in order; on the way back those of the last change come first
abbrev pub batches_by : Way → List Change → List (List Op)
batches_by Back [] = []
batches_by Back (c ∷ cs) = batches_by Back cs ++ ops_by Back c ∷ []
batches_by On [] = []
batches_by On (c ∷ cs) = ops_by On c ∷ batches_by On cs

-- the index of the next change, after `done` of `count`: from the last one on the way back, from the first one otherwise
abbrev pub place_at : Way → ℕ → ℕ → ℕ
place_at Back count done = count - 1 - done
place_at On count done = done

-- the changes that remain on the way after `done` ones
abbrev pub rest_on : Way → ℕ → List Change → List Change
rest_on Back done cs = take (length cs - done) cs
rest_on On done cs = drop done cs
