-- Decorations after the kept changes.
use Rattle.std.specs.Prelude.{ℕ, ◌&&◌, Bool, true, false, List, [], ◌∷◌, length, map}
use Rattle.text_rules.specs.declared.Op.{Op}
use Rattle.decoration_rules.specs.declared.Edit.{Edit}
use Rattle.decoration_rules.specs.Moves.{LieIn}
use Rattle.decoration_rules.specs.Marks.{carried}
use Rattle.decoration_rules.specs.Decorations.{Decorations, IsSound}
use Rattle.document_rules.specs.Document.{carried_to}
use Rattle.model_page.specs.declared.change.Change.{Change}
use Rattle.model_page.specs.declared.change.Change.TheVariants.{Ops, Endings}
use Rattle.model_page.specs.declared.change.Way.{Way}
use Rattle.model_page.specs.Changes.{ops_by, text_from, text_to}
use Rattle.model_page.specs.declared.change.Way.TheVariants.{Back, On}

-- an op as decorations see it; it forces them only if `forces` is set
abbrev pub edit_with : Bool → Op → Edit
edit_with forces op = record { start = op.span.start; end = op.span.end; units = length op.text; force = forces && op.force }

abbrev pub carried_with : Bool → Decorations → List Op → Decorations
carried_with forces d ops = record d { marks = carried d.marks (map (edit_with forces) ops) }

-- the decorations after the change: moved by its ops, or along with their lines
abbrev pub decorations_over : Bool → Way → Change → Decorations → Decorations
decorations_over forces way (Ops ops inverse) d = carried_with forces d (ops_by way (Ops ops inverse))
decorations_over forces way (Endings r) d = carried_to d (text_from way r).units (text_to way r).units

-- the decorations after the changes are taken back, the last change first
abbrev pub decorations_back : Decorations → List Change → Decorations
decorations_back d [] = d
decorations_back d (c ∷ cs) = decorations_over true Back c (decorations_back d cs)

-- the decorations after the changes are made again; none is forced
abbrev pub decorations_on : Decorations → List Change → Decorations
decorations_on d [] = d
decorations_on d (c ∷ cs) = decorations_on (decorations_over false On c d) cs

-- the decorations are sound and within a text of this length
pub record AreIn (len : ℕ) (d : Decorations) : Type 0 where
  pub sound : IsSound d
  pub inside : LieIn len d.marks
