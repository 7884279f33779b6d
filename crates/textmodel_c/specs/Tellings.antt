-- The edits of a document's last change, returned one after another.
use Rattle.std.specs.Prelude.{ℕ, ◌+◌, ◌==◌, ◌&&◌, Bool, false, if◌then◌else◌, List, [], ◌∷◌, length, take, drop, Option, None, Some}
use Rattle.text_rules.specs.declared.Op.{Op}
use Rattle.document_rules.specs.Document.{FlatState, flat_changes}
use Rattle.textmodel_c.specs.declared.telling.Change.{Change}

-- an edit as C sees it, without its text
abbrev pub change_of : Op → Change
change_of op = record { start = op.span.start; end = op.span.end; units = length op.text }

abbrev pub edit_of : Change → List ℕ → Op
edit_of change text = record { span = record { start = change.start; end = change.end }; text = text; force = false }

-- the edits, with their texts joined into one
abbrev pub edits_in : List Change → List ℕ → List Op
edits_in [] texts = []
edits_in (change ∷ changes) texts = edit_of change (take change.units texts) ∷ edits_in changes (drop change.units texts)

-- how many units their texts have
abbrev pub units_in : List Change → ℕ
units_in [] = 0
units_in (change ∷ changes) = change.units + units_in changes

-- the progress of `tm_next_change`
pub record TellingState : Type 0 where
  -- its document, and the version of that
  pub doc : ℕ
  pub version : ℕ
  -- the present edit and those after it
  pub edits : List Op

-- ---- the present edit

abbrev pub told_edit : List Op → Option Change
told_edit [] = None
told_edit (op ∷ left) = Some (change_of op)

abbrev pub told_text : List Op → List ℕ
told_text [] = []
told_text (op ∷ left) = op.text

-- ---- the next one

-- starts with the first of these edits; None if there is none
abbrev pub telling_of : ℕ → ℕ → List Op → Option TellingState
telling_of doc version [] = None
telling_of doc version (op ∷ left) = Some (record { doc = doc; version = version; edits = op ∷ left })

-- whether the present edit is of this version of the document
abbrev pub is_telling : Option TellingState → ℕ → FlatState → Bool
is_telling None doc f = false
is_telling (Some t) doc f = t.doc == doc && t.version == f.version

abbrev pub left_to_tell : Option TellingState → List Op
left_to_tell None = []
left_to_tell (Some t) = drop 1 t.edits

-- Moves on to the next edit of this document; None after the last one. Starts with the first edit if the progress is of another document or
-- version.
abbrev pub telling_after : Option TellingState → ℕ → FlatState → Option TellingState
telling_after telling doc f =
    telling_of doc f.version (if is_telling telling doc f then left_to_tell telling else flat_changes f)
