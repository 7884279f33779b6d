-- A search in the flat document, and the replacement of all occurrences.
use Rattle.std.specs.Prelude.{ℕ, ◌-◌, ◌≡◌, false, List, [], ◌∷◌, ◌++◌, map, take, drop, Option, Some, None, Result, Ok, Err}
use Rattle.text_lengths.specs.declared.Span.{Span}
use Rattle.unit_text.specs.declared.kind.Kind.{Kind}
use Rattle.unit_text.specs.Kinds.{normalized}
use Rattle.text_rules.specs.declared.Op.{Op}
use Rattle.document_rules.specs.Refusals.{FlatRefusal}
use Rattle.document_rules.specs.Document.{FlatState, flat_edit, flat_stop, flat_undo, unless_last_version}
use Rattle.search_rules.specs.Occurrences.{occurrences}

-- the spans of the occurrences of the sought units
abbrev pub flat_find : FlatState → List ℕ → List Span
flat_find f sought = occurrences f.kind f.units sought

-- the op that replaces the span by a text, without force
abbrev pub op_for : List ℕ → Span → Op
op_for text span = record { span = span; text = text; force = false }

-- the ops that replace each of the spans by the text
abbrev pub replacing : List Span → List ℕ → List Op
replacing spans text = map (op_for text) spans

-- the document after an edit, with its undo step closed
abbrev pub closed_after : Result FlatState FlatRefusal → Result (Option FlatState) FlatRefusal
closed_after (Err why) = Err why
closed_after (Ok f) = Ok (Some (flat_stop f))

-- A batch as an undo step of its own: the step is closed before and after it. Without ops nothing changes.
abbrev pub edited_alone : FlatState → List Op → Result (Option FlatState) FlatRefusal
edited_alone f [] = Ok None
edited_alone f (op ∷ ops) = closed_after (flat_edit (flat_stop f) (op ∷ ops))

-- replaces all occurrences by the text in one batch; None if there are no occurrences
abbrev pub flat_replace_all : FlatState → List ℕ → List ℕ → Result (Option FlatState) FlatRefusal
flat_replace_all f sought text = edited_alone f (replacing (flat_find f sought) text)

-- ---- the effect of a replacement

-- the text from an offset on, with each span replaced by the new text
abbrev pub replaced_from : ℕ → List ℕ → List Span → List ℕ → List ℕ
replaced_from place x [] text = drop place x
replaced_from place x (span ∷ spans) text = take (span.start - place) (drop place x) ++ text ++ replaced_from span.end x spans text

-- the text of the kind with each of the spans replaced: the new text gets the line endings of the kind
abbrev pub replaced : Kind → List ℕ → List Span → List ℕ → List ℕ
replaced kind x spans text = replaced_from 0 x spans (normalized kind text)

-- One undo restores the old text, unit for unit, and the old undo list. It is refused only in the greatest version.
pub record TakesBack (old new : FlatState) : Type 0 where
  pub undone : FlatState
  pub rule : flat_undo new ≡ unless_last_version new undone
  pub units : undone.units ≡ old.units
  pub kind : undone.kind ≡ old.kind
  pub alternative : undone.alternative ≡ old.alternative
  pub steps : undone.history.undo ≡ old.history.undo
