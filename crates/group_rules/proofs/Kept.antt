-- A property of the tags in each document of a group is kept by each call, if it holds for the tag of a joint edit.
use Rattle.std.proofs.Common.{◌≡◌, ℕ, Bool, true, false, if◌then◌else◌, List, [], ◌∷◌, Option, Some, None, IfSome, Result, Ok, Err, All, refl, sym, subst}
use Rattle.std.proofs.lemmas.List.Elements.{All-head}
use Rattle.text_rules.specs.declared.Op.{Op}
use Rattle.undo_rules.specs.declared.Tag.{Tag}
use Rattle.undo_rules.specs.Stack.{Step}
use Rattle.undo_rules.specs.Tags.{is_member}
use Rattle.document_rules.specs.Refusals.{FlatRefusal}
use Rattle.document_rules.specs.Document.{FlatChange, FlatState}
use Rattle.search_rules.specs.Replacing.{edited_alone}
use Rattle.group_rules.specs.Group.{FlatGroup, doc_in, with_doc, each_from, lost_by_change, lost_by_open, without_tags, with_changed}
use Rattle.group_rules.specs.Joint.{FlatBatch, tag_of, batch_for, lost_by_joint, tagged_after, joined_doc, joined}
use Rattle.group_rules.specs.Going.{Going, undoing, redoing, front_tag, gone_or_same, all_gone}
use Rattle.group_rules.proofs.KeptTags.{IsFor, AllTags, tags_from_steps, tags_from_AllTags, kept_tagged, kept_losing, kept_alone, kept_undo, kept_redo}
use Rattle.group_rules.proofs.Losing.{lost_in, without_tags-is}
use Rattle.group_rules.proofs.Members.{is_named, named_batch}
use Rattle.group_rules.proofs.Places.{with_doc_kept, each_kept}

-- P holds for each document's number and the tags in this document
abbrev pub AllTagsIn : (ℕ → Tag → Type 0) → FlatGroup → Type 0
AllTagsIn P g = (n : ℕ) → AllTags (P n) (doc_in g n).history

-- ---- tags that are lost

pub lost_by_change_kept : (P : Tag → Type 0) (f : FlatState) → AllTags P f.history → All P (lost_by_change f)
lost_by_change_kept P f h = tags_from_steps P f.history.redo h.redo

pub lost_by_open_kept : (P : Tag → Type 0) (f : FlatState) → AllTags P f.history → All P (lost_by_open f)
lost_by_open_kept P f h = tags_from_AllTags P f.history h

pub kept_without_tags : (P : Tag → Type 0) (tags : List Tag) (n : ℕ) (f : FlatState) → AllTags P f.history → AllTags P (without_tags tags n f).history
kept_without_tags P tags n f h =
    subst (λ (f : FlatState). AllTags P f.history) (sym (without_tags-is tags n f)) (kept_losing P (lost_in tags n) f.history h)

-- ---- one document

pub AllTagsIn-with_doc : (P : ℕ → Tag → Type 0) (g : FlatGroup) (n : ℕ) (f : FlatState) → AllTagsIn P g → AllTags (P n) f.history
    → AllTagsIn P (with_doc g n f)
AllTagsIn-with_doc P g n f h new = with_doc_kept (λ k d. AllTags (P k) d.history) g n f h new

pub AllTagsIn-with_changed : (P : ℕ → Tag → Type 0) (g : FlatGroup) (lost : List Tag) (n : ℕ) (f : FlatState) → AllTagsIn P g → AllTags (P n) f.history
    → AllTagsIn P (with_changed g lost n f)
AllTagsIn-with_changed P g lost n f h new =
    AllTagsIn-with_doc P (each_from 0 (without_tags lost) g) n f
    (each_kept (λ k d. AllTags (P k) d.history) (without_tags lost) g h (λ k kept. kept_without_tags (P k) lost k (doc_in g k) kept)) new

-- ---- a joint edit

tagged_kept : (P : Tag → Type 0) (tag : Tag) (f : FlatState) (ops : List Op) (r : Result (Option FlatState) FlatRefusal) → edited_alone f ops ≡ r → P tag
    → AllTags P f.history → AllTags P (tagged_after tag f r).history
tagged_kept P tag f ops (Ok (Some new)) rule p h = kept_tagged P new.history tag p (kept_alone P f new ops rule h)
tagged_kept P tag f ops (Ok None) rule p h = h
tagged_kept P tag f ops (Err why) rule p h = h

joined_doc_kept : (P : Tag → Type 0) (tag : Tag) (lost : List Tag) (n : ℕ) (f : FlatState) (batch : Option (List Op))
    → ((ops : List Op) → batch ≡ Some ops → P tag) → AllTags P f.history → AllTags P (joined_doc tag lost n f batch).history
joined_doc_kept P tag lost n f None p h = kept_without_tags P lost n f h
joined_doc_kept P tag lost n f (Some ops) p h = tagged_kept P tag f ops (edited_alone f ops) refl (p ops refl) h

-- each document that a batch is for has the tag now
pub AllTagsIn-joined : (P : ℕ → Tag → Type 0) (g : FlatGroup) (batches : List FlatBatch) → AllTagsIn P g
    → ((n : ℕ) → is_named n batches ≡ true → P n (tag_of g batches)) → AllTagsIn P (joined g batches)
AllTagsIn-joined P g batches h tag =
    each_kept (λ k d. AllTags (P k) d.history) (λ n f. joined_doc (tag_of g batches) (lost_by_joint g batches) n f (batch_for n batches)) g h
    (λ k kept. joined_doc_kept (P k) (tag_of g batches) (lost_by_joint g batches) k (doc_in g k) (batch_for k batches)
    (λ ops found. tag k (named_batch batches k ops found)) kept)

-- ---- undo and redo

-- undo or redo: it makes no tag, and its next step is one of the document
pub record IsKeeping (going : Going) : Type 1 where
  pub kept : (P : Tag → Type 0) (f new : FlatState) → going.rule f ≡ Ok (Some new) → AllTags P f.history → AllTags P new.history
  pub front : (P : Tag → Type 0) (f : FlatState) → AllTags P f.history → IfSome (front_tag (going.steps f)) P

front_of : (P : Tag → Type 0) (steps : List (Step FlatChange)) → All (IsFor P) steps → IfSome (front_tag steps) P
front_of P [] h = tt
front_of P (step ∷ steps) h = All-head (IsFor P) step steps h

pub undoing_keeps : IsKeeping undoing
undoing_keeps = record { kept = kept_undo; front = λ P f h. front_of P f.history.undo h.undo }

pub redoing_keeps : IsKeeping redoing
redoing_keeps = record { kept = kept_redo; front = λ P f h. front_of P f.history.redo h.redo }

gone_kept : (P : Tag → Type 0) (f : FlatState) (r : Result (Option FlatState) FlatRefusal)
    → ((new : FlatState) → r ≡ Ok (Some new) → AllTags P new.history) → AllTags P f.history → AllTags P (gone_or_same f r).history
gone_kept P f (Ok (Some new)) kept h = kept new refl
gone_kept P f (Ok None) kept h = h
gone_kept P f (Err why) kept h = h

one_gone : (P : Tag → Type 0) (going : Going) (is_it : Bool) (f : FlatState) → IsKeeping going → AllTags P f.history
    → AllTags P (if is_it then gone_or_same f (going.rule f) else f).history
one_gone P going true f keeps h = gone_kept P f (going.rule f) (λ new done. keeps.kept P f new done h) h
one_gone P going false f keeps h = h

pub AllTagsIn-all_gone : (P : ℕ → Tag → Type 0) (going : Going) (g : FlatGroup) (tag : Tag) → IsKeeping going → AllTagsIn P g
    → AllTagsIn P (all_gone going g tag)
AllTagsIn-all_gone P going g tag keeps h =
    each_kept (λ k d. AllTags (P k) d.history) (λ n f. if is_member n tag then gone_or_same f (going.rule f) else f) g h
    (λ k kept. one_gone (P k) going (is_member k tag) (doc_in g k) keeps kept)
