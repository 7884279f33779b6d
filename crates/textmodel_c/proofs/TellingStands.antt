-- What is told of a change goes on being right after each call: it is of the last change of its document, or of a version that was.
use Rattle.std.proofs.Common.{◌≡◌, ℕ, ◌≤◌, ◌==◌, Bool, true, false, cond, List, [], ◌∷◌, ◌++◌, take, drop, Option, None, Some, refl, sym, ap, ◌∙◌, subst, arith, append_assoc}
use Rattle.std.specs.Prelude.{⊤}
use Rattle.std.proofs.lemmas.Bool.{and_parts, eqb-true}
use Rattle.std.proofs.lemmas.List.{take-append-drop}
use Rattle.text_rules.specs.declared.Op.{Op}
use Rattle.document_rules.specs.Document.{FlatState, edits_of, flat_changes}
use Rattle.group_rules.specs.Group.{FlatGroup, doc_in}
use Rattle.sessions.proofs.GoesLemmas.{Goes, stays, goes, AllGo}
use Rattle.textmodel_c.specs.Tellings.{TellingState, telling_of, is_telling, left_to_tell, telling_after}

-- so many edits were told before these, which are the rest of the document's last change
abbrev pub AreLast : List Op → FlatState → Type 0
AreLast edits f = (before : List Op) × (flat_changes f ≡ before ++ edits)

-- what is told of this document is of its last change, or of a version that was
pub record IsRight (t : TellingState) (f : FlatState) : Type 0 where
  pub past : t.version ≤ f.version
  pub told : t.version ≡ f.version → AreLast t.edits f

-- the same of the document that it is of
abbrev pub IsRightIn : FlatGroup → Option TellingState → Type 0
IsRightIn g None = ⊤
IsRightIn g (Some t) = IsRight t (doc_in g t.doc)

-- ---- after a change of documents

right_after : (t : TellingState) (f new : FlatState) → Goes f new → IsRight t f → IsRight t new
right_after t f new (stays version units last) right = record {
  past = omega (arith, version, right.past);
  told = λ same. let was = right.told (same ∙ version) in (was.0, ap edits_of last ∙ was.1);
}
right_after t f new (goes batches edits version last) right = record {
  past = omega (arith, version, right.past);
  told = λ same. absurd (omega (arith, same, version, right.past));
}

-- each document went on by one version, or stayed at its text
pub right_still : (g h : FlatGroup) (telling : Option TellingState) → AllGo g h → IsRightIn g telling → IsRightIn h telling
right_still g h None go right = tt
right_still g h (Some t) go right = right_after t (doc_in g t.doc) (doc_in h t.doc) (go t.doc) right

-- ---- after the next edit was told

right_of : (g : FlatGroup) (doc : ℕ) (edits : List Op) → AreLast edits (doc_in g doc) → IsRightIn g (telling_of doc (doc_in g doc).version edits)
right_of g doc [] last = tt
right_of g doc (op ∷ left) last = record { past = omega arith; told = λ same. last }

left_of_it : (telling : Option TellingState) (doc : ℕ) (g : FlatGroup) → is_telling telling doc (doc_in g doc) ≡ true → IsRightIn g telling
    → AreLast (left_to_tell telling) (doc_in g doc)
left_of_it None doc g is right = absurd cc
left_of_it (Some t) doc g is right =
    let parts = and_parts (t.doc == doc) (t.version == (doc_in g doc).version) is in
    let own : t.doc ≡ doc = eqb-true t.doc doc parts.0 in
    let version : t.version ≡ (doc_in g doc).version = eqb-true t.version (doc_in g doc).version parts.1 in
    let last = (subst (λ n. IsRight t (doc_in g n)) own right).told version in (
      last.0 ++ take 1 t.edits,
      last.1 ∙ ap (λ es. last.0 ++ es) (sym (take-append-drop 1 t.edits)) ∙ sym (append_assoc last.0 (take 1 t.edits) (drop 1 t.edits)),
    )

next_right : (g : FlatGroup) (telling : Option TellingState) (doc : ℕ) (is_it : Bool) → is_telling telling doc (doc_in g doc) ≡ is_it → IsRightIn g telling
    → AreLast (cond is_it (left_to_tell telling) (flat_changes (doc_in g doc))) (doc_in g doc)
next_right g telling doc true is right = left_of_it telling doc g is right
next_right g telling doc false is right = ([], refl)

pub right_next : (g : FlatGroup) (telling : Option TellingState) (doc : ℕ) → IsRightIn g telling → IsRightIn g (telling_after telling doc (doc_in g doc))
right_next g telling doc right = right_of g doc _ (next_right g telling doc (is_telling telling doc (doc_in g doc)) refl right)
