-- A call on documents outside a set leaves the documents of the set unchanged, if no tag that it loses or follows has a member in the set.
use Rattle.std.proofs.Common.{◌≡◌, ℕ, ◌==◌, Bool, true, false, if◌then◌else◌, List, [], ◌∷◌, length, All, refl, sym, ap, ◌∙◌, eqb-true, true≢false}
use Rattle.std.proofs.lemmas.Bool.{false_from_ne_true}
use Rattle.std.proofs.lemmas.List.Elements.{All-nil, All-head, All-tail, All-append, All-weaker}
use Rattle.std.proofs.lemmas.List.Folds.{list_any_none}
use Rattle.undo_rules.specs.declared.Tag.{Tag}
use Rattle.undo_rules.specs.Tags.{is_member}
use Rattle.document_rules.specs.Document.{FlatState, empty_document, flat_untag}
use Rattle.group_rules.specs.declared.TheConstants.{DOC_COUNT}
use Rattle.group_rules.specs.Group.{FlatGroup, doc_in, each_from, lost_by_change, without_tags, with_changed}
use Rattle.group_rules.specs.Joint.{FlatBatch, docs_of, tag_of, batch_for, lost_by_joint, joined_doc, joined}
use Rattle.group_rules.specs.Going.{Going, gone_or_same, all_gone}
use Rattle.group_rules.proofs.Members.{is_named, batch_for_none}
use Rattle.group_rules.proofs.Places.{length-each_from, doc_in-each_left}
use Rattle.group_rules.proofs.Alike.{SameIn, SameItems-trans, SameItems-set_outside}

-- no member of the tag is of the set
abbrev pub IsOutside : (ℕ → Bool) → Tag → Type 0
IsOutside set tag = (n : ℕ) → set n ≡ true → is_member n tag ≡ false

-- ---- one document

SameIn-each_left : (set : ℕ → Bool) (g : FlatGroup) (change : ℕ → FlatState → FlatState) → length g ≡ DOC_COUNT
    → ((n : ℕ) → set n ≡ true → change n (doc_in g n) ≡ doc_in g n) → SameIn set (each_from 0 change g) g
SameIn-each_left set g change long left = record {
  left = length-each_from 0 change g ∙ long;
  right = long;
  same = λ n on. doc_in-each_left change g n (left n on);
}

-- a document that is a member of none of the tags loses none
pub without_tags_left : (tags : List Tag) (n : ℕ) (f : FlatState) → All (λ tag. is_member n tag ≡ false) tags → without_tags tags n f ≡ f
without_tags_left [] n f none = refl
without_tags_left (tag ∷ tags) n f none =
    ap (λ t. without_tags tags n (if t then flat_untag f tag else f)) (All-head (λ tag. is_member n tag ≡ false) tag tags none)
    ∙ without_tags_left tags n f (All-tail (λ tag. is_member n tag ≡ false) tag tags none)

outside_at : (set : ℕ → Bool) (tags : List Tag) (n : ℕ) → set n ≡ true → All (IsOutside set) tags → All (λ tag. is_member n tag ≡ false) tags
outside_at set tags n on none = All-weaker (IsOutside set) (λ tag. is_member n tag ≡ false) (λ tag out. out n on) tags none

pub SameIn-with_changed_outside : (set : ℕ → Bool) (g : FlatGroup) (lost : List Tag) (n : ℕ) (f : FlatState) → length g ≡ DOC_COUNT → set n ≡ false
    → All (IsOutside set) lost → SameIn set (with_changed g lost n f) g
SameIn-with_changed_outside set g lost n f long off none =
    let less = each_from 0 (without_tags lost) g in
    SameItems-trans empty_document set (with_changed g lost n f) less g
    (SameItems-set_outside empty_document set less n f (length-each_from 0 (without_tags lost) g ∙ long) off)
    (SameIn-each_left set g (without_tags lost) long (λ k on. without_tags_left lost k (doc_in g k) (outside_at set lost k on none)))

-- ---- a joint edit

pub lost_by_joint_kept : (P : Tag → Type 0) (g : FlatGroup) (batches : List FlatBatch) → All (λ n. All P (lost_by_change (doc_in g n))) (docs_of batches)
    → All P (lost_by_joint g batches)
lost_by_joint_kept P g [] h = All-nil P
lost_by_joint_kept P g (b ∷ batches) h =
    All-append P (lost_by_change (doc_in g b.doc)) (lost_by_joint g batches)
    (All-head (λ n. All P (lost_by_change (doc_in g n))) b.doc (docs_of batches) h)
    (lost_by_joint_kept P g batches (All-tail (λ n. All P (lost_by_change (doc_in g n))) b.doc (docs_of batches) h))

-- no batch is for a document of the set
pub is_named_outside : (set : ℕ → Bool) (batches : List FlatBatch) (n : ℕ) → All (λ m. set m ≡ false) (docs_of batches) → set n ≡ true
    → is_named n batches ≡ false
is_named_outside set batches n off on =
    list_any_none (λ m. m == n) (docs_of batches)
    (All-weaker (λ m. set m ≡ false) (λ m. (m == n) ≡ false)
    (λ m out. false_from_ne_true (m == n) (λ e. true≢false (sym on ∙ ap set (sym (eqb-true m n e)) ∙ out))) (docs_of batches) off)

pub SameIn-joined_outside : (set : ℕ → Bool) (g : FlatGroup) (batches : List FlatBatch) → length g ≡ DOC_COUNT
    → All (λ n. set n ≡ false) (docs_of batches) → All (IsOutside set) (lost_by_joint g batches) → SameIn set (joined g batches) g
SameIn-joined_outside set g batches long off none =
    let lost = lost_by_joint g batches in
    SameIn-each_left set g (λ n f. joined_doc (tag_of g batches) lost n f (batch_for n batches)) long
    (λ n on. ap (joined_doc (tag_of g batches) lost n (doc_in g n)) (batch_for_none batches n (is_named_outside set batches n off on))
    ∙ without_tags_left lost n (doc_in g n) (outside_at set lost n on none))

-- ---- undo and redo of a tag

pub SameIn-all_gone_outside : (set : ℕ → Bool) (going : Going) (g : FlatGroup) (tag : Tag) → length g ≡ DOC_COUNT → IsOutside set tag
    → SameIn set (all_gone going g tag) g
SameIn-all_gone_outside set going g tag long out =
    SameIn-each_left set g (λ n f. if is_member n tag then gone_or_same f (going.rule f) else f) long
    (λ n on. ap (λ t. if t then gone_or_same (doc_in g n) (going.rule (doc_in g n)) else doc_in g n) (out n on))
