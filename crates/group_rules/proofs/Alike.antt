-- Two groups that have the documents of a set in common still have them after one and the same call on documents of the set.
use Rattle.std.proofs.Common.{◌≡◌, ℕ, suc, ◌+◌, ◌&&◌, ◌||◌, not, arith, Bool, true, false, if◌then◌else◌, List, [], ◌∷◌, ◌++◌, length, slice_get, slice_set, unwrap_or, Some, None, All, refl, sym, ap, ap₂, subst, ◌∙◌, true≢false}
use Rattle.std.proofs.lemmas.List.{length-set}
use Rattle.std.proofs.lemmas.List.Elements.{All-head, All-tail, All-weaker}
use Rattle.undo_rules.specs.declared.Tag.{Tag}
use Rattle.undo_rules.specs.Tags.{is_member}
use Rattle.document_rules.specs.Refusals.{FlatRefusal, unknown, range, overlap, limit}
use Rattle.document_rules.specs.Document.{FlatState, empty_document, flat_edit}
use Rattle.group_rules.specs.declared.TheConstants.{DOC_COUNT}
use Rattle.group_rules.specs.Group.{FlatGroup, doc_in, each_from, lost_by_change, without_tags, with_changed}
use Rattle.group_rules.specs.Joint.{FlatBatch, docs_of, names_badly, is_refused_for, some_refused, joint_refusal, least_of, tag_of, batch_for, lost_by_joint, joined_doc, joined}
use Rattle.group_rules.specs.Going.{Going, is_front, is_last_version, some_last_from, other_next_from, gone_or_same, all_gone}
use Rattle.group_rules.proofs.Members.{least_kept}
use Rattle.group_rules.proofs.Places.{doc_in_past, read_other, read_same, length-each_from, each_same}

-- two lists for all documents have the items of the set in common
pub record SameItems {X : Type 0} (d : X) (set : ℕ → Bool) (xs ys : List X) : Type 0 where
  pub left : length xs ≡ DOC_COUNT
  pub right : length ys ≡ DOC_COUNT
  pub same : (n : ℕ) → set n ≡ true → unwrap_or (slice_get xs n) d ≡ unwrap_or (slice_get ys n) d

module _ {X : Type 0} (d : X) (set : ℕ → Bool) where
  pub SameItems-self : (xs : List X) → length xs ≡ DOC_COUNT → SameItems d set xs xs
  SameItems-self xs long = record { left = long; right = long; same = λ n on. refl }

  pub SameItems-trans : (xs ys zs : List X) → SameItems d set xs ys → SameItems d set ys zs → SameItems d set xs zs
  SameItems-trans xs ys zs a b = record { left = a.left; right = b.right; same = λ n on. a.same n on ∙ b.same n on }

  -- one and the same item is put into both
  pub SameItems-set : (xs ys : List X) (n : ℕ) (x : X) → SameItems d set xs ys → SameItems d set (slice_set xs n x) (slice_set ys n x)
  SameItems-set xs ys n x a = record {
    left = length-set xs n x ∙ a.left;
    right = length-set ys n x ∙ a.right;
    same = λ k on. read_same d xs ys n k x (a.left ∙ sym a.right) (a.same k on);
  }

  -- an item is put where the set has none
  pub SameItems-set_outside : (xs : List X) (n : ℕ) (x : X) → length xs ≡ DOC_COUNT → set n ≡ false → SameItems d set (slice_set xs n x) xs
  SameItems-set_outside xs n x long off = record {
    left = length-set xs n x ∙ long;
    right = long;
    same = λ k on. read_other d xs n k x (λ e. true≢false (sym on ∙ ap set e ∙ off));
  }

-- two groups have the documents of the set in common
abbrev pub SameIn : (ℕ → Bool) → FlatGroup → FlatGroup → Type 0
SameIn set g h = SameItems empty_document set g h

-- ---- one document

SameIn-each : (set : ℕ → Bool) (g h : FlatGroup) (change other : ℕ → FlatState → FlatState) → SameIn set g h
    → ((n : ℕ) → set n ≡ true → change n (doc_in g n) ≡ other n (doc_in g n)) → SameIn set (each_from 0 change g) (each_from 0 other h)
SameIn-each set g h change other a alike = record {
  left = length-each_from 0 change g ∙ a.left;
  right = length-each_from 0 other h ∙ a.right;
  same = λ k on. each_same change other g h k (a.left ∙ sym a.right) (a.same k on) (alike k on);
}

pub SameIn-with_changed : (set : ℕ → Bool) (g h : FlatGroup) (lost : List Tag) (n : ℕ) (f : FlatState) → SameIn set g h
    → SameIn set (with_changed g lost n f) (with_changed h lost n f)
SameIn-with_changed set g h lost n f a =
    SameItems-set empty_document set (each_from 0 (without_tags lost) g) (each_from 0 (without_tags lost) h) n f
    (SameIn-each set g h (without_tags lost) (without_tags lost) a (λ n on. refl))

-- ---- a joint edit

-- the documents of these numbers are the same in both
abbrev pub HaveSame : FlatGroup → FlatGroup → List ℕ → Type 0
HaveSame g h docs = All (λ n. doc_in g n ≡ doc_in h n) docs

pub HaveSame-in : (set : ℕ → Bool) (g h : FlatGroup) (docs : List ℕ) → SameIn set g h → All (λ n. set n ≡ true) docs → HaveSame g h docs
HaveSame-in set g h docs a on = All-weaker (λ n. set n ≡ true) (λ n. doc_in g n ≡ doc_in h n) a.same docs on

some_refused_same : (why : FlatRefusal) (g h : FlatGroup) (batches : List FlatBatch) → HaveSame g h (docs_of batches)
    → some_refused why g batches ≡ some_refused why h batches
some_refused_same why g h [] same = refl
some_refused_same why g h (b ∷ batches) same =
    ap₂ (λ s t. s || t) (ap (λ f. is_refused_for why (flat_edit f b.ops)) (All-head (λ n. doc_in g n ≡ doc_in h n) b.doc (docs_of batches) same))
    (some_refused_same why g h batches (All-tail (λ n. doc_in g n ≡ doc_in h n) b.doc (docs_of batches) same))

pub joint_refusal_same : (g h : FlatGroup) (batches : List FlatBatch) → HaveSame g h (docs_of batches) → joint_refusal g batches ≡ joint_refusal h batches
joint_refusal_same g h batches same =
    ap (λ t. if names_badly (docs_of batches) then Some unknown else t)
    (ap₂ (λ s t. if s then Some range else t) (some_refused_same range g h batches same)
    (ap₂ (λ s t. if s then Some overlap else t) (some_refused_same overlap g h batches same)
    (ap (λ s. if s then Some limit else None) (some_refused_same limit g h batches same))))

lost_same : (g h : FlatGroup) (batches : List FlatBatch) → HaveSame g h (docs_of batches) → lost_by_joint g batches ≡ lost_by_joint h batches
lost_same g h [] same = refl
lost_same g h (b ∷ batches) same =
    ap₂ (λ s t. s ++ t) (ap lost_by_change (All-head (λ n. doc_in g n ≡ doc_in h n) b.doc (docs_of batches) same))
    (lost_same g h batches (All-tail (λ n. doc_in g n ≡ doc_in h n) b.doc (docs_of batches) same))

tag_same : (g h : FlatGroup) (batches : List FlatBatch) → length g ≡ length h → length g ≡ DOC_COUNT → HaveSame g h (docs_of batches)
    → tag_of g batches ≡ tag_of h batches
tag_same g h batches long all same =
    let past : doc_in g DOC_COUNT ≡ doc_in h DOC_COUNT = doc_in_past g DOC_COUNT (omega arith) ∙ sym (doc_in_past h DOC_COUNT (omega arith)) in
    let least = least_kept (λ n. doc_in g n ≡ doc_in h n) batches past same in
    ap (λ (f : FlatState). record { least = least_of batches; version = f.version + 1; members = (tag_of g batches).members }) least

pub SameIn-joined : (set : ℕ → Bool) (g h : FlatGroup) (batches : List FlatBatch) → SameIn set g h → All (λ n. set n ≡ true) (docs_of batches)
    → SameIn set (joined g batches) (joined h batches)
SameIn-joined set g h batches a on =
    let same = HaveSame-in set g h (docs_of batches) a on in
    let tag = tag_same g h batches (a.left ∙ sym a.right) a.left same in
    let lost = lost_same g h batches same in
    SameIn-each set g h (λ n f. joined_doc (tag_of g batches) (lost_by_joint g batches) n f (batch_for n batches))
    (λ n f. joined_doc (tag_of h batches) (lost_by_joint h batches) n f (batch_for n batches)) a
    (λ n on. ap₂ (λ t l. joined_doc t l n (doc_in g n) (batch_for n batches)) tag lost)

-- ---- undo and redo of a tag

-- the members of the tag are the same in both, where the first document has the number n
abbrev SameMembers : ℕ → Tag → FlatGroup → FlatGroup → Type 0
SameMembers n tag g h = (k m : ℕ) → m ≡ n + k → is_member m tag ≡ true → doc_in g k ≡ doc_in h k

members_next : (n : ℕ) (tag : Tag) (f f' : FlatState) (g h : FlatGroup) → SameMembers n tag (f ∷ g) (f' ∷ h) → SameMembers (suc n) tag g h
members_next n tag f f' g h same k m at member = same (suc k) m (omega arith) member

and_same : (b x y : Bool) → (b ≡ true → x ≡ y) → (b && x) ≡ (b && y)
and_same true x y same = same refl
and_same false x y same = refl

last_same : (n : ℕ) (tag : Tag) (g h : FlatGroup) → length g ≡ length h → SameMembers n tag g h → some_last_from n tag g ≡ some_last_from n tag h
last_same n tag [] [] long same = refl
last_same n tag [] (f' ∷ h) long same = absurd (omega arith)
last_same n tag (f ∷ g) [] long same = absurd (omega arith)
last_same n tag (f ∷ g) (f' ∷ h) long same =
    ap₂ (λ s t. s || t) (and_same (is_member n tag) _ _ (λ member. ap is_last_version (same 0 n (omega arith) member)))
    (last_same (suc n) tag g h (omega arith) (members_next n tag f f' g h same))

next_same : (n : ℕ) (going : Going) (tag : Tag) (g h : FlatGroup) → length g ≡ length h → SameMembers n tag g h
    → other_next_from n going tag g ≡ other_next_from n going tag h
next_same n going tag [] [] long same = refl
next_same n going tag [] (f' ∷ h) long same = absurd (omega arith)
next_same n going tag (f ∷ g) [] long same = absurd (omega arith)
next_same n going tag (f ∷ g) (f' ∷ h) long same =
    ap₂ (λ s t. if s then Some n else t)
    (and_same (is_member n tag) _ _ (λ member. ap (λ d. not (is_front tag (going.steps d))) (same 0 n (omega arith) member)))
    (next_same (suc n) going tag g h (omega arith) (members_next n tag f f' g h same))

-- all members of the tag are of the set
abbrev pub IsInside : (ℕ → Bool) → Tag → Type 0
IsInside set tag = (n : ℕ) → is_member n tag ≡ true → set n ≡ true

module _ (set : ℕ → Bool) (going : Going) (tag : Tag) (g h : FlatGroup) (inside : IsInside set tag) (a : SameIn set g h) where
  same_members : SameMembers 0 tag g h
  same_members k m at member = a.same k (subst (λ i. set i ≡ true) (omega arith) (inside m member))

  pub some_last_same : some_last_from 0 tag g ≡ some_last_from 0 tag h
  some_last_same = last_same 0 tag g h (a.left ∙ sym a.right) same_members

  pub other_next_same : other_next_from 0 going tag g ≡ other_next_from 0 going tag h
  other_next_same = next_same 0 going tag g h (a.left ∙ sym a.right) same_members

pub SameIn-all_gone : (set : ℕ → Bool) (going : Going) (g h : FlatGroup) (tag : Tag) → SameIn set g h
    → SameIn set (all_gone going g tag) (all_gone going h tag)
SameIn-all_gone set going g h tag a =
    let change = λ (n : ℕ) (f : FlatState). if is_member n tag then gone_or_same f (going.rule f) else f in
    SameIn-each set g h change change a (λ n on. refl)
