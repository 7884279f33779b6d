-- Changes of the tags of all documents that leave what these share in order.
use Rattle.std.proofs.Common.{◌≡◌, ℕ, ◌+◌, ◌<◌, ◌≤◌, ◌&&◌, arith, Bool, true, false, if◌then◌else◌, List, [], ◌∷◌, filter, refl, sym, ap, ap₂, subst, ◌∙◌, ⊎_elim}
use Rattle.std.proofs.lemmas.Bool.{cases_lt}
use Rattle.undo_rules.specs.declared.Tag.{Tag}
use Rattle.undo_rules.specs.Tags.{is_same_tag, is_member}
use Rattle.group_rules.specs.declared.TheConstants.{DOC_COUNT}
use Rattle.group_rules.specs.Shared.{times, shared_with, InOneOrder, IsOf, AreInOrder}
use Rattle.group_rules.proofs.Times.{same_tag, times-append, times_same, times_other, times-filter_in, times-filter-le, filter_comm}

IsOf-later : (old new : ℕ → ℕ) (n : ℕ) (tag : Tag) → IsOf old n tag → old tag.least ≤ new tag.least → IsOf new n tag
IsOf-later old new n tag is later = record { member = is.member; there = is.there; least = is.least; known = omega (arith, is.known) }

-- a tag of two documents occurs equally often in both
pub same_times : (tags : ℕ → List Tag) (n k : ℕ) (tag : Tag) → InOneOrder tags → n < DOC_COUNT → k < DOC_COUNT → is_member n tag ≡ true
    → is_member k tag ≡ true → times tag (tags n) ≡ times tag (tags k)
same_times tags n k tag order below_n below_k of_n of_k =
    sym (times-filter_in (is_member k) tag (tags n) of_k) ∙ ap (times tag) (order n k below_n below_k)
    ∙ times-filter_in (is_member n) tag (tags k) of_n

-- what can be undone and what can be redone are alike
pub AreInOrder-swap : (undos redos : ℕ → List Tag) (versions : ℕ → ℕ) → AreInOrder undos redos versions → AreInOrder redos undos versions
AreInOrder-swap undos redos versions a = record {
  own = λ n tag below there. a.own n tag below (omega (arith, there));
  once = λ n tag below. omega (arith, a.once n tag below);
  undo = a.redo;
  redo = a.undo;
}

-- the same tags, where a document that has some is in no lower version
pub AreInOrder-alike : (undos redos undos' redos' : ℕ → List Tag) (versions versions' : ℕ → ℕ) → AreInOrder undos redos versions
    → ((n : ℕ) → n < DOC_COUNT → undos' n ≡ undos n) → ((n : ℕ) → n < DOC_COUNT → redos' n ≡ redos n)
    → ((n : ℕ) (tag : Tag) → n < DOC_COUNT → 0 < times tag (undos' n) + times tag (redos' n) → versions n ≤ versions' n)
    → AreInOrder undos' redos' versions'
AreInOrder-alike undos redos undos' redos' versions versions' a same_undos same_redos later =
    record { own = own; once = once; undo = order undos undos' a.undo same_undos; redo = order redos redos' a.redo same_redos }
  where
    both : (n : ℕ) (tag : Tag) → n < DOC_COUNT → times tag (undos' n) + times tag (redos' n) ≡ times tag (undos n) + times tag (redos n)
    both n tag below = ap₂ (λ s t. times tag s + times tag t) (same_undos n below) (same_redos n below)

    own : (n : ℕ) (tag : Tag) → n < DOC_COUNT → 0 < times tag (undos' n) + times tag (redos' n) → IsOf versions' n tag
    own n tag below there =
        let is = a.own n tag below (omega (arith, there, both n tag below)) in
        let undone = same_times undos n tag.least tag a.undo below is.there is.member is.least in
        let redone = same_times redos n tag.least tag a.redo below is.there is.member is.least in
        IsOf-later versions versions' n tag is
        (later tag.least tag is.there (omega (arith, there, both n tag below, both tag.least tag is.there, undone, redone)))

    once : (n : ℕ) (tag : Tag) → n < DOC_COUNT → times tag (undos' n) + times tag (redos' n) ≤ 1
    once n tag below = omega (arith, both n tag below, a.once n tag below)

    order : (tags tags' : ℕ → List Tag) → InOneOrder tags → ((n : ℕ) → n < DOC_COUNT → tags' n ≡ tags n) → InOneOrder tags'
    order tags tags' old same n k below_n below_k =
        ap (shared_with k) (same n below_n) ∙ old n k below_n below_k ∙ sym (ap (shared_with n) (same k below_k))

-- ---- tags that go

pub AreInOrder-filter : (left : Tag → Bool) (undos redos : ℕ → List Tag) (versions : ℕ → ℕ) → AreInOrder undos redos versions
    → AreInOrder (λ n. filter left (undos n)) (λ n. filter left (redos n)) versions
AreInOrder-filter left undos redos versions a = record {
  own = λ n tag below there.
      a.own n tag below (omega (arith, there, times-filter-le left tag (undos n), times-filter-le left tag (redos n)));
  once = λ n tag below. omega (arith, a.once n tag below, times-filter-le left tag (undos n), times-filter-le left tag (redos n));
  undo = order undos a.undo;
  redo = order redos a.redo;
}
  where
    order : (tags : ℕ → List Tag) → InOneOrder tags → InOneOrder (λ n. filter left (tags n))
    order tags old n k below_n below_k =
        filter_comm (is_member k) left (tags n) ∙ ap (filter left) (old n k below_n below_k) ∙ filter_comm left (is_member n) (tags k)

-- ---- a tag that comes

-- the tag before those of each of its documents
abbrev pub put : Tag → (ℕ → List Tag) → ℕ → List Tag
put tag tags n = if is_member n tag then tag ∷ tags n else tags n

shared-put : (tag : Tag) (tags : ℕ → List Tag) (n k : ℕ)
    → shared_with k (put tag tags n) ≡ (if is_member n tag && is_member k tag then tag ∷ shared_with k (tags n) else shared_with k (tags n))
shared-put tag tags n k = by (is_member n tag)
  where
    by : (b : Bool) → shared_with k (if b then tag ∷ tags n else tags n)
        ≡ (if b && is_member k tag then tag ∷ shared_with k (tags n) else shared_with k (tags n))
    by true = refl
    by false = refl

both_members : (tag : Tag) (n k : ℕ) → (is_member n tag && is_member k tag) ≡ (is_member k tag && is_member n tag)
both_members tag n k = by (is_member n tag) (is_member k tag)
  where
    by : (s t : Bool) → (s && t) ≡ (t && s)
    by true true = refl
    by true false = refl
    by false true = refl
    by false false = refl

InOneOrder-put : (tag : Tag) (tags : ℕ → List Tag) → InOneOrder tags → InOneOrder (put tag tags)
InOneOrder-put tag tags order n k below_n below_k =
    shared-put tag tags n k ∙ ap₂ (λ b rest. if b then tag ∷ rest else rest) (both_members tag n k) (order n k below_n below_k)
    ∙ sym (shared-put tag tags k n)

InOneOrder-put_back : (tag : Tag) (tags : ℕ → List Tag) → InOneOrder (put tag tags) → InOneOrder tags
InOneOrder-put_back tag tags order n k below_n below_k =
    by (is_member k tag && is_member n tag)
    (ap (λ b. if b then tag ∷ shared_with k (tags n) else shared_with k (tags n)) (sym (both_members tag n k)) ∙ sym (shared-put tag tags n k)
    ∙ order n k below_n below_k ∙ shared-put tag tags k n)
  where
    by : (b : Bool)
        → (if b then tag ∷ shared_with k (tags n) else shared_with k (tags n)) ≡ (if b then tag ∷ shared_with n (tags k) else shared_with n (tags k))
        → shared_with k (tags n) ≡ shared_with n (tags k)
    by true same = cc
    by false same = same

-- A step that comes next in all documents of its tag moves from one list to the other.
pub AreInOrder-moved : (tag : Tag) (undos redos : ℕ → List Tag) (versions : ℕ → ℕ) → AreInOrder (put tag undos) redos versions
    → AreInOrder undos (put tag redos) versions
AreInOrder-moved tag undos redos versions a = record {
  own = λ n other below there. a.own n other below (omega (arith, there, both n other));
  once = λ n other below. omega (arith, a.once n other below, both n other);
  undo = InOneOrder-put_back tag undos a.undo;
  redo = InOneOrder-put tag redos a.redo;
}
  where
    both : (n : ℕ) (other : Tag) → times other (put tag undos n) + times other (redos n) ≡ times other (undos n) + times other (put tag redos n)
    both n other = by (is_member n tag)
      where
        by : (b : Bool) → times other (if b then tag ∷ undos n else undos n) + times other (redos n)
            ≡ times other (undos n) + times other (if b then tag ∷ redos n else redos n)
        by true = omega (arith, times-append other (tag ∷ []) (undos n), times-append other (tag ∷ []) (redos n))
        by false = refl

-- a tag with a version that its least document had not
pub AreInOrder-put : (tag : Tag) (undos redos : ℕ → List Tag) (versions versions' : ℕ → ℕ) → AreInOrder undos redos versions
    → ((n : ℕ) → n < DOC_COUNT → versions n ≤ versions' n) → versions tag.least < tag.version
    → ((n : ℕ) → n < DOC_COUNT → is_member n tag ≡ true → IsOf versions' n tag) → AreInOrder (put tag undos) redos versions'
AreInOrder-put tag undos redos versions versions' a later new is =
    record { own = own; once = once; undo = InOneOrder-put tag undos a.undo; redo = a.redo }
  where
    -- the tag occurred in no document
    none : (n : ℕ) → n < DOC_COUNT → times tag (undos n) + times tag (redos n) ≡ 0
    none n below =
        ⊎_elim (λ there. let was = a.own n tag below there in absurd (omega (arith, new, was.known))) (λ no. omega (arith, no))
        (cases_lt 0 (times tag (undos n) + times tag (redos n)))

    old : (n : ℕ) (other : Tag) → n < DOC_COUNT → 0 < times other (undos n) + times other (redos n) → IsOf versions' n other
    old n other below there = let was = a.own n other below there in IsOf-later versions versions' n other was (later other.least was.there)

    own : (n : ℕ) (other : Tag) → n < DOC_COUNT → 0 < times other (put tag undos n) + times other (redos n) → IsOf versions' n other
    own n other below there = by (is_member n tag) (is_same_tag other tag) refl refl there
      where
        by : (b s : Bool) → is_member n tag ≡ b → is_same_tag other tag ≡ s
            → 0 < times other (if b then tag ∷ undos n else undos n) + times other (redos n) → IsOf versions' n other
        by true true eb es there = subst (IsOf versions' n) (sym (same_tag other tag es)) (is n below eb)
        by true false eb es there = old n other below (omega (arith, there, times_other other tag (undos n) es))
        by false s eb es there = old n other below there

    once : (n : ℕ) (other : Tag) → n < DOC_COUNT → times other (put tag undos n) + times other (redos n) ≤ 1
    once n other below = by (is_member n tag) (is_same_tag other tag) refl
      where
        by : (b s : Bool) → is_same_tag other tag ≡ s → times other (if b then tag ∷ undos n else undos n) + times other (redos n) ≤ 1
        by true true es =
            let e = same_tag other tag es in
            omega (
              arith,
              subst (λ o. times o (undos n) + times o (redos n) ≡ 0) (sym e) (none n below),
              times_same other tag (undos n) es,
            )
        by true false es = omega (arith, a.once n other below, times_other other tag (undos n) es)
        by false s es = a.once n other below
