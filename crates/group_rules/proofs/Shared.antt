-- Each call on one document keeps the tags that documents share in order.
use Rattle.std.proofs.Common.{◌≡◌, ℕ, zero, suc, ◌+◌, ◌<◌, ◌≤◌, ◌≢◌, not, nat_lt, arith, Bool, true, false, List, [], length, filter, replicate, Option, Some, None, Result, Ok, Err, refl, sym, ap, subst, ◌∙◌, ⊎_elim, le_refl}
use Rattle.std.proofs.lemmas.Bool.{cases_eq, lt-ltb, le-ltb}
use Rattle.unit_text.specs.declared.kind.Kind.{Kind}
use Rattle.unit_text.specs.Kinds.{normalized}
use Rattle.text_rules.specs.declared.Op.{Op}
use Rattle.batch_rules.specs.Batches.{most_units}
use Rattle.hiding_rules.specs.Hidden.{Scanner}
use Rattle.undo_rules.specs.declared.Tag.{Tag}
use Rattle.undo_rules.specs.Stack.{Step}
use Rattle.document_rules.specs.Refusals.{FlatRefusal}
use Rattle.document_rules.specs.Document.{FlatChange, FlatState, empty_document, flat_open, flat_edit, flat_eol}
use Rattle.search_rules.specs.Replacing.{flat_replace_all}
use Rattle.group_rules.specs.declared.TheConstants.{DOC_COUNT}
use Rattle.group_rules.specs.Group.{FlatGroup, new_group, doc_in, with_doc, each_from, tags_of, lost_by_change, lost_by_open, without_tags, with_changed, changed_in, moved_in, group_open, group_edit, group_eol, group_replace_all}
use Rattle.group_rules.specs.Shared.{times, undo_tags, redo_tags, versions_in, AreInOrder, AreShared}
use Rattle.group_rules.proofs.Times.{filter_same, filter_all, filter_none}
use Rattle.group_rules.proofs.InOrder.{AreInOrder-alike, AreInOrder-filter}
use Rattle.group_rules.proofs.Losing.{is_lost, lost_in, tags_of-losing, without_tags-is, lost_in-member}
use Rattle.group_rules.proofs.Changed.{IsChanged, accepted_value, changed_edit, changed_eol, changed_replace_all}
use Rattle.group_rules.proofs.Places.{doc_in-with_same, doc_in-with_other, doc_in-each, length-each_from, with_doc_kept}
use Rattle.group_rules.proofs.AllSteps.{times-all_steps}
use Rattle.group_rules.specs.Going.{undoing, redoing}

-- a document that has as many tags as it had, in its two lists of steps, and is in no lower version
pub record IsAlike (from to : FlatState → List (Step FlatChange)) (old new : FlatState) : Type 0 where
  pub taken : tags_of (from new) ≡ tags_of (from old)
  pub put : tags_of (to new) ≡ tags_of (to old)
  pub version : old.version ≤ new.version

-- the tags of these steps in each document
abbrev pub tags_by : (FlatState → List (Step FlatChange)) → FlatGroup → ℕ → List Tag
tags_by steps g n = tags_of (steps (doc_in g n))

pub AreInOrder-same : (from to : FlatState → List (Step FlatChange)) (g h : FlatGroup) → AreInOrder (tags_by from g) (tags_by to g) (versions_in g)
    → ((n : ℕ) → n < DOC_COUNT → IsAlike from to (doc_in g n) (doc_in h n)) → AreInOrder (tags_by from h) (tags_by to h) (versions_in h)
AreInOrder-same from to g h a alike =
    AreInOrder-alike (tags_by from g) (tags_by to g) (tags_by from h) (tags_by to h) (versions_in g) (versions_in h) a
    (λ n below. (alike n below).taken) (λ n below. (alike n below).put) (λ n tag below there. (alike n below).version)

pub AreInOrder-with_doc : (from to : FlatState → List (Step FlatChange)) (g : FlatGroup) (n : ℕ) (f : FlatState)
    → AreInOrder (tags_by from g) (tags_by to g) (versions_in g) → IsAlike from to (doc_in g n) f
    → AreInOrder (tags_by from (with_doc g n f)) (tags_by to (with_doc g n f)) (versions_in (with_doc g n f))
AreInOrder-with_doc from to g n f a alike =
    let each = with_doc_kept (λ k d. IsAlike from to (doc_in g k) d) g n f
    (λ k. record { taken = refl; put = refl; version = le_refl (doc_in g k).version }) alike in
    AreInOrder-same from to g (with_doc g n f) a (λ k below. each k)

-- A change of a document that leaves the tags of its steps, and does not lower its version.
pub shared_alike : (g : FlatGroup) (n : ℕ) (f : FlatState) → AreShared g → IsAlike undoing.steps redoing.steps (doc_in g n) f
    → AreShared (with_doc g n f)
shared_alike g n f s alike = record { in_order = AreInOrder-with_doc undoing.steps redoing.steps g n f s.in_order alike }

pub shared_new : AreShared new_group
shared_new = record {
  in_order = AreInOrder-alike (λ n. []) (λ n. []) (undo_tags new_group) (redo_tags new_group) (versions_in new_group) (versions_in new_group)
      (record {
        own = λ n tag below there. absurd (omega (arith, there));
        once = λ n tag below. omega arith;
        undo = λ n k below_n below_k. refl;
        redo = λ n k below_n below_k. refl;
      })
      (λ n below. ap (λ (f : FlatState). tags_of f.history.undo) (new_doc DOC_COUNT n))
      (λ n below. ap (λ (f : FlatState). tags_of f.history.redo) (new_doc DOC_COUNT n)) (λ n tag below there. le_refl (versions_in new_group n));
}
  where
    new_doc : (count n : ℕ) → doc_in (replicate count empty_document) n ≡ empty_document
    new_doc zero n = refl
    new_doc (suc count) zero = refl
    new_doc (suc count) (suc n) = new_doc count n

-- the tags that are left
abbrev pub left : List Tag → Tag → Bool
left lost tag = not (is_lost lost tag)

-- a document lost the tags, and is in no lower version if it still has others
pub record IsLess (lost : List Tag) (old new : FlatState) : Type 0 where
  pub undo : tags_of new.history.undo ≡ filter (left lost) (tags_of old.history.undo)
  pub redo : tags_of new.history.redo ≡ filter (left lost) (tags_of old.history.redo)
  pub later : (tag : Tag) → 0 < times tag (tags_of new.history.undo) + times tag (tags_of new.history.redo) → old.version ≤ new.version

shared_less : (g h : FlatGroup) (lost : List Tag) → AreShared g → ((n : ℕ) → n < DOC_COUNT → IsLess lost (doc_in g n) (doc_in h n)) → AreShared h
shared_less g h lost s less = record {
  in_order = AreInOrder-alike (λ n. filter (left lost) (undo_tags g n)) (λ n. filter (left lost) (redo_tags g n)) (undo_tags h) (redo_tags h)
      (versions_in g) (versions_in h) (AreInOrder-filter (left lost) (undo_tags g) (redo_tags g) (versions_in g) s.in_order)
      (λ n below. (less n below).undo) (λ n below. (less n below).redo) (λ n tag below there. (less n below).later tag there);
}

left_none : (lost : List Tag) (tag : Tag) → 0 < times tag lost → left lost tag ≡ false
left_none lost tag there = ap not (lt-ltb 0 (times tag lost) there)

left_some : (lost : List Tag) (tag : Tag) → times tag lost ≡ 0 → left lost tag ≡ true
left_some lost tag none = ap not (le-ltb 0 (times tag lost) (omega (arith, none)))

-- none of these tags is lost; all of them are
pub filter_left : (lost tags : List Tag) → ((tag : Tag) → 0 < times tag tags → times tag lost ≡ 0) → filter (left lost) tags ≡ tags
filter_left lost tags none =
    filter_same (left lost) (λ tag. true) tags (λ tag there. left_some lost tag (none tag there)) ∙ filter_all tags

pub filter_lost : (lost tags : List Tag) → ((tag : Tag) → 0 < times tag tags → 0 < times tag lost) → filter (left lost) tags ≡ []
filter_lost lost tags all =
    filter_same (left lost) (λ tag. false) tags (λ tag there. left_none lost tag (all tag there)) ∙ filter_none tags

-- another document than the one that is changed
pub other_less : (g : FlatGroup) (lost : List Tag) (k : ℕ) → AreShared g → k < DOC_COUNT → IsLess lost (doc_in g k) (without_tags lost k (doc_in g k))
other_less g lost k s below =
    let f = doc_in g k in
    let own = s.in_order.own k in
    subst (IsLess lost f) (sym (without_tags-is lost k f)) (record {
      undo = tags_of-losing (lost_in lost k) f.history.undo
          ∙ filter_same (λ tag. not (lost_in lost k tag)) (left lost) (undo_tags g k)
          (λ tag there. ap not (lost_in-member lost k tag (own tag below (omega (arith, there))).member));
      redo = tags_of-losing (lost_in lost k) f.history.redo
          ∙ filter_same (λ tag. not (lost_in lost k tag)) (left lost) (redo_tags g k)
          (λ tag there. ap not (lost_in-member lost k tag (own tag below (omega (arith, there))).member));
      later = λ tag there. le_refl f.version;
    })

pub shared_with_changed : (g : FlatGroup) (lost : List Tag) (n : ℕ) (f : FlatState) → AreShared g → length g ≡ DOC_COUNT → n < DOC_COUNT
    → IsLess lost (doc_in g n) f → AreShared (with_changed g lost n f)
shared_with_changed g lost n f s long below less =
    shared_less g (with_changed g lost n f) lost s (λ k below_k. ⊎_elim (λ e. here k e) (λ other. beside k below_k other) (cases_eq k n))
  where
    here : (k : ℕ) → k ≡ n → IsLess lost (doc_in g k) (doc_in (with_changed g lost n f) k)
    here k e =
        subst (λ i. IsLess lost (doc_in g i) (doc_in (with_changed g lost n f) i)) (sym e)
        (subst (IsLess lost (doc_in g n))
        (sym (doc_in-with_same (each_from 0 (without_tags lost) g) n f (omega (arith, length-each_from 0 (without_tags lost) g)))) less)

    beside : (k : ℕ) → k < DOC_COUNT → k ≢ n → IsLess lost (doc_in g k) (doc_in (with_changed g lost n f) k)
    beside k below_k other =
        subst (IsLess lost (doc_in g k))
        (sym (doc_in-with_other (each_from 0 (without_tags lost) g) n k f other ∙ doc_in-each (without_tags lost) g k (omega arith)))
        (other_less g lost k s below_k)

-- ---- a change of one document

pub changed_less : (g : FlatGroup) (n : ℕ) (f : FlatState) → AreShared g → n < DOC_COUNT → IsChanged (doc_in g n) f
    → IsLess (lost_by_change (doc_in g n)) (doc_in g n) f
changed_less g n f s below changed = record {
  undo = changed.undo
      ∙ sym (filter_left (redo_tags g n) (undo_tags g n) (λ tag there. omega (arith, there, s.in_order.once n tag below)));
  redo = ap tags_of changed.redo ∙ sym (filter_lost (redo_tags g n) (redo_tags g n) (λ tag there. there));
  later = λ tag there. changed.version;
}

shared_changed_in : (g h : FlatGroup) (lost : List Tag) (n : ℕ) (r : Result FlatState FlatRefusal) → AreShared g → length g ≡ DOC_COUNT
    → n < DOC_COUNT → ((f : FlatState) → r ≡ Ok f → IsLess lost (doc_in g n) f) → changed_in g lost n r ≡ Ok h → AreShared h
shared_changed_in g h lost n (Err why) s long below less done = absurd cc
shared_changed_in g h lost n (Ok f) s long below less done =
    let is : with_changed g lost n f ≡ h = cc in subst AreShared is (shared_with_changed g lost n f s long below (less f refl))

shared_moved_in : (g h : FlatGroup) (lost : List Tag) (n : ℕ) (r : Result (Option FlatState) FlatRefusal) → AreShared g → length g ≡ DOC_COUNT
    → n < DOC_COUNT → ((f : FlatState) → r ≡ Ok (Some f) → IsLess lost (doc_in g n) f) → moved_in g lost n r ≡ Ok (Some h) → AreShared h
shared_moved_in g h lost n (Err why) s long below less done = absurd cc
shared_moved_in g h lost n (Ok None) s long below less done = absurd cc
shared_moved_in g h lost n (Ok (Some f)) s long below less done =
    let is : with_changed g lost n f ≡ h = cc in subst AreShared is (shared_with_changed g lost n f s long below (less f refl))

opened_less : (old f : FlatState) (text : List ℕ) (scanner : Scanner) (kind : Kind) → flat_open text scanner kind ≡ Ok f
    → IsLess (lost_by_open old) old f
opened_less old f text scanner kind done =
    accepted_value (IsLess (lost_by_open old) old) (nat_lt most_units (length (normalized kind text))) _ f done (record {
      undo = sym (filter_lost (lost_by_open old) (tags_of old.history.undo) (λ tag there. omega (arith, there, times-all_steps tag old.history)));
      redo = sym (filter_lost (lost_by_open old) (tags_of old.history.redo) (λ tag there. omega (arith, there, times-all_steps tag old.history)));
      later = λ tag there. absurd (omega (arith, there));
    })

module _ (g h : FlatGroup) (n : ℕ) (s : AreShared g) (long : length g ≡ DOC_COUNT) (below : n < DOC_COUNT) where
  pub shared_open : (text : List ℕ) (scanner : Scanner) (kind : Kind) → group_open g n text scanner kind ≡ Ok h → AreShared h
  shared_open text scanner kind done =
      shared_changed_in g h (lost_by_open (doc_in g n)) n (flat_open text scanner kind) s long below
      (λ f e. opened_less (doc_in g n) f text scanner kind e) done

  pub shared_edit : (ops : List Op) → group_edit g n ops ≡ Ok h → AreShared h
  shared_edit ops done =
      shared_changed_in g h (lost_by_change (doc_in g n)) n (flat_edit (doc_in g n) ops) s long below
      (λ f e. changed_less g n f s below (changed_edit (doc_in g n) f ops e)) done

  pub shared_eol : (kind : Kind) → group_eol g n kind ≡ Ok (Some h) → AreShared h
  shared_eol kind done =
      shared_moved_in g h (lost_by_change (doc_in g n)) n (flat_eol (doc_in g n) kind) s long below
      (λ f e. changed_less g n f s below (changed_eol (doc_in g n) f kind e)) done

  pub shared_replace_all : (sought text : List ℕ) → group_replace_all g n sought text ≡ Ok (Some h) → AreShared h
  shared_replace_all sought text done =
      shared_moved_in g h (lost_by_change (doc_in g n)) n (flat_replace_all (doc_in g n) sought text) s long below
      (λ f e. changed_less g n f s below (changed_replace_all (doc_in g n) f sought text e)) done
