-- Tags that are lost one after another, and the group that a change makes after that.
use Rattle.std.proofs.Common.{◌≡◌, ◌≢◌, ℕ, zero, suc, ◌+◌, ◌-◌, ◌^◌, ◌<◌, ◌≤◌, ◌||◌, ◌&&◌, ◌==◌, not, max, arith, set, Bool, true, false, if◌then◌else◌, List, [], ◌∷◌, ◌++◌, length, reverse, take, drop, Option, Some, option_to_list, option_and_then, slice_get, All, true≢false, refl, sym, subst, ap, ◌∙◌, ⊎_elim}
use Rattle.std.specs.Int.{bit_at}
use Rattle.std.specs.Int.RustNames.{bit_or}
use Rattle.std.specs.List.{filter, flat_map}
use Rattle.std.proofs.Math.Bool.{or-false}
use Rattle.std.proofs.lemmas.List.{append_assoc, append-nil, length-append, length-set, length-drop, length-reverse, take_all, drop_at}
use Rattle.std.proofs.lemmas.List.Elements.{filter-append}
use Rattle.std.proofs.lemmas.List.Folds.{list_any-append}
use Rattle.std.proofs.lemmas.Bool.{cases_eq, or_parts}
use Rattle.std.proofs.lemmas.Nat.Bits.{bit_at-pow_same, bit_at-pow_other, bit_at-zero, bit_at_or, bit_at-lt}
use Rattle.std.proofs.lemmas.Option.{slice_get_within}
use Rattle.undo_rules.specs.declared.Tag.{Tag}
use Rattle.undo_rules.specs.Stack.{Step, Stack}
use Rattle.undo_rules.specs.Tags.{all_steps, is_member}
use Rattle.document_rules.specs.Document.{FlatChange, FlatState, flat_untag, flat_untag_last}
use Rattle.group_rules.specs.declared.TheConstants.{DOC_COUNT}
use Rattle.group_rules.specs.Group.{doc_in, each_from, tags_of, lost_by_change, without_tags, with_changed}
use Rattle.group_rules.specs.Shared.{times, shared_with}
use Rattle.group_rules.specs.Together.{members_of_any}
use Rattle.group_rules.proofs.Last.{lose_last_after, lost_before}
use Rattle.group_rules.proofs.Places.{length-each_from}
use Rattle.group_rules.proofs.Shared.{left}
use Rattle.group_rules.proofs.Times.{filter_same}
use Rattle.model_core.specs.State.{ModelState, KeepsParse}
use Rattle.model_group.specs.declared.ready.DocReady.{DocReady}
use Rattle.model_group.specs.State.{GroupState, OnDoc, IsGroup, documents}
use Rattle.model_group.specs.Losing.{has_doc, Names, LosesTags, LoseTags, tags_from, is_left, left_count, IsNext}
use Rattle.model_group.proofs.Lists.{item_within, same_beside, slice_get-drop, slice_get-each, length-documents, document_at, doc_in-is, doc_in-same, documents-set, done_on}
use Rattle.model_group.proofs.Parses.{KeepsParse-same, KeepsParse-then}
use Rattle.model_group.proofs.Committing.{beside, each_on}

-- ---- tags of steps

-- the tag of the step of this number
abbrev tag_of_step : List (Step FlatChange) → ℕ → Option Tag
tag_of_step steps k = option_and_then (λ (step : Step FlatChange). step.tag) (slice_get steps k)

-- one more of the first ones
tags_of-take : (steps : List (Step FlatChange)) (k : ℕ) → k < length steps
    → tags_of (take (suc k) steps) ≡ tags_of (take k steps) ++ option_to_list (tag_of_step steps k)
tags_of-take [] k lt = absurd (omega arith)
tags_of-take (step ∷ steps) zero lt = append-nil (option_to_list step.tag)
tags_of-take (step ∷ steps) (suc k) lt =
    ap (λ (tags : List Tag). option_to_list step.tag ++ tags) (tags_of-take steps k (omega arith))
    ∙ sym (append_assoc (option_to_list step.tag) (tags_of (take k steps)) (option_to_list (tag_of_step steps k)))

-- the tags of the steps from `first` on, as far as the step of the number k
abbrev pub tags_between : List (Step FlatChange) → ℕ → ℕ → List Tag
tags_between steps first k = tags_of (take (k - first) (drop first steps))

pub tags_between-all : (steps : List (Step FlatChange)) (first k : ℕ) → length steps ≤ k → tags_between steps first k ≡ tags_of (drop first steps)
tags_between-all steps first k past = ap tags_of (take_all (k - first) (drop first steps) (omega (arith, length-drop first steps)))

pub tags_between-more : (steps : List (Step FlatChange)) (first k : ℕ) → first ≤ k → k < length steps
    → tags_between steps first (k + 1) ≡ tags_between steps first k ++ option_to_list (tag_of_step steps k)
tags_between-more steps first k from lt =
    let more : k + 1 - first ≡ suc (k - first) = omega arith in
    let there : first + (k - first) ≡ k = omega arith in
    ap (λ n. tags_of (take n (drop first steps))) more
    ∙ tags_of-take (drop first steps) (k - first) (omega (arith, length-drop first steps))
    ∙ ap (λ (tag : Option Tag). tags_between steps first k ++ option_to_list tag)
    (ap (option_and_then (λ (step : Step FlatChange). step.tag)) (slice_get-drop first steps (k - first) ∙ ap (slice_get steps) there))

-- what could be redone are the last of all steps
pub redo_steps : (s : Stack FlatChange) → drop (length s.undo) (all_steps s) ≡ s.redo
redo_steps s = drop_at (reverse s.undo) s.redo (length s.undo) (length-reverse s.undo)

pub length-all_steps : (s : Stack FlatChange) → length (all_steps s) ≡ length s.undo + length s.redo
length-all_steps s = omega (arith, length-append (reverse s.undo) s.redo, length-reverse s.undo)

-- ---- sets of documents

pub has_doc-one : (n : ℕ) → has_doc (2 ^ n) n ≡ true
has_doc-one n = rw (bit_at-pow_same n) refl

pub has_doc-other : (n k : ℕ) → k ≢ n → has_doc (2 ^ n) k ≡ false
has_doc-other n k other = rw (bit_at-pow_other n k other) refl

has_doc-or : (a b n : ℕ) → has_doc (bit_or a b) n ≡ (has_doc a n || has_doc b n)
has_doc-or a b n = ap (λ bit. bit == 1) (bit_at_or a b n) ∙ by (bit_at a n) (bit_at b n) (bit_at-lt a n) (bit_at-lt b n)
  where
    by : (x y : ℕ) → x < 2 → y < 2 → (max x y == 1) ≡ ((x == 1) || (y == 1))
    by zero zero p q = refl
    by zero (suc zero) p q = refl
    by (suc zero) zero p q = refl
    by (suc zero) (suc zero) p q = refl
    by zero (suc (suc y)) p q = absurd (omega arith)
    by (suc zero) (suc (suc y)) p q = absurd (omega arith)
    by (suc (suc x)) y p q = absurd (omega arith)

pub names_none : Names [] 0
names_none n = ap (λ bit. bit == 1) (bit_at-zero n)

pub names_one : (tag : Tag) → Names (tag ∷ []) tag.members
names_one tag n = sym (or-false (is_member n tag))

pub names_both : (xs ys : List Tag) (a b : ℕ) → Names xs a → Names ys b → Names (xs ++ ys) (bit_or a b)
names_both xs ys a b first next n =
    has_doc-or a b n ∙ ap (λ t. t || has_doc b n) (first n) ∙ ap (λ t. members_of_any xs n || t) (next n)
    ∙ sym (list_any-append (is_member n) xs ys)

-- ---- one document

pub without_tags-append : (xs ys : List Tag) (n : ℕ) (f : FlatState) → without_tags (xs ++ ys) n f ≡ without_tags ys n (without_tags xs n f)
without_tags-append [] ys n f = refl
without_tags-append (tag ∷ xs) ys n f = without_tags-append xs ys n (if is_member n tag then flat_untag f tag else f)

one_way : (is_spared : Bool) (f : FlatState) → f ≡ (if is_spared then f else f)
one_way true f = refl
one_way false f = refl

in_turn : (is_spared : Bool) (xs ys : List Tag) (n : ℕ) (f g h : FlatState) → g ≡ (if is_spared then f else without_tags xs n f)
    → h ≡ (if is_spared then g else without_tags ys n g) → h ≡ (if is_spared then f else without_tags (xs ++ ys) n f)
in_turn true xs ys n f g h first next = next ∙ first
in_turn false xs ys n f g h first next = next ∙ ap (without_tags ys n) first ∙ sym (without_tags-append xs ys n f)

-- a spared one loses none
pub spared_stays : (tags : List Tag) (spared n : ℕ) (m : ModelState) → has_doc spared n ≡ true → LosesTags tags spared n m m
spared_stays tags spared n m is = record {
  document = subst (λ b. m.document ≡ (if b then m.document else without_tags tags n m.document)) (sym is) refl;
  parse = KeepsParse-same m;
}

unnamed : (tags : List Tag) (n : ℕ) (f : FlatState) → members_of_any tags n ≡ false → without_tags tags n f ≡ f
unnamed [] n f none = refl
unnamed (tag ∷ tags) n f none =
    let parts = or_parts (is_member n tag) (members_of_any tags n) none in
    ap (λ b. without_tags tags n (if b then flat_untag f tag else f)) parts.0 ∙ unnamed tags n f parts.1

-- nor does one that the tags do not name
pub unnamed_stays : (tags : List Tag) (spared n : ℕ) (m : ModelState) → members_of_any tags n ≡ false → LosesTags tags spared n m m
unnamed_stays tags spared n m none = record {
  document = subst (λ f. m.document ≡ (if has_doc spared n then m.document else f)) (sym (unnamed tags n m.document none))
      (one_way (has_doc spared n) m.document);
  parse = KeepsParse-same m;
}

-- one that is not spared loses them
pub loses_tags : (tags : List Tag) (spared n : ℕ) (old new : ModelState) → has_doc spared n ≡ false
    → new.document ≡ without_tags tags n old.document → KeepsParse old new → LosesTags tags spared n old new
loses_tags tags spared n old new is done kept = record {
  document = subst (λ b. new.document ≡ (if b then old.document else without_tags tags n old.document)) (sym is) done;
  parse = kept;
}

pub both_tags_lost : (xs ys : List Tag) (spared n : ℕ) (a b c : ModelState) → LosesTags xs spared n a b → LosesTags ys spared n b c
    → LosesTags (xs ++ ys) spared n a c
both_tags_lost xs ys spared n a b c first next = record {
  document = in_turn (has_doc spared n) xs ys n a.document b.document c.document first.document next.document;
  parse = KeepsParse-then a b c first.parse next.parse;
}

-- ---- the group

-- where no document is named, no tag is lost
pub unnamed_lost : (tags : List Tag) (spared : ℕ) (g : GroupState) → Names tags 0 → LoseTags tags spared g g
unnamed_lost tags spared g none = record {
  count = refl;
  each = λ n m k is also.
      let same : m ≡ k = cc in
      subst (λ (k : ModelState). LosesTags tags spared n m k) same (unnamed_stays tags spared n m (sym (none n) ∙ names_none n));
  same = λ n is. refl;
}

pub both_lost : (xs ys : List Tag) (spared : ℕ) (a b c : GroupState) → LoseTags xs spared a b → LoseTags ys spared b c → LoseTags (xs ++ ys) spared a c
both_lost xs ys spared a b c first next = record {
  count = next.count ∙ first.count;
  each = λ n m k is also.
      let mid = item_within b n (omega (arith, slice_get_within a n m is, first.count)) in
      both_tags_lost xs ys spared n m mid.0 k (first.each n m mid.0 is mid.1) (next.each n mid.0 k mid.1 also);
  same = λ n is. next.same n is ∙ first.same n is;
}

-- a spared document is as before, and so are its steps
pub spared_doc : (tags : List Tag) (spared n : ℕ) (old new : GroupState) → LoseTags tags spared old new → has_doc spared n ≡ true
    → doc_in (documents new) n ≡ doc_in (documents old) n
spared_doc tags spared n old new lost is = doc_in-same old new n (lost.same n is)

-- the document of another one lost the tags
pub document_lost : (tags : List Tag) (spared n : ℕ) (old new : GroupState) (m k : ModelState) → LoseTags tags spared old new → has_doc spared n ≡ false
    → slice_get old n ≡ Some m → slice_get new n ≡ Some k → k.document ≡ without_tags tags n m.document
document_lost tags spared n old new m k lost is at_old at_new =
    subst (λ b. k.document ≡ (if b then m.document else without_tags tags n m.document)) is (lost.each n m k at_old at_new).document

-- A change of a document that was spared alone makes the group that the rule makes.
pub changed_alone : (tags : List Tag) (n : ℕ) (old mid : GroupState) (m : ModelState) → LoseTags tags (2 ^ n) old mid
    → documents (set mid n m) ≡ with_changed (documents old) tags n m.document
changed_alone tags n old mid m lost =
    documents-set mid n m
    ∙ same_beside (documents mid) (each_from 0 (without_tags tags) (documents old)) n m.document
    (length-documents mid ∙ lost.count ∙ sym (length-documents old) ∙ sym (length-each_from 0 (without_tags tags) (documents old)))
    (λ k f g other at_mid at_old.
    let here : k < length mid = omega (arith, slice_get_within (documents mid) k f at_mid, length-documents mid) in
    let new = item_within mid k here in
    let was = item_within old k (omega (arith, here, lost.count)) in
    let f_is : Some f ≡ Some new.0.document = sym at_mid ∙ document_at mid k new.0 new.1 in
    let g_is : Some g ≡ Some (without_tags tags k was.0.document) =
    sym at_old ∙ slice_get-each (without_tags tags) (documents old) k was.0.document (document_at old k was.0 was.1) in
    let left : new.0.document ≡ without_tags tags k was.0.document =
    document_lost tags (2 ^ n) k old mid was.0 new.0 lost (has_doc-other n k other) was.1 new.1 in
    cc)

-- ---- one document after the other

-- the models below the number lost these tags, and the others are as they were
pub record LostBelow (i : ℕ) (tags : List Tag) (spared : ℕ) (old new : GroupState) : Type 0 where
  pub count : length new ≡ length old
  pub below : (n : ℕ) (m k : ModelState) → n < i → slice_get old n ≡ Some m → slice_get new n ≡ Some k → LosesTags tags spared n m k
  pub above : (n : ℕ) → i ≤ n → slice_get new n ≡ slice_get old n
  pub same : (n : ℕ) → has_doc spared n ≡ true → slice_get new n ≡ slice_get old n

pub lost_below_none : (tags : List Tag) (spared : ℕ) (g : GroupState) → LostBelow 0 tags spared g g
lost_below_none tags spared g =
    record { count = refl; below = λ n m k lt is also. absurd (omega arith); above = λ n le. refl; same = λ n is. refl }

pub lost_below_all : (i : ℕ) (tags : List Tag) (spared : ℕ) (old new : GroupState) → length old ≤ i → LostBelow i tags spared old new
    → LoseTags tags spared old new
lost_below_all i tags spared old new all lost = record {
  count = lost.count;
  each = λ n m k is also. lost.below n m k (omega (arith, slice_get_within old n m is)) is also;
  same = lost.same;
}

module _ (i : ℕ) (tags : List Tag) (spared : ℕ) (old mid new : GroupState) (lost : LostBelow i tags spared old mid)
    (next : OnDoc i (LosesTags tags spared i) mid new) (stays : has_doc spared i ≡ true → new ≡ mid) where
  loses_here : (n : ℕ) (m k : ModelState) → n ≡ i → slice_get old n ≡ Some m → slice_get new n ≡ Some k → LosesTags tags spared n m k
  loses_here n m k at is also =
      let before : slice_get mid n ≡ Some m = lost.above n (omega (arith, at)) ∙ is in
      subst (λ j. LosesTags tags spared j m k) (sym at) ((each_on i _ mid new next n m k before also).0 at)

  same_here : (n : ℕ) → n ≡ i → has_doc spared n ≡ true → slice_get new n ≡ slice_get old n
  same_here n at is = ap (λ g. slice_get g n) (stays (subst (λ j. has_doc spared j ≡ true) at is)) ∙ lost.same n is

  pub lost_below_more : LostBelow (i + 1) tags spared old new
  lost_below_more = record {
    count = ap length next.rest ∙ length-set mid i next.after ∙ lost.count;
    below = λ n m k lt is also.
        ⊎_elim
        (λ at. loses_here n m k at is also)
        (λ other. lost.below n m k (omega (arith, other)) is (sym (beside i _ mid new next n other) ∙ also))
        (cases_eq n i);
    above = λ n le. let other : n ≢ i = omega arith in beside i _ mid new next n other ∙ lost.above n (omega arith);
    same = λ n is. ⊎_elim (λ at. same_here n at is) (λ other. beside i _ mid new next n other ∙ lost.same n is) (cases_eq n i);
  }

-- ---- the last tags of a document

filter_twice : (p q : Tag → Bool) (tags : List Tag) → filter q (filter p tags) ≡ filter (λ tag. p tag && q tag) tags
filter_twice p q [] = refl
filter_twice p q (tag ∷ tags) = by (p tag) (filter_twice p q tags)
  where
    by : (b : Bool) → filter q (filter p tags) ≡ filter (λ tag. p tag && q tag) tags
        → filter q (if b then tag ∷ filter p tags else filter p tags)
        ≡ (if b && q tag then tag ∷ filter (λ tag. p tag && q tag) tags else filter (λ tag. p tag && q tag) tags)
    by true same = ap (λ rest. if q tag then tag ∷ rest else rest) same
    by false same = same

pub left_count-append : (before : List DocReady) (n : ℕ) (xs ys : List Tag)
    → left_count before n (xs ++ ys) ≡ left_count before n xs + left_count before n ys
left_count-append before n xs ys =
    ap length (filter-append (is_left before n) xs ys) ∙ length-append (filter (is_left before n) xs) (filter (is_left before n) ys)

-- nothing was lost before
pub none_before : (spared doc first : ℕ) (g : GroupState) → IsGroup g → IsNext spared doc first [] g
none_before spared doc first g is =
    record { start = g; group = is; tags = []; lost = unnamed_lost [] spared g names_none; seen = λ tag there. refl }

module _ (spared doc first : ℕ) (before : List DocReady) (g : GroupState) (below : doc < DOC_COUNT) (is_spared : has_doc spared doc ≡ true)
    (next : IsNext spared doc first before g) where
  pub next_count : length g ≡ DOC_COUNT
  next_count = next.lost.count ∙ next.group.count

  same_tags : tags_from g doc first ≡ tags_from next.start doc first
  same_tags =
      ap (λ (f : FlatState). tags_of (drop first (all_steps f.history))) (spared_doc next.tags spared doc next.start g next.lost is_spared)

  -- so many as are counted are those that it has still
  counted : (n : ℕ) → length (filter (left next.tags) (shared_with n (tags_from next.start doc first)))
      ≡ left_count before n (tags_from g doc first)
  counted n =
      ap length (filter_twice (is_member n) (left next.tags) (tags_from next.start doc first)
      ∙ filter_same (λ tag. is_member n tag && left next.tags tag) (is_left before n) (tags_from next.start doc first)
      (λ tag there. ap (λ t. is_member n tag && not t) (next.seen tag there)))
      ∙ ap (left_count before n) (sym same_tags)

  last_lost : (n : ℕ) (m : ModelState) → n < DOC_COUNT → has_doc spared n ≡ false → slice_get g n ≡ Some m
      → flat_untag_last m.document doc (left_count before n (tags_from g doc first)) ≡ without_tags (tags_from g doc first) n m.document
  last_lost n m below_n bare at =
      let was = item_within next.start n (omega (arith, next.group.count, below_n)) in
      let is : m.document ≡ without_tags next.tags n (doc_in (documents next.start) n) =
      document_lost next.tags spared n next.start g was.0 m next.lost bare was.1 at
      ∙ ap (without_tags next.tags n) (sym (doc_in-is next.start n was.0 was.1)) in
      ap (λ c. flat_untag_last m.document doc c) (sym (counted n))
      ∙ ap (λ f. flat_untag_last f doc (length (filter (left next.tags) (shared_with n (tags_from next.start doc first))))) is
      ∙ sym (lose_last_after (documents next.start) doc n first next.group.shared below below_n next.tags)
      ∙ ap (without_tags (tags_from next.start doc first) n) (sym is) ∙ ap (λ tags. without_tags tags n m.document) (sym same_tags)

  pub last_lost_in : (n count : ℕ) (now : GroupState) (m new : ModelState) → n < DOC_COUNT → has_doc spared n ≡ false
      → LostBelow n (tags_from g doc first) spared g now → slice_get now n ≡ Some m → count ≡ left_count before n (tags_from g doc first)
      → new.document ≡ flat_untag_last m.document doc count → KeepsParse m new
      → LostBelow (n + 1) (tags_from g doc first) spared g (set now n new)
  last_lost_in n count now m new below_n bare lost at is done kept =
      let tags = tags_from g doc first in
      let lost_now = done ∙ ap (flat_untag_last m.document doc) is ∙ last_lost n m below_n bare (sym (lost.above n (omega arith)) ∙ at) in
      lost_below_more n tags spared g now (set now n new) lost
      (done_on n (LosesTags tags spared n) now now m new refl at (loses_tags tags spared n m new bare lost_now kept))
      (λ is. absurd (true≢false (sym is ∙ bare)))

-- the documents of a joint edit lose theirs one after another
abbrev pub lost_of : GroupState → List DocReady → List Tag
lost_of g ready = flat_map (λ (r : DocReady). lost_by_change (doc_in (documents g) r.doc)) ready

-- what was lost of the models that were read
pub lost_as : (ready ready' : List DocReady) (spared : ℕ) (g g' left : GroupState) → ready' ≡ ready → g' ≡ g
    → LoseTags (lost_of g' ready') spared g' left → LoseTags (lost_of g ready) spared g left
lost_as ready ready' spared g g' left same same_models lost =
    subst (λ ready. LoseTags (lost_of g ready) spared g left) same (subst (λ g. LoseTags (lost_of g ready') spared g left) same_models lost)

pub next_of : (spared doc : ℕ) (before : List DocReady) (old now : GroupState) → IsGroup old → doc < DOC_COUNT → has_doc spared doc ≡ true
    → All (λ (r : DocReady). r.doc < DOC_COUNT) before → LoseTags (lost_of old before) spared old now
    → IsNext spared doc (length (doc_in (documents now) doc).history.undo) before now
next_of spared doc before old now is below is_spared there lost = record {
  start = old;
  group = is;
  tags = lost_of old before;
  lost = lost;
  seen = λ tag among.
      let same = ap (λ (f : FlatState). length f.history.undo) (spared_doc (lost_of old before) spared doc old now lost is_spared) in
      let redo = ap (λ n. tags_of (drop n (all_steps (doc_in (documents old) doc).history))) same ∙ ap tags_of (redo_steps (doc_in (documents old) doc).history) in
      lost_before (λ (r : DocReady). r.doc) (documents old) doc tag before is.shared below there (subst (λ tags. 0 < times tag tags) redo among);
}
