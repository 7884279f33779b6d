-- Changes of several documents: prepared one after another, and then carried out one after another.
use Rattle.std.proofs.Common.{◌≡◌, ◌≢◌, ℕ, zero, suc, ◌==◌, ◌<◌, arith, set, if◌then◌else◌, List, [], ◌∷◌, ◌++◌, length, get_or, Option, Some, None, slice_get, All, ◌⊎◌, inl, inr, refl, sym, subst, ap, ◌∙◌, ⊎_elim}
use Rattle.std.proofs.lemmas.Bool.{cases_eq, eqb-false, eq-eqb, ne_eqb}
use Rattle.std.proofs.lemmas.List.{length-append, length-set, get_or_at}
use Rattle.std.proofs.lemmas.List.Elements.{All-push}
use Rattle.std.proofs.lemmas.Option.{slice_get_within, slice_get_read, slice_get-get_or}
use Rattle.document_rules.specs.Document.{FlatState}
use Rattle.group_rules.specs.declared.TheConstants.{DOC_COUNT}
use Rattle.group_rules.specs.Group.{doc_in, each_from}
use Rattle.group_rules.proofs.Places.{length-each_from}
use Rattle.model_core.specs.declared.ready.Action.{Action}
use Rattle.model_core.specs.State.{ModelState, KeepsParse}
use Rattle.model_core.specs.Prepared.{Prepared, CanCommit, HasActed}
use Rattle.model_core.proofs.Preparing.{IsSameText, can_still_commit}
use Rattle.model_group.specs.declared.ready.DocReady.{DocReady}
use Rattle.model_group.specs.declared.ready.Manner.{Manner}
use Rattle.model_group.specs.State.{GroupState, OnDoc, EachModel, KeepAll, documents}
use Rattle.model_group.specs.Prepared.{ready_for, AreApart, AreReady, IsReadyIn, Keeps, Prepares, Does, Committed, CommitAll, acts_in, CanIn}
use Rattle.model_group.proofs.Lists.{not_first, slice_get-set_same, slice_get-set_other, set_back, item_within, same_items, slice_get-each, length-documents, document_at, doc_in-is, documents-set}
use Rattle.model_group.proofs.Parses.{KeepsParse-same, KeepsParse-then}

-- ---- what was prepared for a document

ready_for-at : (xs : List DocReady) (r : DocReady) (ys : List DocReady) → ready_for r.doc xs ≡ None
    → ready_for r.doc (xs ++ r ∷ ys) ≡ Some r.ready
ready_for-at [] r ys none = rw (eq-eqb r.doc r.doc refl) refl
ready_for-at (x ∷ xs) r ys none =
    let parts = not_first (x.doc == r.doc) x.ready (ready_for r.doc xs) none in
    rw (parts.0) (ready_for-at xs r ys parts.1)

ready_for-other : (xs : List DocReady) (r : DocReady) (n : ℕ) → n ≢ r.doc → ready_for n (xs ++ r ∷ []) ≡ ready_for n xs
ready_for-other [] r n other = rw (ne_eqb r.doc n (λ e. other (sym e))) refl
ready_for-other (x ∷ xs) r n other =
    ap (λ (rest : Option Prepared). if x.doc == n then Some x.ready else rest) (ready_for-other xs r n other)

-- the one that comes next is for none of the documents before
ready_for-before : (xs : List DocReady) (r : DocReady) (ys : List DocReady) → AreApart (xs ++ r ∷ ys) → ready_for r.doc xs ≡ None
ready_for-before [] r ys apart = refl
ready_for-before (x ∷ xs) r ys apart =
    let rest : ready_for r.doc xs ≡ None = ready_for-before xs r ys apart.1 in
    let other : x.doc ≢ r.doc = λ same.
    let here : ready_for x.doc (xs ++ r ∷ ys) ≡ Some r.ready = ap (λ n. ready_for n (xs ++ r ∷ ys)) same ∙ ready_for-at xs r ys rest in
    absurd (let e : None ≡ Some r.ready = sym apart.0 ∙ here in cc) in
    rw (ne_eqb x.doc r.doc other) rest

-- one for another document joins them
AreApart-more : (xs : List DocReady) (r : DocReady) → AreApart xs → ready_for r.doc xs ≡ None → AreApart (xs ++ r ∷ [])
AreApart-more [] r apart none = (refl, tt)
AreApart-more (x ∷ xs) r apart none =
    let parts = not_first (x.doc == r.doc) x.ready (ready_for r.doc xs) none in
    (ready_for-other xs r x.doc (eqb-false x.doc r.doc parts.0) ∙ apart.0, AreApart-more xs r apart.1 parts.1)

-- the one at each place is that for its document
ready_item : (ready : List DocReady) (k : ℕ) (d : DocReady) → AreApart ready → k < length ready
    → ready_for (get_or ready k d).doc ready ≡ Some (get_or ready k d).ready
ready_item [] k d apart lt = absurd (omega arith)
ready_item (x ∷ ready) zero d apart lt = rw (eq-eqb x.doc x.doc refl) refl
ready_item (x ∷ ready) (suc k) d apart lt =
    let r : DocReady = get_or ready k d in
    let there : ready_for r.doc ready ≡ Some r.ready = ready_item ready k d apart.1 (omega arith) in
    let other : x.doc ≢ r.doc = λ same. absurd (let e : None ≡ Some r.ready = sym apart.0 ∙ ap (λ n. ready_for n ready) same ∙ there in cc) in
    rw (ne_eqb x.doc r.doc other) there

module _ (is now : ℕ → ModelState → Option Prepared → Type 0) (g : GroupState) (ready : List DocReady) (h : AreReady is g ready) where
  -- what is told of each
  pub each_ready : (P : ModelState → Prepared → Type 0) → ((n : ℕ) (m : ModelState) (r : Prepared) → is n m (Some r) → P m r)
      → All (IsReadyIn P g) ready
  each_ready P told k d lt =
      let r : DocReady = get_or ready k d in
      record {
        there = h.there k d lt;
        ready = λ m at. told r.doc m r.ready (subst (is r.doc m) (ready_item ready k d h.apart lt) (h.each r.doc m at));
      }

  -- one for another document joins them
  pub ready_more : (r : DocReady) → r.doc < DOC_COUNT → ready_for r.doc ready ≡ None
      → ((n : ℕ) (m : ModelState) (x : Option Prepared) → n ≢ r.doc → is n m x → now n m x)
      → ((m : ModelState) → slice_get g r.doc ≡ Some m → now r.doc m (Some r.ready)) → AreReady now g (ready ++ r ∷ [])
  ready_more r there none others one = record {
    apart = AreApart-more ready r h.apart none;
    there = All-push (λ (r : DocReady). r.doc < DOC_COUNT) ready r h.there there;
    each = λ n m at.
        ⊎_elim
        (λ same. subst (λ i. now i m (ready_for i (ready ++ r ∷ []))) (sym same)
        (subst (now r.doc m) (sym (ready_for-at ready r [] none)) (one m (ap (slice_get g) (sym same) ∙ at))))
        (λ other. subst (now n m) (sym (ready_for-other ready r n other)) (others n m (ready_for n ready) other (h.each n m at)))
        (cases_eq n r.doc);
  }

-- ---- the document that a call is on

module _ (n : ℕ) (call : ModelState → ModelState → Type 0) (old new : GroupState) (on : OnDoc n call old new) where
  pub there_after : slice_get new n ≡ Some on.after
  there_after = ap (λ g. slice_get g n) on.rest ∙ slice_get-set_same old n on.after (slice_get_within old n on.before on.is)

  pub after_is : (k : ModelState) → slice_get new n ≡ Some k → on.after ≡ k
  after_is k is = let e : Some on.after ≡ Some k = sym there_after ∙ is in cc

  pub beside : (i : ℕ) → i ≢ n → slice_get new i ≡ slice_get old i
  beside i other = ap (λ g. slice_get g i) on.rest ∙ slice_get-set_other old n i on.after other

  -- what was done of each model
  pub each_on : EachModel (λ i m k. (i ≡ n → call m k) × (i ≢ n → k ≡ m)) old new
  each_on i m k was is = (
    λ same.
        let before : on.before ≡ m = let e : Some on.before ≡ Some m = sym on.is ∙ ap (slice_get old) (sym same) ∙ was in cc in
        subst (λ m. call m k) before (subst (call on.before) (after_is k (ap (slice_get new) (sym same) ∙ is)) on.done),
    λ other. let e : Some k ≡ Some m = sym is ∙ beside i other ∙ was in cc,
  )

  pub documents_kept : on.after.document ≡ on.before.document → documents new ≡ documents old
  documents_kept same =
      ap documents on.rest ∙ documents-set old n on.after ∙ ap (set (documents old) n) same
      ∙ set_back (documents old) n on.before.document (document_at old n on.before on.is)

-- the model that is read
pub model_at : (g items : GroupState) (n : ℕ) (m : ModelState) → items ≡ g → length items ≡ DOC_COUNT → n < DOC_COUNT → m ≡ get_or items n m
    → slice_get g n ≡ Some m
model_at g items n m same count lt is =
    ap (λ g. slice_get g n) (sym same) ∙ slice_get_read items (length items) n m refl (omega (arith, count, lt)) is

-- ---- carried out

-- what is asked of the model that is read, and what is done of it, in this manner
module _ (manner by : Manner) (g : GroupState) (one : DocReady) (m : ModelState) (is : manner ≡ by) (count : length g ≡ DOC_COUNT) where
  pub can_by : IsReadyIn (CanIn manner) g one → CanIn by (get_or g one.doc m) one.ready
  can_by ready =
      subst (λ manner. CanIn manner (get_or g one.doc m) one.ready) is
      (ready.ready (get_or g one.doc m) (slice_get-get_or g one.doc m (omega (arith, count, ready.there))))

  pub done_by : (new : ModelState) → one.doc < DOC_COUNT → acts_in by one.ready.action (get_or g one.doc m).document new.document
      → HasActed one.ready.action (get_or g one.doc m) new → OnDoc one.doc (Does (acts_in manner) one.ready.action) g (set g one.doc new)
  done_by new below acts left = record {
    before = get_or g one.doc m;
    after = new;
    is = slice_get-get_or g one.doc m (omega (arith, count, below));
    done = record {
      document = subst (λ manner. acts_in manner one.ready.action (get_or g one.doc m).document new.document) (sym is) acts;
      parse = left;
    };
    rest = refl;
  }

-- ---- carried out one after another

module _ (act : Action → FlatState → FlatState → Type 0) where
  pub none_committed : (g : GroupState) → CommitAll act [] g g
  none_committed g = record { count = refl; each = λ n m k is also. cc }

  -- the model of another document is as it was
  untouched : (ready : List DocReady) (old new : GroupState) (n : ℕ) (k : ModelState) → CommitAll act ready old new → ready_for n ready ≡ None
      → slice_get new n ≡ Some k → slice_get old n ≡ Some k
  untouched ready old new n k done none is =
      let was = item_within old n (omega (arith, slice_get_within new n k is, done.count)) in
      let same : k ≡ was.0 = subst (λ r. Committed act r was.0 k) none (done.each n was.0 k was.1 is) in
      was.1 ∙ ap (λ (m : ModelState). Some m) (sym same)

  one_more : (ready : List DocReady) (r : DocReady) (old mid new : GroupState) → CommitAll act ready old mid → ready_for r.doc ready ≡ None
      → OnDoc r.doc (Does act r.ready.action) mid new → CommitAll act (ready ++ r ∷ []) old new
  one_more ready r old mid new done none next = record {
    count = ap length next.rest ∙ length-set mid r.doc next.after ∙ done.count;
    each = λ n m k is also. more n m k is also (cases_eq n r.doc);
  } where
    more : (n : ℕ) (m k : ModelState) → slice_get old n ≡ Some m → slice_get new n ≡ Some k → (n ≡ r.doc) ⊎ (n ≢ r.doc)
        → Committed act (ready_for n (ready ++ r ∷ [])) m k
    more n m k is also (inl same) =
        let at : slice_get mid r.doc ≡ Some m =
        let before = untouched ready old mid r.doc next.before done none next.is in
        next.is ∙ sym before ∙ ap (slice_get old) (sym same) ∙ is in
        let found : ready_for n (ready ++ r ∷ []) ≡ Some r.ready =
        ap (λ n. ready_for n (ready ++ r ∷ [])) same ∙ ready_for-at ready r [] none in
        subst (λ found. Committed act found m k) (sym found)
        ((each_on r.doc _ mid new next n m k (ap (slice_get mid) same ∙ at) also).0 same)
    more n m k is also (inr other) =
        subst (λ found. Committed act found m k) (sym (ready_for-other ready r n other))
        (done.each n m k is (sym (beside r.doc _ mid new next n other) ∙ also))

  -- a loop that carries them out comes to the next one
  module _ (P : ModelState → Prepared → Type 0) (all xs : List DocReady) (r : DocReady) (rest : List DocReady) (old now : GroupState)
      (whole : xs ++ r ∷ rest ≡ all) (apart : AreApart all) (each : All (IsReadyIn P old) all) (done : CommitAll act xs old now) where
    none_before : ready_for r.doc xs ≡ None
    none_before = ready_for-before xs r rest (subst AreApart (sym whole) apart)

    pub next_ready : IsReadyIn P now r
    next_ready =
        let at_place : IsReadyIn P old (get_or (xs ++ r ∷ rest) (length xs) r) =
        subst (All (IsReadyIn P old)) (sym whole) each (length xs) r (omega (arith, length-append xs (r ∷ rest))) in
        let was : IsReadyIn P old r = subst (IsReadyIn P old) (get_or_at xs r rest r (length xs) refl) at_place in
        record { there = was.there; ready = λ m is. was.ready m (untouched xs old now r.doc m done none_before is) }

    pub next_done : (new : GroupState) → OnDoc r.doc (Does act r.ready.action) now new
        → CommitAll act (xs ++ r ∷ []) old new
    next_done new next = one_more xs r old now new done none_before next

-- ---- what is prepared keeps all models, and what was prepared before

pub same_count : (old new : GroupState) → documents new ≡ documents old → length new ≡ length old
same_count old new same = sym (length-documents new) ∙ ap length same ∙ length-documents old

pub keep_same : (g : GroupState) → KeepAll g g
keep_same g = record {
  documents = refl;
  parses = λ n m k was is. let same : m ≡ k = cc in subst (KeepsParse m) same (KeepsParse-same m);
}

pub keep_then : (a b c : GroupState) → KeepAll a b → KeepAll b c → KeepAll a c
keep_then a b c first next = record {
  documents = next.documents ∙ first.documents;
  parses = λ n m k was is.
      let mid = item_within b n (omega (arith, slice_get_within a n m was, same_count a b first.documents)) in
      KeepsParse-then m mid.0 k (first.parses n m mid.0 was mid.1) (next.parses n mid.0 k mid.1 is);
}

pub kept_at : (old new : GroupState) (n : ℕ) (m k : ModelState) → KeepAll old new → slice_get old n ≡ Some m → slice_get new n ≡ Some k → Keeps m k
kept_at old new n m k kept was is =
    let same : Some k.document ≡ Some m.document =
    sym (document_at new n k is) ∙ ap (λ g. slice_get g n) kept.documents ∙ document_at old n m was in
    record { document = cc; parse = kept.parses n m k was is }

module _ (n : ℕ) (told : ModelState → Type 0) (old new : GroupState) (on : OnDoc n (Prepares told) old new) where
  pub kept_all : KeepAll old new
  kept_all = record {
    documents = documents_kept n (Prepares told) old new on on.done.kept.document;
    parses = λ i m k was is.
        let each = each_on n (Prepares told) old new on i m k was is in
        ⊎_elim (λ same. (each.0 same).kept.parse) (λ other. subst (KeepsParse m) (sym (each.1 other)) (KeepsParse-same m)) (cases_eq i n);
  }

  pub kept_document : doc_in (documents old) n ≡ on.after.document
  kept_document = doc_in-is old n on.before on.is ∙ sym on.done.kept.document

-- so what was prepared on it stays so
pub ready_kept : (is : ℕ → ModelState → Option Prepared → Type 0)
    → ((n : ℕ) (m k : ModelState) (x : Option Prepared) → Keeps m k → is n m x → is n k x)
    → (old new : GroupState) (ready : List DocReady) → KeepAll old new → AreReady is old ready → AreReady is new ready
ready_kept is keep old new ready kept h = record {
  apart = h.apart;
  there = h.there;
  each = λ n k at.
      let m = item_within old n (omega (arith, slice_get_within new n k at, same_count old new kept.documents)) in
      keep n m.0 k (ready_for n ready) (kept_at old new n m.0 k kept m.1 at) (h.each n m.0 m.1);
}

-- what is as the commit asks stays so
same_text : (f g : FlatState) → g ≡ f → IsSameText f g
same_text f g is = rw is (record { version = refl; units = refl; kind = refl; undo = refl; redo = refl })

pub can_commit_kept : (old new : ModelState) (ready : Prepared) → Keeps old new → CanCommit old ready → CanCommit new ready
can_commit_kept old new ready kept can =
    can_still_commit old new ready (same_text old.document new.document kept.document) kept.parse.room can

-- ---- the documents after all

-- each document becomes another by its number
pub each_document : (change : ℕ → FlatState → FlatState) (old new : GroupState) → length new ≡ length old
    → ((n : ℕ) (m k : ModelState) → slice_get old n ≡ Some m → slice_get new n ≡ Some k → k.document ≡ change n m.document)
    → each_from 0 change (documents old) ≡ documents new
each_document change old new count each =
    same_items (each_from 0 change (documents old)) (documents new)
    (length-each_from 0 change (documents old) ∙ length-documents old ∙ sym count ∙ sym (length-documents new))
    (λ n f g at_old at_new.
    let here : n < length new = omega (arith, slice_get_within (documents new) n g at_new, length-documents new) in
    let now = item_within new n here in
    let was = item_within old n (omega (arith, here, count)) in
    let f_is : Some f ≡ Some (change n was.0.document) =
    sym at_old ∙ slice_get-each change (documents old) n was.0.document (document_at old n was.0 was.1) in
    let g_is : Some g ≡ Some now.0.document = sym at_new ∙ document_at new n now.0 now.1 in
    let done : now.0.document ≡ change n was.0.document = each n was.0 now.0 was.1 now.1 in
    cc)
