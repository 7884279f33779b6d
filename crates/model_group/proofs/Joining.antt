-- The batches of a joint edit: prepared one after another, spared while tags are lost, and carried out as the rule does it.
use Rattle.std.proofs.Common.{true≢false, ◌≡◌, ◌≢◌, ℕ, ◌+◌, ◌==◌, ◌<◌, map, arith, Bool, true, false, nat_le, if◌then◌else◌, List, [], ◌∷◌, ◌++◌, length, take, get_or, append-nil, Option, Some, None, MatchOption, Result, Ok, Err, All, slice_get, refl, sym, subst, ap, ◌∙◌}
use Rattle.std.specs.Prelude.{⊤}
use Rattle.std.specs.Result.{IsErr}
use Rattle.group_rules.specs.declared.GroupError.{GroupError}
use Rattle.std.specs.List.{flat_map}
use Rattle.std.proofs.lemmas.Bool.{or_parts, or_from, leb-false, eq-eqb, ne_eqb}
use Rattle.std.proofs.lemmas.List.Elements.{All-nil, All-head, All-tail}
use Rattle.std.proofs.lemmas.Grind.{flat_map-append}
use Rattle.std.proofs.lemmas.List.{take_more, length-map, map-append, get_or-map}
use Rattle.std.proofs.lemmas.Option.{slice_get_within}
use Rattle.text_rules.specs.declared.Op.{Op}
use Rattle.batch_rules.specs.Refusals.{BatchRefusal}
use Rattle.batch_rules.specs.Batches.{checked_batch}
use Rattle.undo_rules.specs.declared.Tag.{Tag}
use Rattle.document_rules.specs.declared.ModelError.{ModelError}
use Rattle.document_rules.specs.Outcomes.{RefusedFor}
use Rattle.document_rules.specs.Document.{greatest_version, FlatState, after_batch, edited_by, flat_edit, flat_stop}
use Rattle.search_rules.specs.Replacing.{closed_after, edited_alone}
use Rattle.group_rules.specs.declared.TheConstants.{DOC_COUNT}
use Rattle.group_rules.specs.Group.{FlatGroup, doc_in, lost_by_change, without_tags}
use Rattle.group_rules.specs.Joint.{FlatBatch, docs_of, tag_of, batch_for, lost_by_joint, tagged_after, joined_doc, joined, joint_refusal, unless_refused, group_joint}
use Rattle.group_rules.proofs.Changed.{accepted_value}
use Rattle.group_rules.proofs.Members.{is_named, batch_for_none, named_batch}
use Rattle.model_page.specs.LineMarks.{marked_backwards}
use Rattle.model_core.specs.State.{ModelState, KeepsParse, Leaves}
use Rattle.model_core.specs.Edited.{ops_as_done, marks_edited, HasEdited}
use Rattle.model_core.specs.Prepared.{Prepared, Acts, ActsAlone, HasActed, PreparesEdit, batch_of, IsEditReady}
use Rattle.text_batches.specs.Needs.{edit_count}
use Rattle.model_core.proofs.Leaving.{leaves_from, leaves_as}
use Rattle.model_core.proofs.Preparing.{ruled, edit_again, edits_leave}
use Rattle.model_group.specs.Calls.{HasJoined, AllJoin}
use Rattle.model_group.specs.declared.ready.DocReady.{DocReady}
use Rattle.model_group.specs.State.{GroupState, OnDoc, KeepAll, KeepAllParses, documents}
use Rattle.model_group.specs.Losing.{has_doc, LoseTags}
use Rattle.model_group.specs.Prepared.{ready_for, IsReadyIn, Keeps, Prepares, Does, CommitAll, Committed, IsBatchReady, AreBatchesReady, IsSomeEdit, ActsTagged, first_of, IsFirstOf}
use Rattle.model_group.proofs.Lists.{not_first, item_within}
use Rattle.model_group.proofs.Losses.{both_lost, spared_doc, document_lost}
use Rattle.model_group.proofs.Naming.{HaveSet, is_bad, named_bit, all_there, all_named, docs_of-append}
use Rattle.model_group.proofs.Parses.{KeepsParse-then}
use Rattle.model_group.proofs.Committing.{each_ready, ready_more, ready_kept, there_after, after_is, same_count, kept_at, kept_all, kept_document, can_commit_kept, each_document}
use Rattle.model_group.proofs.Refusing.{more_refused, more_accepted}

-- ---- prepared one after another

edit_kept : (ops : List Op) (old new : ModelState) (ready : Prepared) → Keeps old new → IsEditReady ops old ready → IsEditReady ops new ready
edit_kept ops old new ready kept is = record {
  action = is.action ∙ ap (λ f. batch_of f (ops_as_done f ops)) (sym kept.document);
  accepted = subst (λ f. flat_edit f ops ≡ Ok (after_batch f (ops_as_done f ops))) (sym kept.document) is.accepted;
  can = can_commit_kept old new ready kept is.can;
}

batch_kept : (ops : Option (List Op)) (old new : ModelState) (ready : Option Prepared) → Keeps old new → IsBatchReady ops old ready
    → IsBatchReady ops new ready
batch_kept None old new ready kept is = is
batch_kept (Some ops) old new None kept is = absurd is
batch_kept (Some ops) old new (Some ready) kept is = edit_kept ops old new ready kept is

pub no_batches : (g : GroupState) → AreBatchesReady g [] []
no_batches g = record {
  docs = refl;
  all = record { apart = tt; there = All-nil (λ (r : DocReady). r.doc < DOC_COUNT); each = λ n m at. refl };
}

batch_for-at : (batches : List FlatBatch) (b : FlatBatch) → batch_for b.doc batches ≡ None → batch_for b.doc (batches ++ b ∷ []) ≡ Some b.ops
batch_for-at [] b none = rw (eq-eqb b.doc b.doc refl) refl
batch_for-at (x ∷ batches) b none =
    let parts = not_first (x.doc == b.doc) x.ops (batch_for b.doc batches) none in rw (parts.0) (batch_for-at batches b parts.1)

batch_for-other : (batches : List FlatBatch) (b : FlatBatch) (n : ℕ) → n ≢ b.doc → batch_for n (batches ++ b ∷ []) ≡ batch_for n batches
batch_for-other [] b n other = rw (ne_eqb b.doc n (λ e. other (sym e))) refl
batch_for-other (x ∷ batches) b n other = ap (λ (rest : Option (List Op)). if x.doc == n then Some x.ops else rest) (batch_for-other batches b n other)

-- the batch that was prepared, and those before it
module _ (b : FlatBatch) (ready : Prepared) (old new : GroupState) (on : OnDoc b.doc (Prepares (PreparesEdit b.ops (Ok ready))) old new) where
  pub prepared_more : (batches : List FlatBatch) (before : List DocReady) → is_bad b.doc batches ≡ false → AreBatchesReady old batches before
      → AreBatchesReady new (batches ++ b ∷ []) (before ++ record { doc = b.doc; ready = ready } ∷ [])
  prepared_more batches before fine h =
      let parts = or_parts (nat_le DOC_COUNT b.doc) (is_named b.doc batches) fine in
      let none : batch_for b.doc batches ≡ None = batch_for_none batches b.doc parts.1 in
      let still = ready_kept _ (λ n. batch_kept (batch_for n batches)) old new before (kept_all b.doc _ old new on) h.all in
      record {
        docs = map-append (λ (r : DocReady). r.doc) before _ ∙ ap (λ docs. docs ++ b.doc ∷ []) h.docs ∙ sym (docs_of-append batches (b ∷ []));
        all = ready_more _ (λ n. IsBatchReady (batch_for n (batches ++ b ∷ []))) new before still (record { doc = b.doc; ready = ready })
            (leb-false DOC_COUNT b.doc parts.0)
            (subst (λ ops. IsBatchReady ops on.after (ready_for b.doc before)) none (still.each b.doc on.after (there_after b.doc _ old new on)))
            (λ n m x other is. subst (λ ops. IsBatchReady ops m x) (sym (batch_for-other batches b n other)) is)
            (λ m at.
            subst (λ ops. IsBatchReady ops m (Some ready)) (sym (batch_for-at batches b none))
            (subst (λ m. IsEditReady b.ops m ready) (after_is b.doc _ old new on m at) on.done.ready));
      }

  pub accepted_more : (g : FlatGroup) (batches : List FlatBatch) (refusal : Option ModelError) → documents old ≡ g → IsFirstOf g batches refusal
      → IsFirstOf g (batches ++ b ∷ []) refusal
  accepted_more g batches refusal same first =
      let f : doc_in g b.doc ≡ on.after.document = ap (λ g. doc_in g b.doc) (sym same) ∙ kept_document b.doc _ old new on in
      more_accepted g batches b refusal (after_batch on.after.document (ops_as_done on.after.document b.ops)) first
      (ap (λ f. flat_edit f b.ops) f ∙ on.done.ready.accepted)

-- it was refused
pub refused_more : (b : FlatBatch) (e : ModelError) (old new : GroupState) (on : OnDoc b.doc (Prepares (PreparesEdit b.ops (Err e))) old new) (g : FlatGroup)
    (batches : List FlatBatch) (refusal : Option ModelError) → documents old ≡ g → IsFirstOf g batches refusal
    → IsFirstOf g (batches ++ b ∷ []) (Some (first_of refusal e))
refused_more b e old new on g batches refusal same first =
    let f : doc_in g b.doc ≡ on.after.document = ap (λ g. doc_in g b.doc) (sym same) ∙ kept_document b.doc _ old new on in
    more_refused g batches b refusal e first (subst (λ f. RefusedFor e (flat_edit f b.ops)) (sym f) on.done.ready)

pub unless_told : {A B : Type 0} (refusal : Option ModelError) → (A → B) → MatchOption refusal A (λ e. ⊤) → MatchOption refusal B (λ e. ⊤)
unless_told None step h = step h
unless_told (Some e) step h = tt

-- ---- the documents that they are for

-- what holds of each document that a batch is for
docs_kept : (P : ℕ → Type 0) (batches : List FlatBatch) (ready : List DocReady) (g : GroupState) → AreBatchesReady g batches ready
    → All P (docs_of batches) → All (λ (r : DocReady). P r.doc) ready
docs_kept P batches ready g is all k d lt =
    subst P (get_or-map (λ (r : DocReady). r.doc) ready k d d.doc lt)
    (subst (All P) (sym is.docs) all k d.doc (omega (arith, lt, length-map ready (λ (r : DocReady). r.doc))))

-- ---- tags that are lost before

flat_map-map : {A B C : Type 0} (f : B → List C) (h : A → B) (xs : List A) → flat_map f (map h xs) ≡ flat_map (λ x. f (h x)) xs
flat_map-map f h [] = refl
flat_map-map f h (x ∷ xs) = ap (λ rest. f (h x) ++ rest) (flat_map-map f h xs)

batches_lost : (batches : List FlatBatch) (ready : List DocReady) (g : GroupState) (f : FlatGroup) → AreBatchesReady g batches ready
    → flat_map (λ (r : DocReady). lost_by_change (doc_in f r.doc)) ready ≡ lost_by_joint f batches
batches_lost batches ready g f h =
    let lost : ℕ → List Tag = λ n. lost_by_change (doc_in f n) in
    sym (flat_map-map lost (λ (r : DocReady). r.doc) ready) ∙ ap (flat_map lost) h.docs ∙ flat_map-map lost (λ (b : FlatBatch). b.doc) batches

-- what the next document could redo is lost too
pub lost_more : (ready : List DocReady) (i : ℕ) (r : DocReady) (spared : ℕ) (old mid new : GroupState) → i < length ready → r ≡ get_or ready i r
    → All (λ (r : DocReady). (r.doc < DOC_COUNT) × (has_doc spared r.doc ≡ true)) ready
    → LoseTags (flat_map (λ (r : DocReady). lost_by_change (doc_in (documents old) r.doc)) (take i ready)) spared old mid
    → LoseTags (lost_by_change (doc_in (documents mid) r.doc)) spared mid new
    → LoseTags (flat_map (λ (r : DocReady). lost_by_change (doc_in (documents old) r.doc)) (take (i + 1) ready)) spared old new
lost_more ready i r spared old mid new lt is all before next =
    let lost : DocReady → List Tag = λ r. lost_by_change (doc_in (documents old) r.doc) in
    let is_spared : has_doc spared r.doc ≡ true = subst (λ (r : DocReady). has_doc spared r.doc ≡ true) (sym is) (all i r lt).1 in
    let same : lost_by_change (doc_in (documents mid) r.doc) ≡ lost r =
    ap lost_by_change (spared_doc (flat_map lost (take i ready)) spared r.doc old mid before is_spared) in
    let more : flat_map lost (take (i + 1) ready) ≡ flat_map lost (take i ready) ++ lost r =
    ap (flat_map lost) (take_more ready i r lt ∙ ap (λ (r : DocReady). take i ready ++ r ∷ []) (sym is)) ∙ flat_map-append lost (take i ready) (r ∷ [])
    ∙ ap (λ (tags : List Tag). flat_map lost (take i ready) ++ tags) (append-nil (lost r)) in
    subst (λ (tags : List Tag). LoseTags tags spared old new) (sym more)
    (both_lost (flat_map lost (take i ready)) (lost r) spared old mid new before (subst (λ (tags : List Tag). LoseTags tags spared mid new) same next))

-- the documents are members of the tag
members_spared : (batches : List FlatBatch) (members : ℕ) → HaveSet batches members
    → All (λ n. (n < DOC_COUNT) × (has_doc members n ≡ true)) (docs_of batches)
members_spared batches members have k d lt = (all_there batches have.named k d lt, named_bit batches members _ have ∙ all_named batches k d lt)

pub all_spared : (batches : List FlatBatch) (ready : List DocReady) (g : GroupState) (members : ℕ) → HaveSet batches members
    → AreBatchesReady g batches ready → All (λ (r : DocReady). (r.doc < DOC_COUNT) × (has_doc members r.doc ≡ true)) ready
all_spared batches ready g members have is =
    docs_kept (λ n. (n < DOC_COUNT) × (has_doc members n ≡ true)) batches ready g is (members_spared batches members have)

some_edit : (ops : Option (List Op)) (m : ModelState) (r : Prepared) → IsBatchReady ops m (Some r) → IsSomeEdit m r
some_edit None m r is = absurd cc
some_edit (Some ops) m r is = record { ops = ops; is = is }

-- of what was prepared nothing is lost
pub all_left : (lost : List Tag) (batches : List FlatBatch) (ready : List DocReady) (old new : GroupState) (members : ℕ) → HaveSet batches members
    → LoseTags lost members old new → AreBatchesReady old batches ready → All (IsReadyIn IsSomeEdit new) ready
all_left lost batches ready old new members have left is k d lt =
    let there = each_ready _ (λ n m x. ⊤) old ready is.all IsSomeEdit (λ n. some_edit (batch_for n batches)) k d lt in
    let spared = (all_spared batches ready old members have is k d lt).1 in
    record { there = there.there; ready = λ m at. there.ready m (sym (left.same _ spared) ∙ at) }

-- ---- carried out

some_alone : (f : FlatState) (ops : List Op) → 0 < length ops → edited_alone f ops ≡ closed_after (flat_edit (flat_stop f) ops)
some_alone f [] some = absurd (omega arith)
some_alone f (op ∷ ops) some = refl

edit_step : (f g : FlatState) (answer : Result (List Op) BatchRefusal) → edited_by (flat_stop f) answer ≡ Ok g → 0 < length g.history.undo
edit_step f g (Err why) is = absurd cc
edit_step f g (Ok ops) is =
    accepted_value (λ (f : FlatState). 0 < length f.history.undo) (nat_le greatest_version f.version) (after_batch (flat_stop f) ops) g is (omega arith)

-- it makes a step
pub alone_step : (ops : List Op) (m : ModelState) (ready : Prepared) (new : FlatState) → IsEditReady ops m ready
    → ActsAlone ready.action m.document new
    → 0 < length new.history.undo
alone_step ops m ready new is done =
    let f : FlatState = m.document in
    let sorted : List Op = ops_as_done f ops in
    let acts : flat_edit (flat_stop f) sorted ≡ Ok done.made = subst (λ a. Acts a (flat_stop f) done.made) is.action done.acts in
    subst (λ (g : FlatState). 0 < length g.history.undo) (sym done.closed) (edit_step f done.made (checked_batch f.kind f.units sorted) acts)

-- a batch is carried out as the rule does it
alone_as_rule : (tag : Tag) (ops : List Op) (m : ModelState) (ready : Prepared) (new : FlatState) → IsEditReady ops m ready → 0 < length ops
    → ActsTagged tag ready.action m.document new → new ≡ tagged_after tag m.document (edited_alone m.document ops)
alone_as_rule tag ops m ready new is some done =
    let f : FlatState = m.document in
    let sorted : List Op = ops_as_done f ops in
    let rule : checked_batch f.kind f.units ops ≡ Ok sorted = ruled f ops (checked_batch f.kind f.units ops) (after_batch f sorted) refl is.accepted in
    let acts : flat_edit (flat_stop f) sorted ≡ Ok done.alone.made = subst (λ a. Acts a (flat_stop f) done.alone.made) is.action done.alone.acts in
    let edited : flat_edit (flat_stop f) ops ≡ Ok done.alone.made = sym (edit_again (flat_stop f) ops sorted rule) ∙ acts in
    let made : edited_alone f ops ≡ Ok (Some done.made) =
    some_alone f ops some ∙ ap closed_after edited ∙ ap (λ g. Ok (Some g)) (sym done.alone.closed) in
    done.tagged ∙ sym (ap (tagged_after tag f) made)

some_batch : (P : List Op → Type 0) (batches : List FlatBatch) (n : ℕ) (ops : List Op) → All (λ (b : FlatBatch). P b.ops) batches
    → batch_for n batches ≡ Some ops → P ops
some_batch P [] n ops all found = absurd cc
some_batch P (b ∷ batches) n ops all found =
    by (b.doc == n) found (λ later. some_batch P batches n ops (All-tail (λ (b : FlatBatch). P b.ops) b batches all) later)
  where
    by : (here : Bool) → (if here then Some b.ops else batch_for n batches) ≡ Some ops → (batch_for n batches ≡ Some ops → P ops) → P ops
    by true found later = let is : b.ops ≡ ops = cc in subst P is (All-head (λ (b : FlatBatch). P b.ops) b batches all)
    by false found later = later found

not_named : (batches : List FlatBatch) (n : ℕ) → batch_for n batches ≡ None → is_named n batches ≡ false
not_named [] n none = refl
not_named (b ∷ batches) n none =
    let parts = not_first (b.doc == n) b.ops (batch_for n batches) none in
    or_from (b.doc == n) (is_named n batches) parts.0 (not_named batches n parts.1)

-- what it leaves of the last parse, where the model was prepared for it
edited_as_kept : (ops : List Op) (old mid new : ModelState) (ready : Prepared) → Keeps old mid → IsEditReady ops mid ready → HasActed ready.action mid new
    → HasEdited ops (Ok tt) old new
edited_as_kept ops old mid new ready kept is acted =
    let left = edits_leave ops mid new (subst (λ a. HasActed a mid new) is.action acted) in
    let marks : marks_edited mid ops ≡ marks_edited old ops =
    ap (λ (f : FlatState). marked_backwards f.units (ops_as_done f ops) mid.marks) kept.document
    ∙ ap (marked_backwards old.document.units (ops_as_done old.document ops)) kept.parse.marks in
    leaves_from (edit_count (ops_as_done old.document ops)) (length ops) (marks_edited old ops) old mid new kept.parse
    (leaves_as _ (edit_count (ops_as_done old.document ops)) _ (length ops) _ (marks_edited old ops) mid new
    (ap (λ (f : FlatState). edit_count (ops_as_done f ops)) kept.document) refl marks left)

-- The group after all is the one that the rule makes.
pub record IsJoined (batches : List FlatBatch) (old new : GroupState) : Type 0 where
  pub documents : group_joint (documents old) batches ≡ Ok (documents new)
  pub models : AllJoin batches (Ok tt) old new

module _ (batches : List FlatBatch) (ready : List DocReady) (members : ℕ) (tag : Tag) (old mid left new : GroupState)
    (have : HaveSet batches members) (some : All (λ (b : FlatBatch). 0 < length b.ops) batches)
    (tag_is : tag ≡ tag_of (documents old) batches) (kept : KeepAll old mid) (is : AreBatchesReady mid batches ready)
    (lost : LoseTags (flat_map (λ (r : DocReady). lost_by_change (doc_in (documents mid) r.doc)) ready) members mid left)
    (done : CommitAll (ActsTagged tag) ready left new) where
  lost_is : flat_map (λ (r : DocReady). lost_by_change (doc_in (documents mid) r.doc)) ready ≡ lost_by_joint (documents old) batches
  lost_is = batches_lost batches ready mid (documents mid) is ∙ ap (λ g. lost_by_joint g batches) kept.documents

  one_joined : (n : ℕ) (was m between k : ModelState) (ops : Option (List Op)) (found : Option Prepared) → batch_for n batches ≡ ops
      → slice_get mid n ≡ Some m → slice_get left n ≡ Some between → Keeps was m → IsBatchReady ops m found → Committed (ActsTagged tag) found between k
      → (k.document ≡ joined_doc (tag_of (documents old) batches) (lost_by_joint (documents old) batches) n was.document ops) × HasJoined ops was k
  one_joined n was m between k (Some ops) (Some r) named at_mid at_left keeps ready does =
      let spared : has_doc members n ≡ true = named_bit batches members n have ∙ named_batch batches n ops named in
      let e : Some between ≡ Some m = sym at_left ∙ lost.same n spared ∙ at_mid in
      let same : between ≡ m = cc in
      let done = subst (λ m. Does (ActsTagged tag) r.action m k) same does in (
        alone_as_rule tag ops m r k.document ready (some_batch (λ ops. 0 < length ops) batches n ops some named) done.document
            ∙ ap (λ t. tagged_after t m.document (edited_alone m.document ops)) tag_is
            ∙ ap (λ f. tagged_after (tag_of (documents old) batches) f (edited_alone f ops)) keeps.document,
        edited_as_kept ops was m k r keeps ready done.parse,
      )
  one_joined n was m between k (Some ops) None named at_mid at_left keeps ready does = absurd ready
  one_joined n was m between k None (Some r) none at_mid at_left keeps ready does = absurd cc
  one_joined n was m between k None None none at_mid at_left keeps ready does =
      let bare : has_doc members n ≡ false = named_bit batches members n have ∙ not_named batches n none in (
        ap (λ (m : ModelState). m.document) does ∙ document_lost _ members n mid left m between lost bare at_mid at_left
            ∙ ap (λ tags. without_tags tags n m.document) lost_is ∙ ap (without_tags (lost_by_joint (documents old) batches) n) keeps.document,
        KeepsParse-then was m k keeps.parse (subst (KeepsParse m) (sym does) (lost.each n m between at_mid at_left).parse),
      )

  each_joined : (n : ℕ) (was k : ModelState) → slice_get old n ≡ Some was → slice_get new n ≡ Some k
      → (k.document ≡ joined_doc (tag_of (documents old) batches) (lost_by_joint (documents old) batches) n was.document (batch_for n batches))
      × HasJoined (batch_for n batches) was k
  each_joined n was k at_old at_new =
      let m = item_within mid n (omega (arith, slice_get_within old n was at_old, same_count old mid kept.documents)) in
      let between = item_within left n (omega (arith, slice_get_within mid n m.0 m.1, lost.count)) in
      one_joined n was m.0 between.0 k (batch_for n batches) (ready_for n ready) refl m.1 between.1 (kept_at old mid n was m.0 kept at_old m.1)
      (is.all.each n m.0 m.1) (done.each n between.0 k between.1 at_new)

  pub all_joined : joint_refusal (documents old) batches ≡ None → IsJoined batches old new
  all_joined accepted = record {
    documents = ap (unless_refused (joined (documents old) batches)) accepted
        ∙ ap (λ g. Ok g) (each_document (λ n f. joined_doc (tag_of (documents old) batches) (lost_by_joint (documents old) batches) n f (batch_for n batches)) old new
        (done.count ∙ lost.count ∙ same_count old mid kept.documents) (λ n was k at_old at_new. (each_joined n was k at_old at_new).0));
    models = λ n was k at_old at_new. (each_joined n was k at_old at_new).1;
  }

-- a refusal leaves all models as they were
pub refused_models : (batches : List FlatBatch) (r : Result ⊤ GroupError) (old new : GroupState) → IsErr r → KeepAllParses old new → AllJoin batches r old new
refused_models batches (Ok x) old new is kept = absurd (true≢false (sym is))
refused_models batches (Err e) old new is kept = kept
