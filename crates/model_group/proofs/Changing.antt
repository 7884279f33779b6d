-- Changes of one document: refused as the rule refuses them, or carried out after tags were lost.
use Rattle.std.proofs.Common.{◌≡◌, ℕ, ◌<◌, ◌^◌, arith, set, Bool, true, List, length, Result, Ok, Err, Option, None, Some, slice_get, refl, sym, subst, ap, ◌∙◌}
use Rattle.std.proofs.lemmas.List.{length-set}
use Rattle.std.proofs.lemmas.Option.{slice_get_within}
use Rattle.undo_rules.specs.declared.Tag.{Tag}
use Rattle.document_rules.specs.declared.ModelError.{ModelError}
use Rattle.document_rules.specs.declared.ModelError.TheVariants.{Memory}
use Rattle.document_rules.specs.Refusals.{FlatRefusal}
use Rattle.document_rules.specs.Outcomes.{RefusedFor}
use Rattle.document_rules.specs.Document.{FlatState, flat_open, flat_edit, flat_eol}
use Rattle.text_rules.specs.declared.Op.{Op}
use Rattle.unit_text.specs.declared.kind.Kind.{Kind}
use Rattle.hiding_rules.specs.Hidden.{Scanner}
use Rattle.search_rules.specs.Replacing.{flat_replace_all}
use Rattle.group_rules.specs.declared.TheConstants.{DOC_COUNT}
use Rattle.group_rules.specs.Group.{FlatGroup, doc_in, lost_by_change, lost_by_open, with_changed, changed_in, moved_in, group_open}
use Rattle.group_rules.specs.Together.{Stay, reached}
use Rattle.group_rules.proofs.Together.{changed_others_stay}
use Rattle.model_core.specs.declared.ready.Action.{Action}
use Rattle.model_core.specs.Edited.{HasEdited, HasRecast}
use Rattle.model_core.specs.Prepared.{Prepared, Acts, ActsAlone, IsEditReady, PreparesEdit, PreparesEol}
use Rattle.model_core.specs.Replaced.{HasReplaced, PreparesReplace}
use Rattle.model_core.specs.State.{ModelState, KeepsParse}
use Rattle.model_core.proofs.Preparing.{edited_as_prepared, recast_as_prepared}
use Rattle.model_core.proofs.Searching.{replaced_as_prepared}
use Rattle.model_group.specs.declared.ready.DocReady.{DocReady}
use Rattle.model_group.specs.State.{GroupState, OnDoc, KeepAll, KeepAllParses, ActsOn, documents}
use Rattle.model_group.specs.Losing.{LoseTags}
use Rattle.model_group.specs.Prepared.{IsReadyIn, Prepares, Does, Commits, IsChange}
use Rattle.model_group.proofs.Lists.{slice_get-set_same, slice_get-set_other, item_within, doc_in-is}
use Rattle.model_group.proofs.Losses.{has_doc-one, changed_alone}
use Rattle.model_group.proofs.Parses.{KeepsParse-then}
use Rattle.model_group.proofs.Committing.{there_after, after_is, each_on, same_count, kept_all, kept_document}

-- ---- refusals

-- why the document is refused, the group is
refused_by : {A B : Type 0} (told : Result A FlatRefusal → Result B FlatRefusal) (e : ModelError) (rule : Result A FlatRefusal)
    → ((why : FlatRefusal) → told (Err why) ≡ Err why) → RefusedFor e rule → RefusedFor e (told rule)
refused_by told Memory rule same why = tt
refused_by told e rule same why = ap told why ∙ same _

-- ---- all stays

pub kept_on : (n : ℕ) (old new : GroupState) → KeepAllParses old new → ActsOn n KeepsParse old new
kept_on n old new kept i m k was is = let same = kept i m k was is in (λ _. same, λ _. same)

pub all_stay : (docs : ℕ → Bool) (g h : FlatGroup) → h ≡ g → Stay docs g h
all_stay docs g h same n off = ap (λ g. doc_in g n) same

-- what was prepared kept all models, and the refusal of the document is one of the group
module _ (n : ℕ) (told : ModelState → Type 0) (old mid : GroupState) (on : OnDoc n (Prepares told) old mid) where
  there_as : {A : Type 0} (rule : FlatState → A) → rule (doc_in (documents old) n) ≡ rule on.after.document
  there_as rule = ap rule (kept_document n told old mid on)

  same_documents : documents mid ≡ documents old
  same_documents = (kept_all n told old mid on).documents

  abbrev lost : List Tag
  lost = lost_by_change (doc_in (documents old) n)

  pub refused_change : (e : ModelError) (rule : FlatState → Result FlatState FlatRefusal) → RefusedFor e (rule on.after.document)
      → (documents mid ≡ documents old) × RefusedFor e (changed_in (documents old) lost n (rule (doc_in (documents old) n)))
  refused_change e rule why =
      (same_documents, refused_by (changed_in (documents old) lost n) e _ (λ why. refl) (subst (RefusedFor e) (sym (there_as rule)) why))

  pub refused_move : (e : ModelError) (rule : FlatState → Result (Option FlatState) FlatRefusal) → RefusedFor e (rule on.after.document)
      → (documents mid ≡ documents old) × RefusedFor e (moved_in (documents old) lost n (rule (doc_in (documents old) n)))
  refused_move e rule why =
      (same_documents, refused_by (moved_in (documents old) lost n) e _ (λ why. refl) (subst (RefusedFor e) (sym (there_as rule)) why))

  pub idle_there : (rule : FlatState → Result (Option FlatState) FlatRefusal) → rule on.after.document ≡ Ok None
      → (moved_in (documents old) lost n (rule (doc_in (documents old) n)) ≡ Ok None) × (documents mid ≡ documents old)
  idle_there rule none = (ap (moved_in (documents old) lost n) (there_as rule ∙ none), same_documents)

  pub prepared_on : (P : ModelState → Prepared → Type 0) (ready : Prepared) → n < DOC_COUNT → P on.after ready
      → IsReadyIn P mid (record { doc = n; ready = ready })
  prepared_on P ready inside is = record { there = inside; ready = λ m at. subst (λ m. P m ready) (after_is n (Prepares told) old mid on m at) is }

pub edit_is_change : (ops : List Op) (now : ModelState) (ready : Prepared) → IsEditReady ops now ready → IsChange ready.action
edit_is_change ops now ready is = subst IsChange (sym is.action) tt

-- ---- carried out after tags were lost

module _ (one : DocReady) (old read left : GroupState) (same : read ≡ old) (spared : ℕ) (alone : spared ≡ 2 ^ one.doc)
    (lost : LoseTags (lost_by_change (doc_in (documents read) one.doc)) spared read left) where
  alone_lost : LoseTags (lost_by_change (doc_in (documents old) one.doc)) (2 ^ one.doc) old left
  alone_lost =
      subst (λ g. LoseTags (lost_by_change (doc_in (documents g) one.doc)) (2 ^ one.doc) g left) same
      (subst (λ spared. LoseTags (lost_by_change (doc_in (documents read) one.doc)) spared read left) alone lost)

  same_there : slice_get left one.doc ≡ slice_get old one.doc
  same_there = alone_lost.same one.doc (has_doc-one one.doc)

  pub still_ready : (P : ModelState → Prepared → Type 0) → IsReadyIn P old one → IsReadyIn P left one
  still_ready P ready = record { there = ready.there; ready = λ m at. ready.ready m (sym same_there ∙ at) }

  pub commits : (act : Action → FlatState → FlatState → Type 0) (new : GroupState) → OnDoc one.doc (Does act one.ready.action) left new
      → Commits act one old new
  commits act new on =
      let n = one.doc in
      let tags = lost_by_change (doc_in (documents old) n) in
      record {
        count = ap length on.rest ∙ length-set left n on.after ∙ alone_lost.count;
        documents = ap documents on.rest ∙ changed_alone tags n old left on.after alone_lost
            ∙ ap (with_changed (documents old) tags n) (sym (doc_in-is new n on.after (there_after n _ left new on)));
        models = λ i m k was is.
            let mid = item_within left i (omega (arith, slice_get_within old i m was, alone_lost.count)) in
            let each = each_on n _ left new on i mid.0 k mid.1 is in (
              λ same.
                  let e : Some mid.0 ≡ Some m = sym mid.1 ∙ ap (slice_get left) same ∙ same_there ∙ ap (slice_get old) (sym same) ∙ was in
                  let first : mid.0 ≡ m = cc in
                  subst (λ m. Does act one.ready.action m k) first (each.0 same),
              λ other. subst (KeepsParse m) (sym (each.1 other)) (alone_lost.each i m mid.0 was mid.1).parse,
            );
      }

-- ---- prepared, and carried out

-- a change of the document by its rule, and what it left of the last parse
pub record Changed (n : ℕ) (by_rule : FlatState → FlatState → Type 0) (left : ModelState → ModelState → Type 0) (old new : GroupState) : Type 0 where
  pub rule : by_rule (doc_in (documents old) n) (doc_in (documents new) n)
  pub stay : Stay (reached n (lost_by_change (doc_in (documents old) n))) (documents old) (documents new)
  pub models : ActsOn n left old new
  pub documents : documents new ≡ with_changed (documents old) (lost_by_change (doc_in (documents old) n)) n (doc_in (documents new) n)

-- the rule's new group
module _ (g h : FlatGroup) (n : ℕ) (made : h ≡ with_changed g (lost_by_change (doc_in g n)) n (doc_in h n)) where
  pub made_change : (r : Result FlatState FlatRefusal) → r ≡ Ok (doc_in h n) → changed_in g (lost_by_change (doc_in g n)) n r ≡ Ok h
  made_change r is = ap (changed_in g (lost_by_change (doc_in g n)) n) is ∙ ap (λ g. Ok g) (sym made)

  pub made_move : (r : Result (Option FlatState) FlatRefusal) → r ≡ Ok (Some (doc_in h n)) → moved_in g (lost_by_change (doc_in g n)) n r ≡ Ok (Some h)
  made_move r is = ap (moved_in g (lost_by_change (doc_in g n)) n) is ∙ ap (λ g. Ok (Some g)) (sym made)

module _ (n : ℕ) (told : ModelState → Type 0) (old mid new : GroupState) (on : OnDoc n (Prepares told) old mid) (act : Action → FlatState → FlatState → Type 0)
    (ready : Prepared) (done : Commits act (record { doc = n; ready = ready }) mid new) (by_rule : FlatState → FlatState → Type 0)
    (left : ModelState → ModelState → Type 0)
    (by : (k : ModelState) → Does act ready.action on.after k → by_rule on.before.document k.document × left on.before k) where
  kept : KeepAll old mid
  kept = kept_all n told old mid on

  does : (k : ModelState) → slice_get new n ≡ Some k → by_rule on.before.document k.document × left on.before k
  does k is = by k ((done.models n on.after k (there_after n _ old mid on) is).0 refl)

  there : (k : ModelState) × (slice_get new n ≡ Some k)
  there = item_within new n (omega (arith, slice_get_within mid n on.after (there_after n _ old mid on), done.count))

  made : documents new ≡ with_changed (documents old) (lost_by_change (doc_in (documents old) n)) n (doc_in (documents new) n)
  made = subst (λ g. documents new ≡ with_changed g (lost_by_change (doc_in g n)) n (doc_in (documents new) n)) kept.documents done.documents

  pub carried_out : Changed n by_rule left old new
  carried_out = record {
    rule = subst (λ f. by_rule f (doc_in (documents new) n)) (sym (doc_in-is old n on.before on.is))
        (subst (by_rule on.before.document) (sym (doc_in-is new n there.0 there.1)) (does there.0 there.1).0);
    documents = made;
    models = λ i m k was is. (
      λ same.
          let e : Some on.before ≡ Some m = sym on.is ∙ ap (slice_get old) (sym same) ∙ was in
          let before : on.before ≡ m = cc in
          subst (λ m. left m k) before (does k (ap (slice_get new) (sym same) ∙ is)).1,
      λ other.
          let x = item_within mid i (omega (arith, slice_get_within old i m was, same_count old mid kept.documents)) in
          KeepsParse-then m x.0 k (kept.parses i m x.0 was x.1) ((done.models i x.0 k x.1 is).1 other),
    );
    stay =
        let g = documents old in
        let lost = lost_by_change (doc_in g n) in
        subst (Stay (reached n lost) g) (sym made) (changed_others_stay g lost n (doc_in (documents new) n));
  }

-- ---- the calls

module _ (n : ℕ) (ready : Prepared) (old mid new : GroupState) where
  pub edited : (ops : List Op) → OnDoc n (Prepares (PreparesEdit ops (Ok ready))) old mid → Commits Acts (record { doc = n; ready = ready }) mid new
      → Changed n (λ f g. flat_edit f ops ≡ Ok g) (HasEdited ops (Ok tt)) old new
  edited ops on done =
      carried_out n _ old mid new on Acts ready done _ _ (λ k does.
      let is = edited_as_prepared on.before on.after k ready on.done.kept.document on.done.kept.parse does.document does.parse ops on.done.ready in
      (is.document, is.parse))

  pub recast : (kind : Kind) → OnDoc n (Prepares (PreparesEol kind (Ok (Some ready)))) old mid → Commits Acts (record { doc = n; ready = ready }) mid new
      → Changed n (λ f g. flat_eol f kind ≡ Ok (Some g)) (HasRecast kind (Ok true)) old new
  recast kind on done =
      carried_out n _ old mid new on Acts ready done _ _ (λ k does.
      let is = recast_as_prepared on.before on.after k ready on.done.kept.document on.done.kept.parse does.document does.parse kind on.done.ready in
      (is.document, is.parse))

  pub replaced : (sought text : List ℕ) → OnDoc n (Prepares (PreparesReplace sought text (Ok (Some ready)))) old mid
      → Commits ActsAlone (record { doc = n; ready = ready }) mid new
      → Changed n (λ f g. flat_replace_all f sought text ≡ Ok (Some g)) (HasReplaced sought text (Ok true)) old new
  replaced sought text on done =
      carried_out n _ old mid new on ActsAlone ready done _ _ (λ k does.
      let is = replaced_as_prepared on.after k ready does.document does.parse on.before sought text on.done.kept.document on.done.kept.parse on.done.ready in
      (is.document, is.parse))

-- a new document in place of the one of this number
module _ (n : ℕ) (old left : GroupState) (new : ModelState) (lost : LoseTags (lost_by_open (doc_in (documents old) n)) (2 ^ n) old left) where
  pub opened : (text : List ℕ) (scanner : Scanner) (kind : Kind) → flat_open text scanner kind ≡ Ok new.document
      → group_open (documents old) n text scanner kind ≡ Ok (documents (set left n new))
  opened text scanner kind rule =
      let g : FlatGroup = documents old in
      ap (changed_in g (lost_by_open (doc_in g n)) n) rule ∙ ap (λ h. Ok h) (sym (changed_alone (lost_by_open (doc_in g n)) n old left new lost))

  pub opened_models : (P : ModelState → Type 0) → P new → ActsOn n (λ _ k. P k) old (set left n new)
  opened_models P is i m k was at = (
    λ same.
        let inside : n < length left = omega (arith, slice_get_within (set left n new) i k at, length-set left n new) in
        let e : Some new ≡ Some k = sym (slice_get-set_same left n new inside) ∙ ap (slice_get (set left n new)) (sym same) ∙ at in
        let here : new ≡ k = cc in
        subst P here is,
    λ other. (lost.each i m k was (sym (slice_get-set_other left n i new other) ∙ at)).parse,
  )
