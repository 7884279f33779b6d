-- Undo and redo of a step in all of its documents.
use Rattle.std.proofs.Common.{◌≡◌, ◌≢◌, ℕ, zero, suc, ◌+◌, ◌&&◌, ◌||◌, ◌<◌, ◌≤◌, arith, not, Bool, true, false, if◌then◌else◌, List, [], ◌∷◌, ◌++◌, length, drop, get_or, Option, Some, None, Result, Ok, Err, MatchResult, IsErrAnd, All, slice_get, refl, true≢false, sym, subst, ap, ◌∙◌, ⊎_elim, eqb-true, nat_lt, ◌==◌}
use Rattle.std.proofs.lemmas.Bool.{or_parts, and_parts, cases_eq, cases_lt, eqb-false, lt-ltb, le-ltb, ltb-true}
use Rattle.std.proofs.lemmas.List.Elements.{All-nil}
use Rattle.std.specs.Prelude.{⊤}
use Rattle.std.proofs.lemmas.List.{drop_all, drop_more}
use Rattle.std.proofs.lemmas.Option.{slice_get_within, slice_get_read, get_or_from_slice_get}
use Rattle.undo_rules.specs.declared.Tag.{Tag}
use Rattle.undo_rules.specs.Stack.{Step}
use Rattle.undo_rules.specs.Tags.{is_member}
use Rattle.document_rules.specs.declared.ModelError.{ModelError}
use Rattle.document_rules.specs.declared.ModelError.TheVariants.{Memory}
use Rattle.document_rules.specs.Refusals.{FlatRefusal, limit}
use Rattle.document_rules.specs.Outcomes.{RefusedFor, Moves}
use Rattle.document_rules.specs.Document.{FlatChange, FlatState, undone_step, redone_step}
use Rattle.group_rules.specs.Outcomes.{IsRefusedFor, MovesAll}
use Rattle.group_rules.specs.declared.GroupError.{GroupError}
use Rattle.group_rules.specs.declared.GroupError.TheVariants.{Memory as GroupMemory}
use Rattle.group_rules.specs.declared.TheConstants.{DOC_COUNT}
use Rattle.group_rules.specs.Group.{FlatGroup, doc_in, with_doc}
use Rattle.group_rules.specs.Going.{Going, undoing, redoing, is_front, is_last_version, some_last_from, other_next_from, gone_or_same, all_gone, go_together, gone_in, group_go}
use Rattle.group_rules.specs.Together.{Stay, AllGoOn}
use Rattle.group_rules.proofs.Changed.{IsMoving, undoing_moves, redoing_moves}
use Rattle.group_rules.proofs.Together.{go_others_stay, go_all_go_on}
use Rattle.mark_rules.specs.declared.Mark.{Mark}
use Rattle.model_page.specs.LineMarks.{marked_step}
use Rattle.model_page.specs.declared.change.Way.{Way}
use Rattle.model_page.specs.declared.change.Way.TheVariants.{Back, On}
use Rattle.model_core.specs.declared.ready.Action.TheVariants.{Move}
use Rattle.model_core.specs.State.{ModelState, KeepsParse, Leaves}
use Rattle.model_core.specs.Going.{HasGone}
use Rattle.model_core.specs.Ways.{next_steps, flat_move}
use Rattle.model_core.specs.Prepared.{Prepared, CanCommit, Acts, HasActed, IsMoveReady, PreparesMove, next_edit_count, next_marking_count}
use Rattle.model_core.proofs.Leaving.{leaves_from, leaves_as}
use Rattle.model_group.specs.Errors.{group_error_of}
use Rattle.model_group.specs.declared.ready.DocReady.{DocReady}
use Rattle.model_group.specs.Calls.{GoesOrStays, TheyGo, going_with}
use Rattle.model_group.specs.State.{GroupState, OnDoc, KeepAll, KeepAllParses, documents}
use Rattle.model_group.specs.Prepared.{ready_for, IsReadyIn, Keeps, Prepares, CommitAll, Committed, going_along, IsStepReady, AreStepsReady}
use Rattle.model_group.proofs.Lists.{item_within, length-documents, document_at, doc_in-is, documents-set}
use Rattle.model_group.proofs.Parses.{KeepsParse-same}
use Rattle.model_group.proofs.Changing.{all_stay}
use Rattle.model_group.proofs.Committing.{each_ready, ready_more, ready_kept, after_is, there_after, each_on, documents_kept, same_count, kept_at, kept_all, can_commit_kept, each_document}

-- ---- a walk over the documents

-- at the model of this number, for which the test answers this
module _ (tag : Tag) (models : GroupState) (n : ℕ) (m : ModelState) (lt : n < length models) (is : m ≡ get_or models n m) where
  next_document : drop n (documents models) ≡ m.document ∷ drop (n + 1) (documents models)
  next_document =
      let at = document_at models n m (slice_get_read models (length models) n m refl lt is) in
      drop_more (documents models) n m.document (omega (arith, lt, length-documents models))
      ∙ ap (λ f. f ∷ drop (n + 1) (documents models)) (get_or_from_slice_get (documents models) n m.document m.document at)

  one_more : suc n ≡ n + 1
  one_more = omega arith

  module _ (test : Bool) (told : test ≡ (is_member n tag && is_last_version m.document)) where
    last_step : some_last_from n tag (drop n (documents models)) ≡ (test || some_last_from (n + 1) tag (drop (n + 1) (documents models)))
    last_step =
        ap (some_last_from n tag) next_document
        ∙ ap (λ k. (is_member n tag && is_last_version m.document) || some_last_from k tag (drop (n + 1) (documents models))) one_more
        ∙ ap (λ t. t || some_last_from (n + 1) tag (drop (n + 1) (documents models))) (sym told)

    pub last_found : test ≡ true → some_last_from n tag (drop n (documents models)) ≡ true
    last_found so = last_step ∙ ap (λ t. t || some_last_from (n + 1) tag (drop (n + 1) (documents models))) so

    pub last_passed : test ≡ false → some_last_from n tag (drop n (documents models)) ≡ some_last_from (n + 1) tag (drop (n + 1) (documents models))
    last_passed so = last_step ∙ ap (λ t. t || some_last_from (n + 1) tag (drop (n + 1) (documents models))) so

  module _ (going : Going) (test : Bool) (told : test ≡ (is_member n tag && not (is_front tag (going.steps m.document)))) where
    other_step : other_next_from n going tag (drop n (documents models))
        ≡ (if test then Some n else other_next_from (n + 1) going tag (drop (n + 1) (documents models)))
    other_step =
        ap (other_next_from n going tag) next_document
        ∙ ap (λ k. if is_member n tag && not (is_front tag (going.steps m.document)) then Some n
        else other_next_from k going tag (drop (n + 1) (documents models))) one_more
        ∙ ap (λ t. if t then Some n else other_next_from (n + 1) going tag (drop (n + 1) (documents models))) (sym told)

    pub other_found : test ≡ true → other_next_from n going tag (drop n (documents models)) ≡ Some n
    other_found so = other_step ∙ ap (λ t. if t then Some n else other_next_from (n + 1) going tag (drop (n + 1) (documents models))) so

    pub other_passed : test ≡ false
        → other_next_from n going tag (drop n (documents models)) ≡ other_next_from (n + 1) going tag (drop (n + 1) (documents models))
    other_passed so = other_step ∙ ap (λ t. if t then Some n else other_next_from (n + 1) going tag (drop (n + 1) (documents models))) so

pub no_more : (models : GroupState) (n : ℕ) → length models ≤ n → drop n (documents models) ≡ []
no_more models n past = drop_all n (documents models) (omega (arith, length-documents models, past))

-- where none is in its last version, this one is not
none_last : (first : ℕ) (tag : Tag) (g : FlatGroup) (n : ℕ) (f : FlatState) → some_last_from first tag g ≡ false → slice_get g n ≡ Some f
    → is_member (first + n) tag ≡ true → is_last_version f ≡ false
none_last first tag [] n f none is member = absurd cc
none_last first tag (h ∷ g) zero f none is member =
    let same : h ≡ f = cc in
    let there : first + 0 ≡ first = omega arith in
    let now = or_parts (is_member first tag && is_last_version h) (some_last_from (suc first) tag g) none in
    subst (λ f. is_last_version f ≡ false) same (sym (ap (λ t. t && is_last_version h) (ap (λ k. is_member k tag) (sym there) ∙ member)) ∙ now.0)
none_last first tag (h ∷ g) (suc n) f none is member =
    let there : suc first + n ≡ first + suc n = omega arith in
    let now = or_parts (is_member first tag && is_last_version h) (some_last_from (suc first) tag g) none in
    none_last (suc first) tag g n f now.1 is (ap (λ k. is_member k tag) there ∙ member)

-- ---- one step

unless_last : (is_last : Bool) (new : FlatState) (why : FlatRefusal) → is_last ≡ false → (if is_last then Err limit else Ok (Some new)) ≡ Err why → ⊥
unless_last true new why below is = absurd cc
unless_last false new why below is = absurd cc

undo_refused : (f : FlatState) (steps : List (Step FlatChange)) (why : FlatRefusal) → is_last_version f ≡ false → undone_step f steps ≡ Err why → ⊥
undo_refused f [] why below is = absurd cc
undo_refused f (step ∷ steps) why below is = unless_last (is_last_version f) _ why below is

redo_refused : (f : FlatState) (steps : List (Step FlatChange)) (why : FlatRefusal) → is_last_version f ≡ false → redone_step f steps ≡ Err why → ⊥
redo_refused f [] why below is = absurd cc
redo_refused f (step ∷ steps) why below is = unless_last (is_last_version f) _ why below is

move_refused : (way : Way) (f : FlatState) (why : FlatRefusal) → is_last_version f ≡ false → flat_move way f ≡ Err why → ⊥
move_refused Back f why below is = undo_refused f f.history.undo why below is
move_refused On f why below is = redo_refused f f.history.redo why below is

-- before the last version only want of memory refuses
only_memory : (way : Way) (f : FlatState) (e : ModelError) → is_last_version f ≡ false → RefusedFor e (flat_move way f) → e ≡ Memory
only_memory way f Memory below why = refl
only_memory way f e below why = absurd (move_refused way f _ below why)

no_step : (way : Way) (f : FlatState) → next_steps way f.history ≡ [] → flat_move way f ≡ Ok None
no_step Back f none = ap (undone_step f) none
no_step On f none = ap (redone_step f) none

pub rule_along : (way : Way) (f : FlatState) → (going_along way).rule f ≡ flat_move way f
rule_along Back f = refl
rule_along On f = refl

-- ---- a step of one document alone

alone_refused : (g : FlatGroup) (n : ℕ) (e : ModelError) (rule : Result (Option FlatState) FlatRefusal) → RefusedFor e rule
    → IsRefusedFor (group_error_of e) (gone_in g n rule)
alone_refused g n Memory rule why = tt
alone_refused g n e rule why = ap (gone_in g n) why

goes_or_stays : (way : Way) (goes : Bool) (m k : ModelState) → (goes ≡ true → HasGone way (Ok true) m k) → (goes ≡ false → KeepsParse m k)
    → GoesOrStays way goes m k
goes_or_stays way true m k go stay = go refl
goes_or_stays way false m k go stay = stay refl

-- the answer of the document is told of the group
module _ (way : Way) (n : ℕ) (old new : GroupState) where
  rule_is : (before : ModelState) → slice_get old n ≡ Some before → (going_along way).rule (doc_in (documents old) n) ≡ flat_move way before.document
  rule_is before is = rule_along way (doc_in (documents old) n) ∙ ap (flat_move way) (doc_in-is old n before is)

  abbrev IsTold : Result Bool GroupError → Type 0
  IsTold told =
      MovesAll told (documents old) (documents new) (gone_in (documents old) n ((going_along way).rule (doc_in (documents old) n)))
      × TheyGo way (λ i. i == n) told old new

  module _ (answer : Result Bool ModelError)
      (on : OnDoc n (λ m k. Moves answer m.document k.document (flat_move way m.document) × HasGone way answer m k) old new) where
    all_keep : ((m k : ModelState) → HasGone way answer m k → KeepsParse m k) → KeepAllParses old new
    all_keep keeps i m k was is =
        let each = each_on n _ old new on i m k was is in
        ⊎_elim (λ same. keeps m k (each.0 same).1) (λ other. subst (KeepsParse m) (sym (each.1 other)) (KeepsParse-same m)) (cases_eq i n)

  pub alone_moved : (answer : Result Bool ModelError) (told : Result Bool GroupError)
      → MatchResult answer (λ moved. told ≡ Ok moved) (λ e. IsErrAnd told (λ y. y ≡ group_error_of e))
      → OnDoc n (λ m k. Moves answer m.document k.document (flat_move way m.document) × HasGone way answer m k) old new → IsTold told
  alone_moved (Ok true) told is on =
      let rule = ap (gone_in (documents old) n) (rule_is on.before on.is ∙ on.done.0) in
      let made : documents new ≡ with_doc (documents old) n on.after.document = ap documents on.rest ∙ documents-set old n on.after in
      subst IsTold (sym is) (
        rule ∙ ap (λ g. Ok (Some g)) (sym made),
        λ i m k was at.
            let each = each_on n _ old new on i m k was at in
            goes_or_stays way (i == n) m k (λ e. (each.0 (eqb-true i n e)).1)
            (λ e. subst (KeepsParse m) (sym (each.1 (eqb-false i n e))) (KeepsParse-same m)),
      )
  alone_moved (Ok false) told is on =
      let rule = ap (gone_in (documents old) n) (rule_is on.before on.is ∙ on.done.0.0) in
      subst IsTold (sym is) ((rule, documents_kept n _ old new on on.done.0.1), all_keep (Ok false) on (λ m k kept. kept))
  alone_moved (Err e) (Ok x) is on = absurd is
  alone_moved (Err e) (Err y) is on = (
    (
      documents_kept n _ old new on on.done.0.0,
      subst (λ y. IsRefusedFor y (gone_in (documents old) n ((going_along way).rule (doc_in (documents old) n)))) (sym is)
          (alone_refused (documents old) n e _ (subst (RefusedFor e) (sym (rule_is on.before on.is)) on.done.0.1)),
    ),
    all_keep (Err e) on (λ m k kept. kept),
  )

-- ---- prepared one after another

step_kept : (way : Way) (of_tag : Bool) (old new : ModelState) (ready : Option Prepared) → Keeps old new → IsStepReady way of_tag old ready
    → IsStepReady way of_tag new ready
step_kept way of_tag old new None kept is = λ member. ap (λ f. next_steps way f.history) kept.document ∙ is member
step_kept way of_tag old new (Some ready) kept is =
    (is.0, record { action = is.1.action; can = can_commit_kept old new ready kept is.1.can })

-- none is ready for a document that is no member
no_member : (way : Way) (of_tag : Bool) (m : ModelState) (x : Option Prepared) → of_tag ≡ false → IsStepReady way of_tag m x → x ≡ None
no_member way of_tag m None not is = refl
no_member way of_tag m (Some r) not is = absurd (true≢false (sym is.0 ∙ not))

pub no_steps : (way : Way) (tag : Tag) (g : GroupState) → AreStepsReady way tag 0 g []
no_steps way tag g = record {
  apart = tt;
  there = All-nil (λ (r : DocReady). r.doc < DOC_COUNT);
  each = λ n m at member. absurd (omega (arith, ltb-true n 0 (and_parts (nat_lt n 0) (is_member n tag) member).0));
}

-- another document is below the next number too
below_next : (n end : ℕ) → n ≢ end → nat_lt n (end + 1) ≡ nat_lt n end
below_next n end other =
    ⊎_elim (λ below. lt-ltb n (end + 1) (omega (arith, below)) ∙ sym (lt-ltb n end below))
    (λ past. le-ltb n (end + 1) (omega (arith, past, other)) ∙ sym (le-ltb n end past)) (cases_lt n end)

module _ (way : Way) (tag : Tag) (end : ℕ) (g : GroupState) (ready : List DocReady) (h : AreStepsReady way tag end g ready) where
  none_yet : (m : ModelState) → slice_get g end ≡ Some m → ready_for end ready ≡ None
  none_yet m at =
      no_member way (nat_lt end end && is_member end tag) m (ready_for end ready) (ap (λ t. t && is_member end tag) (le-ltb end end (omega arith)))
      (h.each end m at)

  others : (n : ℕ) (m : ModelState) (x : Option Prepared) → n ≢ end → IsStepReady way (nat_lt n end && is_member n tag) m x
      → IsStepReady way (nat_lt n (end + 1) && is_member n tag) m x
  others n m x other is = subst (λ t. IsStepReady way (t && is_member n tag) m x) (sym (below_next n end other)) is

  -- nothing is to be prepared for the next document
  pub none_more : ((m : ModelState) → slice_get g end ≡ Some m → is_member end tag ≡ true → next_steps way m.document.history ≡ [])
      → AreStepsReady way tag (end + 1) g ready
  none_more none = record {
    apart = h.apart;
    there = h.there;
    each = λ n m at.
        ⊎_elim
        (λ same.
        let here = ap (slice_get g) (sym same) ∙ at in
        subst (λ i. IsStepReady way (nat_lt i (end + 1) && is_member i tag) m (ready_for i ready)) (sym same)
        (subst (IsStepReady way (nat_lt end (end + 1) && is_member end tag) m) (sym (none_yet m here))
        (λ member. none m here (and_parts (nat_lt end (end + 1)) (is_member end tag) member).1)))
        (λ other. others n m (ready_for n ready) other (h.each n m at)) (cases_eq n end);
  }

  -- its step is prepared
  one_step_more : (one : Prepared) (m : ModelState) → slice_get g end ≡ Some m → end < DOC_COUNT → is_member end tag ≡ true → IsMoveReady way m one
      → AreStepsReady way tag (end + 1) g (ready ++ record { doc = end; ready = one } ∷ [])
  one_step_more one m at there member is =
      ready_more _ (λ n. IsStepReady way (nat_lt n (end + 1) && is_member n tag)) g ready h (record { doc = end; ready = one }) there (none_yet m at) others
      (λ k also.
      let e : Some m ≡ Some k = sym at ∙ also in
      let same : m ≡ k = cc in
      (ap (λ t. t && is_member end tag) (lt-ltb end (end + 1) (omega arith)) ∙ member, subst (λ m. IsMoveReady way m one) same is))

-- what the call answers that prepares the next one
module _ (way : Way) (tag : Tag) (doc : ℕ) (answer : Result (Option Prepared) ModelError) (old new : GroupState)
    (on : OnDoc doc (Prepares (PreparesMove way answer)) old new) where
  pub memory_alone : (e : ModelError) → answer ≡ Err e → some_last_from 0 tag (documents old) ≡ false → is_member doc tag ≡ true
      → group_error_of e ≡ GroupMemory
  memory_alone e is none member =
      let there : 0 + doc ≡ doc = omega arith in
      let below : is_last_version on.before.document ≡ false =
      none_last 0 tag (documents old) doc on.before.document none (document_at old doc on.before on.is) (ap (λ k. is_member k tag) there ∙ member) in
      let told : RefusedFor e (flat_move way on.before.document) =
      subst (λ f. RefusedFor e (flat_move way f)) on.done.kept.document (subst (λ a. PreparesMove way a on.after) is on.done.ready) in
      ap group_error_of (only_memory way on.before.document e below told)

  module _ (ready : List DocReady) (h : AreStepsReady way tag doc old ready) where
    still : AreStepsReady way tag doc new ready
    still = ready_kept _ (λ n. step_kept way (nat_lt n doc && is_member n tag)) old new ready (kept_all doc _ old new on) h

    pub step_prepared : (one : Prepared) → answer ≡ Ok (Some one) → doc < DOC_COUNT → is_member doc tag ≡ true
        → AreStepsReady way tag (doc + 1) new (ready ++ record { doc = doc; ready = one } ∷ [])
    step_prepared one is there member =
        one_step_more way tag doc new ready still one on.after (there_after doc _ old new on) there member
        (subst (λ a. PreparesMove way a on.after) is on.done.ready)

    pub none_prepared : answer ≡ Ok None → AreStepsReady way tag (doc + 1) new ready
    none_prepared is =
        none_more way tag doc new ready still
        (λ m at member.
        subst (λ (m : ModelState). next_steps way m.document.history ≡ []) (after_is doc _ old new on m at)
        (subst (λ a. PreparesMove way a on.after) is on.done.ready))

-- ---- carried out

pub steps_in : (way : Way) (tag : Tag) (g : GroupState) (ready : List DocReady) → AreStepsReady way tag DOC_COUNT g ready
    → All (IsReadyIn CanCommit g) ready
steps_in way tag g ready h = each_ready _ (λ n m x. ⊤) g ready h CanCommit (λ n m r is. is.1.can)

no_marks : (way : Way) (marks : List Mark) → marked_step way marks [] ≡ marks
no_marks Back marks = refl
no_marks On marks = refl

-- no step leaves all as it was
none_gone : (way : Way) (m k : ModelState) (steps : List (Step FlatChange)) → steps ≡ [] → KeepsParse m k
    → Leaves (next_edit_count way steps) (next_marking_count steps) (marked_step way m.marks steps) m k
none_gone way m k steps none kept =
    subst (λ steps. Leaves (next_edit_count way steps) (next_marking_count steps) (marked_step way m.marks steps) m k) (sym none) (record {
      parsed = kept.parsed;
      tree = kept.tree;
      states = kept.states;
      marks = kept.marks ∙ sym (no_marks way m.marks);
      fresh = kept.fresh;
      pieces = omega (arith, kept.pieces);
    })

-- what it leaves of the last parse, where the model was prepared for it
gone_as_kept : (way : Way) (old mid new : ModelState) → Keeps old mid → HasActed (Move way) mid new → HasGone way (Ok true) old new
gone_as_kept way old mid new kept acted =
    let next : List (Step FlatChange) = next_steps way old.document.history in
    let steps : next_steps way mid.document.history ≡ next = ap (λ f. next_steps way f.history) kept.document in
    leaves_from (next_edit_count way next) (next_marking_count next) (marked_step way old.marks next) old mid new kept.parse
    (leaves_as _ (next_edit_count way next) _ (next_marking_count next) _ (marked_step way old.marks next) mid new (ap (next_edit_count way) steps)
    (ap next_marking_count steps) (ap (marked_step way mid.marks) steps ∙ ap (λ ms. marked_step way ms next) kept.parse.marks) acted)

step_done : (way : Way) (of_tag : Bool) (old mid new : ModelState) (ready : Option Prepared) → Keeps old mid → IsStepReady way of_tag mid ready
    → Committed Acts ready mid new
    → (new.document ≡ (if of_tag then gone_or_same old.document ((going_along way).rule old.document) else old.document)) × GoesOrStays way of_tag old new
step_done way true old mid new None kept is done =
    let none : next_steps way old.document.history ≡ [] = ap (λ f. next_steps way f.history) (sym kept.document) ∙ is refl in (
      ap (λ (m : ModelState). m.document) done ∙ kept.document
          ∙ sym (ap (gone_or_same old.document) (rule_along way old.document ∙ no_step way old.document none)),
      none_gone way old new (next_steps way old.document.history) none (subst (KeepsParse old) (sym done) kept.parse),
    )
step_done way false old mid new None kept is done = (ap (λ (m : ModelState). m.document) done ∙ kept.document, subst (KeepsParse old) (sym done) kept.parse)
step_done way false old mid new (Some ready) kept is done = absurd cc
step_done way true old mid new (Some ready) kept is done =
    let acts : flat_move way mid.document ≡ Ok (Some new.document) = subst (λ a. Acts a mid.document new.document) is.1.action done.document in (
      sym (ap (gone_or_same old.document) (rule_along way old.document ∙ ap (flat_move way) (sym kept.document) ∙ acts)),
      gone_as_kept way old mid new kept (subst (λ a. HasActed a mid new) is.1.action done.parse),
    )

module _ (way : Way) (tag : Tag) (old mid new : GroupState) (ready : List DocReady) (kept : KeepAll old mid) (count : length old ≡ DOC_COUNT)
    (h : AreStepsReady way tag DOC_COUNT mid ready) (done : CommitAll Acts ready mid new) where
  each_gone : (n : ℕ) (was k : ModelState) → slice_get old n ≡ Some was → slice_get new n ≡ Some k
      → (k.document ≡ (if nat_lt n DOC_COUNT && is_member n tag then gone_or_same was.document ((going_along way).rule was.document) else was.document))
      × GoesOrStays way (nat_lt n DOC_COUNT && is_member n tag) was k
  each_gone n was k at_old at_new =
      let m = item_within mid n (omega (arith, slice_get_within old n was at_old, same_count old mid kept.documents)) in
      step_done way (nat_lt n DOC_COUNT && is_member n tag) was m.0 k (ready_for n ready) (kept_at old mid n was m.0 kept at_old m.1) (h.each n m.0 m.1)
      (done.each n m.0 k m.1 at_new)

  pub gone_models : TheyGo way (λ n. nat_lt n DOC_COUNT && is_member n tag) (Ok true) old new
  gone_models n was k at_old at_new = (each_gone n was k at_old at_new).1

  pub gone_together : some_last_from 0 tag (documents old) ≡ false → other_next_from 0 (going_along way) tag (documents old) ≡ None
      → go_together (going_along way) (documents old) tag ≡ Ok (Some (documents new))
  gone_together last next =
      let gone : all_gone (going_along way) (documents old) tag ≡ documents new =
      each_document (λ n f. if is_member n tag then gone_or_same f ((going_along way).rule f) else f) old new
      (done.count ∙ same_count old mid kept.documents) (λ n was k at_old at_new.
      let within : n < DOC_COUNT = omega (arith, slice_get_within old n was at_old, count) in
      let member = ap (λ t. t && is_member n tag) (lt-ltb n DOC_COUNT within) in
      (each_gone n was k at_old at_new).0
      ∙ ap (λ t. if t then gone_or_same was.document ((going_along way).rule was.document) else was.document) member) in
      rw (last, next) (ap (λ g. Ok (Some g)) gone)

-- ---- which documents go on

moving : (way : Way) → (to : FlatState → List (Step FlatChange)) × IsMoving (going_along way) to
moving Back = (redoing.steps, undoing_moves)
moving On = (undoing.steps, redoing_moves)

module _ (way : Way) (doc : ℕ) (old new : GroupState) (count : length old ≡ DOC_COUNT) where
  long : length (documents old) ≡ DOC_COUNT
  long = length-documents old ∙ count

  pub go_stays : (result : Result Bool GroupError) → MovesAll result (documents old) (documents new) (group_go (going_along way) (documents old) doc)
      → Stay (going_with way old doc) (documents old) (documents new)
  go_stays (Ok true) done = go_others_stay (going_along way) (documents old) (documents new) doc long done
  go_stays (Ok false) done = all_stay _ (documents old) (documents new) done.1
  go_stays (Err e) done = all_stay _ (documents old) (documents new) done.0

  pub go_all : (result : Result Bool GroupError) → MovesAll result (documents old) (documents new) (group_go (going_along way) (documents old) doc)
      → result ≡ Ok true → AllGoOn (going_with way old doc) (documents old) (documents new)
  go_all result done is =
      go_all_go_on (going_along way) (moving way).0 (documents old) (documents new) doc (moving way).1 long
      (subst (λ r. MovesAll r (documents old) (documents new) (group_go (going_along way) (documents old) doc)) is done)
