-- Changes of several documents, prepared before the first of them is carried out.
use Rattle.std.specs.Prelude.{◌≡◌, ℕ, ◌<◌, ◌==◌, ◌&&◌, nat_lt, nat_le, Bool, true, false, if◌then◌else◌, List, [], ◌∷◌, length, map, slice_get, Option, Some, None, All, ⊤}
use Rattle.undo_rules.specs.declared.Tag.{Tag}
use Rattle.undo_rules.specs.Tags.{is_member}
use Rattle.text_rules.specs.declared.Op.{Op}
use Rattle.document_rules.specs.declared.ModelError.{ModelError}
use Rattle.document_rules.specs.declared.ModelError.TheVariants.{Unknown, Range, Overlap, Limit, Memory}
use Rattle.document_rules.specs.Refusals.{range, overlap, limit}
use Rattle.document_rules.specs.Document.{FlatState, flat_tag}
use Rattle.group_rules.specs.declared.TheConstants.{DOC_COUNT}
use Rattle.group_rules.specs.Group.{FlatGroup, doc_in, lost_by_change, with_changed}
use Rattle.group_rules.specs.Joint.{FlatBatch, batch_for, docs_of, some_refused}
use Rattle.group_rules.specs.Going.{Going, undoing, redoing}
use Rattle.model_page.specs.declared.change.Way.{Way}
use Rattle.model_page.specs.declared.change.Way.TheVariants.{Back, On}
use Rattle.model_core.specs.declared.ready.Action.{Action}
use Rattle.model_core.specs.declared.ready.Action.TheVariants.{Make, Move}
use Rattle.model_core.specs.State.{ModelState, KeepsParse}
use Rattle.model_core.specs.Prepared.{Prepared, CanCommit, Acts, ActsAlone, HasActed, IsEditReady, IsMoveReady}
use Rattle.model_core.specs.Ways.{next_steps}
use Rattle.model_group.specs.declared.ready.DocReady.{DocReady}
use Rattle.model_group.specs.declared.ready.Manner.{Manner}
use Rattle.model_group.specs.declared.ready.Manner.TheVariants.{Plain, Alone, Joint}
use Rattle.model_group.specs.State.{GroupState, ActsOn, documents}

-- ---- at most one for each document

-- the prepared change of this document, if any
abbrev pub ready_for : ℕ → List DocReady → Option Prepared
ready_for n [] = None
ready_for n (r ∷ ready) = if r.doc == n then Some r.ready else ready_for n ready

abbrev pub AreApart : List DocReady → Type 0
AreApart [] = ⊤
AreApart (r ∷ ready) = (ready_for r.doc ready ≡ None) × AreApart ready

-- `P` holds of the prepared change and the model of its document
pub record IsReadyIn (P : ModelState → Prepared → Type 0) (g : GroupState) (r : DocReady) : Type 0 where
  pub there : r.doc < DOC_COUNT
  pub ready : (m : ModelState) → slice_get g r.doc ≡ Some m → P m r.ready

-- Each is for another document, and `is` holds of each document's number, model and prepared change.
pub record AreReady (is : ℕ → ModelState → Option Prepared → Type 0) (g : GroupState) (ready : List DocReady) : Type 0 where
  pub apart : AreApart ready
  pub there : All (λ (r : DocReady). r.doc < DOC_COUNT) ready
  pub each : (n : ℕ) (m : ModelState) → slice_get g n ≡ Some m → is n m (ready_for n ready)

-- the model keeps its document and its last parse, and at least its room
pub record Keeps (old new : ModelState) : Type 0 where
  pub document : new.document ≡ old.document
  pub parse : KeepsParse old new

-- the call changes no document, and `told` holds of the new model
pub record Prepares (told : ModelState → Type 0) (old new : ModelState) : Type 0 where
  pub kept : Keeps old new
  pub ready : told new

-- ---- carrying out

-- the model is changed by this rule
pub record Does (act : Action → FlatState → FlatState → Type 0) (action : Action) (old new : ModelState) : Type 0 where
  pub document : act action old.document new.document
  pub parse : HasActed action old new

abbrev pub Committed : (Action → FlatState → FlatState → Type 0) → Option Prepared → ModelState → ModelState → Type 0
Committed act None old new = new ≡ old
Committed act (Some ready) old new = Does act ready.action old new

-- Each change was carried out on its document by this rule, and the models of the other documents are unchanged.
pub record CommitAll (act : Action → FlatState → FlatState → Type 0) (ready : List DocReady) (old new : GroupState) : Type 0 where
  pub count : length new ≡ length old
  pub each : (n : ℕ) (m k : ModelState) → slice_get old n ≡ Some m → slice_get new n ≡ Some k → Committed act (ready_for n ready) m k

-- The change was carried out on its document by this rule, and the tags of its redo steps are removed.
pub record Commits (act : Action → FlatState → FlatState → Type 0) (one : DocReady) (old new : GroupState) : Type 0 where
  pub count : length new ≡ length old
  pub documents : let g = documents old in
      documents new ≡ with_changed g (lost_by_change (doc_in g one.doc)) one.doc (doc_in (documents new) one.doc)
  pub models : ActsOn one.doc (Does act one.ready.action) old new

-- ---- batches

abbrev pub IsBatchReady : Option (List Op) → ModelState → Option Prepared → Type 0
IsBatchReady None m ready = ready ≡ None
IsBatchReady (Some ops) m None = ⊥
IsBatchReady (Some ops) m (Some ready) = IsEditReady ops m ready

-- each batch is prepared, in order
pub record AreBatchesReady (g : GroupState) (batches : List FlatBatch) (ready : List DocReady) : Type 0 where
  pub docs : map (λ (r : DocReady). r.doc) ready ≡ docs_of batches
  pub all : AreReady (λ n. IsBatchReady (batch_for n batches)) g ready

-- an edit with some ops
pub record IsSomeEdit (now : ModelState) (ready : Prepared) : Type 0 where
  pub ops : List Op
  pub is : IsEditReady ops now ready

-- the action is a step of its own and has the tag
pub record ActsTagged (tag : Tag) (action : Action) (old new : FlatState) : Type 0 where
  pub made : FlatState
  pub alone : ActsAlone action old made
  pub tagged : new ≡ flat_tag made tag

-- ---- the manner

abbrev pub acts_in : Manner → Action → FlatState → FlatState → Type 0
acts_in Plain = Acts
acts_in Alone = ActsAlone
acts_in (Joint tag) = ActsTagged tag

-- a change, not an undo or a redo
abbrev pub IsChange : Action → Type 0
IsChange (Make change) = ⊤
IsChange (Move way) = ⊥

-- a change without a tag
abbrev pub IsChangeIn : Manner → Action → Type 0
IsChangeIn Plain action = IsChange action
IsChangeIn Alone action = IsChange action
IsChangeIn (Joint tag) action = ⊥

-- the precondition of the change
abbrev pub CanIn : Manner → ModelState → Prepared → Type 0
CanIn Plain = CanCommit
CanIn Alone = CanCommit
CanIn (Joint tag) = IsSomeEdit

-- ---- refusals

-- the order of the causes; `Memory` is first
abbrev pub cause : ModelError → ℕ
cause Memory = 0
cause Unknown = 1
cause Range = 2
cause Overlap = 3
cause Limit = 4

-- the error with the first cause
abbrev pub first_of : Option ModelError → ModelError → ModelError
first_of None other = other
first_of (Some one) other = if nat_le (cause one) (cause other) then one else other

-- the error, if some batch has an invalid span, one has an overlap, or one passes a limit, in this order of causes
abbrev pub Told : Bool → Bool → Bool → Option ModelError → Type 0
Told bad crossed large None = (bad ≡ false) × (crossed ≡ false) × (large ≡ false)
Told bad crossed large (Some Unknown) = ⊥
Told bad crossed large (Some Range) = bad ≡ true
Told bad crossed large (Some Overlap) = (bad ≡ false) × (crossed ≡ true)
Told bad crossed large (Some Limit) = (bad ≡ false) × (crossed ≡ false) × (large ≡ true)
Told bad crossed large (Some Memory) = ⊤

-- the error for all of these batches
abbrev pub IsFirstOf : FlatGroup → List FlatBatch → Option ModelError → Type 0
IsFirstOf g batches refusal = Told (some_refused range g batches) (some_refused overlap g batches) (some_refused limit g batches) refusal

-- ---- steps

abbrev pub going_along : Way → Going
going_along Back = undoing
going_along On = redoing

-- the step of a document, if it is one of the tag's and has a next step
abbrev pub IsStepReady : Way → Bool → ModelState → Option Prepared → Type 0
IsStepReady way of_tag m None = of_tag ≡ true → next_steps way m.document.history ≡ []
IsStepReady way of_tag m (Some ready) = (of_tag ≡ true) × IsMoveReady way m ready

-- the steps in the tag's documents below `end`
abbrev pub AreStepsReady : Way → Tag → ℕ → GroupState → List DocReady → Type 0
AreStepsReady way tag end g ready = AreReady (λ n. IsStepReady way (nat_lt n end && is_member n tag)) g ready
