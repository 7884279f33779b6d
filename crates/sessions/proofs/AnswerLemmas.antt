-- What a call on documents leaves to tell.
use Rattle.std.proofs.Common.{◌≡◌, ℕ, Bool, true, false, if◌then◌else◌, List, length, slice_get, Option, Some, Result, Ok, Err, refl, ap, sym, ◌∙◌}
use Rattle.document_rules.specs.declared.ModelError.{ModelError}
use Rattle.document_rules.specs.declared.ModelError.TheVariants.{Unknown, Range, Overlap, Limit, Memory}
use Rattle.document_rules.specs.Refusals.{FlatRefusal}
use Rattle.document_rules.specs.Document.{FlatState}
use Rattle.document_rules.specs.Snapshots.{flat_skipped}
use Rattle.document_rules.specs.Outcomes.{RefusedFor, Moves}
use Rattle.group_rules.specs.declared.GroupError.{GroupError}
use Rattle.group_rules.specs.declared.GroupError.TheVariants as group
use Rattle.group_rules.specs.Refusals.{GroupRefusal}
use Rattle.group_rules.specs.Group.{FlatGroup, doc_in, with_doc}
use Rattle.group_rules.specs.Outcomes.{IsRefusedFor, MovesAll}
use Rattle.model_core.specs.State.{ModelState}
use Rattle.model_group.specs.State.{GroupState, OnDoc, documents}
use Rattle.model_group.proofs.Lists.{set_back, document_at, doc_in-is, documents-set}
use Rattle.script_lines.specs.declared.reason.Refusal.TheVariants as refusal
use Rattle.script_lines.specs.Replies.{none_reply, text_reply, refusal_reply}
use Rattle.session_rules.specs.Step.{reason_of, group_reason_of, change_reply, changed, moved, gone, read_answer, Answers, answered, out_of_memory}
use Rattle.session_rules.specs.Script.{is_refused}
use Rattle.sessions.specs.declared.outcome.Reply.{Reply}
use Rattle.sessions.specs.declared.outcome.Refused.{Refused}
use Rattle.sessions.specs.Bytes.{bytes_of, bytes_of_outcome, refusal_of, refusal_of_group}
use Rattle.sessions.specs.Told.{TellsBy}

module _ {S : Type 0} where
  -- this is the flat reply, and what is kept is as it says
  pub tells_so : (flat : List ℕ × S) (old new : S) (reply : Reply) (bytes : List ℕ) → flat ≡ (bytes, new) → bytes_of reply ≡ bytes → is_refused bytes ≡ false
      → TellsBy flat old (Ok reply) new
  tells_so flat old new reply bytes rule is accepted = record {
    answer = answered (is ∙ ap (λ r. r.0) (sym rule)) (ap (λ r. r.1) (sym rule));
    accepted = ap is_refused is ∙ accepted;
  }

  -- memory was wanting
  pub tells_memory : (flat : List ℕ × S) (old new : S) → new ≡ old → TellsBy flat old (Err (record { 0 = refusal.Memory })) new
  tells_memory flat old new same = record { answer = out_of_memory refl same; accepted = tt }

  -- the call was refused
  pub tells_refusal : {A : Type 0} (flat : Result A FlatRefusal → List ℕ × S) (old new : S) (e : ModelError) (rule : Result A FlatRefusal)
      → ((why : FlatRefusal) → flat (Err why) ≡ (refusal_reply (reason_of why), old)) → (new ≡ old) × RefusedFor e rule
      → TellsBy (flat rule) old (Err (record { 0 = refusal_of e })) new
  tells_refusal {A} flat old new e rule refuses (same, why) = record { answer = by e why; accepted = tt }
    where
      so : (why : FlatRefusal) → rule ≡ Err why → Answers (flat rule) old (refusal_reply (reason_of why)) new
      so why is = let told = ap flat is ∙ refuses why in answered (ap (λ r. r.0) (sym told)) (same ∙ ap (λ r. r.1) (sym told))

      by : (e : ModelError) → RefusedFor e rule → Answers (flat rule) old (refusal_reply (refusal_of e)) new
      by Unknown why = so _ why
      by Range why = so _ why
      by Overlap why = so _ why
      by Limit why = so _ why
      by Memory why = out_of_memory refl same

  pub tells_group_refusal : {A : Type 0} (flat : Result A GroupRefusal → List ℕ × S) (old new : S) (e : GroupError) (rule : Result A GroupRefusal)
      → ((why : GroupRefusal) → flat (Err why) ≡ (refusal_reply (group_reason_of why), old)) → (new ≡ old) × IsRefusedFor e rule
      → TellsBy (flat rule) old (Err (record { 0 = refusal_of_group e })) new
  tells_group_refusal {A} flat old new e rule refuses (same, why) = record { answer = by e why; accepted = tt }
    where
      so : (why : GroupRefusal) → rule ≡ Err why → Answers (flat rule) old (refusal_reply (group_reason_of why)) new
      so why is = let told = ap flat is ∙ refuses why in answered (ap (λ r. r.0) (sym told)) (same ∙ ap (λ r. r.1) (sym told))

      by : (e : GroupError) → IsRefusedFor e rule → Answers (flat rule) old (refusal_reply (refusal_of_group e)) new
      by group.Unknown why = so _ why
      by group.Range why = so _ why
      by group.Overlap why = so _ why
      by group.Limit why = so _ why
      by (group.Joint n) why = so _ why
      by group.Memory why = out_of_memory refl same

-- ---- changes of the document of this number

module _ (g new : FlatGroup) (n : ℕ) (f : FlatState) (is : doc_in new n ≡ f) where
  -- the reply of a change
  change_so : (reply : Reply) → bytes_of reply ≡ change_reply f → bytes_of reply ≡ change_reply (doc_in new n)
  change_so reply bytes = bytes ∙ ap change_reply (sym is)

  pub tells_changed : (rule : Result FlatGroup FlatRefusal) (reply : Reply) → rule ≡ Ok new → bytes_of reply ≡ change_reply f
      → TellsBy (changed g n rule) g (Ok reply) new
  tells_changed rule reply told bytes =
      tells_so (changed g n rule) g new reply (change_reply (doc_in new n)) (ap (changed g n) told) (change_so reply bytes) refl

  pub tells_moved : (is_moved : Bool) (rule : Result (Option FlatGroup) FlatRefusal) (reply : Reply) → Moves (Ok is_moved) g new rule
      → bytes_of reply ≡ (if is_moved then change_reply f else none_reply) → TellsBy (moved g n rule) g (Ok reply) new
  tells_moved true rule reply told bytes =
      tells_so (moved g n rule) g new reply (change_reply (doc_in new n)) (ap (moved g n) told) (change_so reply bytes) refl
  tells_moved false rule reply told bytes =
      tells_so (moved g n rule) g new reply none_reply (ap (moved g n) told.0 ∙ ap (λ x. (none_reply, x)) (sym told.1)) bytes refl

  pub tells_gone : (is_moved : Bool) (rule : Result (Option FlatGroup) GroupRefusal) (reply : Reply) → MovesAll (Ok is_moved) g new rule
      → bytes_of reply ≡ (if is_moved then change_reply f else none_reply) → TellsBy (gone g n rule) g (Ok reply) new
  tells_gone true rule reply told bytes =
      tells_so (gone g n rule) g new reply (change_reply (doc_in new n)) (ap (gone g n) told) (change_so reply bytes) refl
  tells_gone false rule reply told bytes =
      tells_so (gone g n rule) g new reply none_reply (ap (gone g n) told.0 ∙ ap (λ x. (none_reply, x)) (sym told.1)) bytes refl

-- ---- a call on one document

module _ (g new : FlatGroup) (n : ℕ) (f f' : FlatState) (outcome : Result Reply Refused) (here : doc_in g n ≡ f) where
  -- it asked
  pub tells_asking : (answer : FlatState → List ℕ) → new ≡ g → TellsBy (answer f, f) f outcome f' → TellsBy (answer (doc_in g n), g) g outcome new
  tells_asking answer same told = record { answer = by told.answer; accepted = told.accepted }
    where
      by : Answers (answer f, f) f (bytes_of_outcome outcome) f' → Answers (answer (doc_in g n), g) g (bytes_of_outcome outcome) new
      by (answered is to) = answered (is ∙ ap answer (sym here)) same
      by (out_of_memory is to) = out_of_memory is same

  -- it changed that document
  pub tells_changing : (answer : FlatState → List ℕ × FlatState) → slice_get g n ≡ Some f → new ≡ with_doc g n f' → TellsBy (answer f) f outcome f'
      → TellsBy ((answer (doc_in g n)).0, with_doc g n (answer (doc_in g n)).1) g outcome new
  tells_changing answer there put told = record { answer = by told.answer; accepted = told.accepted }
    where
      by : Answers (answer f) f (bytes_of_outcome outcome) f'
          → Answers ((answer (doc_in g n)).0, with_doc g n (answer (doc_in g n)).1) g (bytes_of_outcome outcome) new
      by (answered is to) =
          answered (is ∙ ap (λ d. (answer d).0) (sym here)) (put ∙ ap (with_doc g n) (to ∙ ap (λ d. (answer d).1) (sym here)))
      by (out_of_memory is to) = out_of_memory is (put ∙ ap (with_doc g n) to ∙ set_back g n f there)

-- ---- a call on one model of a group

module _ (n : ℕ) (call : ModelState → ModelState → Type 0) (old new : GroupState) (done : OnDoc n call old new) where
  pub before_at : doc_in (documents old) n ≡ done.before.document
  before_at = doc_in-is old n done.before done.is

  pub put_at : documents new ≡ with_doc (documents old) n done.after.document
  put_at = ap documents done.rest ∙ documents-set old n done.after

  pub there_at : slice_get (documents old) n ≡ Some done.before.document
  there_at = document_at old n done.before done.is

  -- it left the document
  pub same_by : done.after.document ≡ done.before.document → documents new ≡ documents old
  same_by same = put_at ∙ ap (with_doc (documents old) n) same ∙ set_back (documents old) n done.before.document there_at

module _ (n : ℕ) (call : ModelState → ModelState → Type 0) (old new : GroupState) (done : OnDoc n call old new) (outcome : Result Reply Refused) where
  -- a question
  pub tells_asked_on : (answer : FlatState → List ℕ) → done.after.document ≡ done.before.document
      → TellsBy (answer done.before.document, done.before.document) done.before.document outcome done.after.document
      → TellsBy (answer (doc_in (documents old) n), documents old) (documents old) outcome (documents new)
  tells_asked_on answer same told =
      tells_asking (documents old) (documents new) n done.before.document done.after.document outcome (before_at n call old new done) answer
      (same_by n call old new done same) told

  -- a change
  pub tells_changed_on : (answer : FlatState → List ℕ × FlatState) → TellsBy (answer done.before.document) done.before.document outcome done.after.document
      → TellsBy ((answer (doc_in (documents old) n)).0, with_doc (documents old) n (answer (doc_in (documents old) n)).1) (documents old) outcome (documents new)
  tells_changed_on answer told =
      tells_changing (documents old) (documents new) n done.before.document done.after.document outcome (before_at n call old new done) answer
      (there_at n call old new done) (put_at n call old new done) told

-- a call that changes a document found nothing to change
pub tells_unchanged : (n : ℕ) (g : GroupState) (m : ModelState) → slice_get g n ≡ Some m → (outcome : Result Reply Refused) (answer : FlatState → List ℕ × FlatState)
    → TellsBy (answer m.document) m.document outcome m.document
    → TellsBy ((answer (doc_in (documents g) n)).0, with_doc (documents g) n (answer (doc_in (documents g) n)).1) (documents g) outcome (documents g)
tells_unchanged n g m at outcome answer told =
    let there = document_at g n m at in
    tells_changing (documents g) (documents g) n m.document m.document outcome (doc_in-is g n m at) answer there
    (sym (set_back (documents g) n m.document there)) told

-- the units of a snapshot were read
pub tells_read : (f new : FlatState) (id : ℕ) (rule : Result (List ℕ) FlatRefusal) (units : List ℕ) (reply : Reply) → rule ≡ Ok units
    → new ≡ flat_skipped f id (length units) → bytes_of reply ≡ text_reply units → TellsBy (read_answer f id rule) f (Ok reply) new
tells_read f new id rule units reply is skipped bytes =
    tells_so (read_answer f id rule) f new reply (text_reply units) (ap (read_answer f id) is ∙ ap (λ d. (text_reply units, d)) (sym skipped)) bytes refl
