-- Each document goes on by one version, or stays at its text, whatever a request does.
use Rattle.std.proofs.Common.{◌≡◌, ℕ, ◌+◌, ◌||◌, nat_lt, nat_le, cond, Bool, true, false, List, [], ◌∷◌, map, length, Option, Some, None, Result, Ok, Err, refl}
use Rattle.text_rules.specs.declared.Op.{Op}
use Rattle.unit_text.specs.declared.kind.Kind.{Kind}
use Rattle.unit_text.specs.Kinds.{normalized}
use Rattle.batch_rules.specs.Refusals.{BatchRefusal}
use Rattle.batch_rules.specs.Batches.{most_units, checked_batch}
use Rattle.decoration_rules.specs.Refusals.{DecoRefusal}
use Rattle.decoration_rules.specs.Decorations.{Decorations}
use Rattle.snapshot_rules.specs.Refusals.{ShelfRefusal}
use Rattle.snapshot_rules.specs.Snapshots.{FlatShelf}
use Rattle.undo_rules.specs.declared.Tag.{Tag}
use Rattle.undo_rules.specs.Stack.{Step}
use Rattle.undo_rules.specs.Tags.{is_member}
use Rattle.document_rules.specs.Refusals.{FlatRefusal, limit}
use Rattle.document_rules.specs.Document.{FlatState, FlatChange, greatest_version, after_batch, edited_by, is_same_kind, after_recast, flat_edit, flat_eol, batches_back, undone_step, batches_on, redone_step, flat_stop, flat_untag, with_decorations}
use Rattle.document_rules.specs.Snapshots.{with_shelf}
use Rattle.search_rules.specs.Replacing.{flat_find, replacing, closed_after, edited_alone, flat_replace_all}
use Rattle.group_rules.specs.Refusals.{plain}
use Rattle.group_rules.specs.Group.{FlatGroup, doc_in, with_doc, each_from, without_tags, with_changed, lost_by_change, changed_in, moved_in, group_eol, group_replace_all}
use Rattle.group_rules.specs.Joint.{FlatBatch, names_badly, tag_of, batch_for, lost_by_joint, tagged_after, joined_doc, joined, joint_refusal, unless_refused}
use Rattle.group_rules.specs.Going.{Going, undoing, redoing, front_tag, some_last_from, other_next_from, unless_other, gone_or_same, all_gone, gone_in, go_by, group_undo, group_redo}
use Rattle.group_rules.proofs.Places.{with_doc_kept, each_kept}
use Rattle.script_lines.specs.declared.request.DocEdit.{DocEdit}
use Rattle.session_rules.specs.Step.{changed, moved, gone, decorated, edited_at, batches_at, joined_by, joined_at, joint_answer, snapshot_answer, read_answer, close_answer}

-- ---- one document

pub data Goes (old new : FlatState) : Type 0 where
  stays : new.version ≡ old.version → new.units ≡ old.units → new.last ≡ old.last → Goes old new
  goes : (batches : List (List Op)) (edits : List Op) → new.version ≡ old.version + 1
      → new.last ≡ Some (record { before = old.units; batches = batches; edits = edits }) → Goes old new

at_rest : (f : FlatState) → Goes f f
at_rest f = stays refl refl refl

-- it loses a tag, or not
goes_less : (f g : FlatState) (is_it : Bool) (tag : Tag) → Goes f g → Goes f (cond is_it (flat_untag g tag) g)
goes_less f g true tag (stays version units last) = stays version units last
goes_less f g true tag (goes batches edits version last) = goes batches edits version last
goes_less f g false tag go = go

goes_without : (f g : FlatState) (tags : List Tag) (n : ℕ) → Goes f g → Goes f (without_tags tags n g)
goes_without f g [] n go = go
goes_without f g (tag ∷ tags) n go =
    goes_without f (cond (is_member n tag) (flat_untag g tag) g) tags n (goes_less f g (is_member n tag) tag go)

-- a document that the rule makes another, if it makes one
abbrev GoesTo : FlatState → Result FlatState FlatRefusal → Type 0
GoesTo f (Ok new) = Goes f new
GoesTo f (Err why) = Goes f f

abbrev MovesTo : FlatState → Result (Option FlatState) FlatRefusal → Type 0
MovesTo f (Ok (Some new)) = Goes f new
MovesTo f (Ok None) = Goes f f
MovesTo f (Err why) = Goes f f

to_unless : (f new : FlatState) (is_refused : Bool) → Goes f new → GoesTo f (cond is_refused (Err limit) (Ok new))
to_unless f new true go = at_rest f
to_unless f new false go = go

edited_to : (f : FlatState) (rule : Result (List Op) BatchRefusal) → GoesTo f (edited_by f rule)
edited_to f (Err why) = at_rest f
edited_to f (Ok ops) = to_unless f (after_batch f ops) (nat_le greatest_version f.version) (goes (ops ∷ []) _ refl refl)

move_unless : (f new : FlatState) (is_refused : Bool) → Goes f new → MovesTo f (cond is_refused (Err limit) (Ok (Some new)))
move_unless f new true go = at_rest f
move_unless f new false go = go

move_if : (f new : FlatState) (is_same is_refused : Bool) → Goes f new → MovesTo f (cond is_same (Ok None) (cond is_refused (Err limit) (Ok (Some new))))
move_if f new true is_refused go = at_rest f
move_if f new false is_refused go = move_unless f new is_refused go

eol_to : (f : FlatState) (kind : Kind) → MovesTo f (flat_eol f kind)
eol_to f kind =
    move_if f (after_recast f kind) (is_same_kind kind f.kind)
    (nat_lt most_units (length (normalized kind f.units)) || nat_le greatest_version f.version) (goes _ _ refl refl)

alone_unless : (f new : FlatState) (is_refused : Bool) → Goes f (flat_stop new) → MovesTo f (closed_after (cond is_refused (Err limit) (Ok new)))
alone_unless f new true go = at_rest f
alone_unless f new false go = go

alone_checked : (f : FlatState) (rule : Result (List Op) BatchRefusal) → MovesTo f (closed_after (edited_by (flat_stop f) rule))
alone_checked f (Err why) = at_rest f
alone_checked f (Ok ops) = alone_unless f (after_batch (flat_stop f) ops) (nat_le greatest_version f.version) (goes (ops ∷ []) _ refl refl)

alone_to : (f : FlatState) (ops : List Op) → MovesTo f (edited_alone f ops)
alone_to f [] = at_rest f
alone_to f (op ∷ ops) = alone_checked f (checked_batch f.kind f.units (op ∷ ops))

undone_to : (f : FlatState) (steps : List (Step FlatChange)) → MovesTo f (undone_step f steps)
undone_to f [] = at_rest f
undone_to f (step ∷ steps) = move_unless f _ (nat_le greatest_version f.version) (goes (batches_back step.changes) _ refl refl)

redone_to : (f : FlatState) (steps : List (Step FlatChange)) → MovesTo f (redone_step f steps)
redone_to f [] = at_rest f
redone_to f (step ∷ steps) = move_unless f _ (nat_le greatest_version f.version) (goes (batches_on step.changes) _ refl refl)

-- ---- calls that touch one document alone

pub goes_stop : (f : FlatState) → Goes f (flat_stop f)
goes_stop f = stays refl refl refl

pub goes_decorated : (f : FlatState) (count : ℕ) (rule : Result Decorations DecoRefusal) → Goes f (decorated f count (with_decorations f rule)).1
goes_decorated f count (Ok d) = stays refl refl refl
goes_decorated f count (Err why) = at_rest f

pub goes_snapshot : (f : FlatState) (rule : Result FlatShelf ShelfRefusal) → Goes f (snapshot_answer f (with_shelf f rule)).1
goes_snapshot f (Ok shelf) = stays refl refl refl
goes_snapshot f (Err why) = at_rest f

pub goes_read : (f : FlatState) (id : ℕ) (rule : Result (List ℕ) FlatRefusal) → Goes f (read_answer f id rule).1
goes_read f id (Ok units) = stays refl refl refl
goes_read f id (Err why) = at_rest f

pub goes_close : (f : FlatState) (rule : Result FlatShelf ShelfRefusal) → Goes f (close_answer f (with_shelf f rule)).1
goes_close f (Ok shelf) = stays refl refl refl
goes_close f (Err why) = at_rest f

-- ---- all documents

abbrev pub AllGo : FlatGroup → FlatGroup → Type 0
AllGo old new = (n : ℕ) → Goes (doc_in old n) (doc_in new n)

all_rest : (g : FlatGroup) → AllGo g g
all_rest g n = at_rest (doc_in g n)

pub go_with_doc : (g : FlatGroup) (n : ℕ) (f : FlatState) → Goes (doc_in g n) f → AllGo g (with_doc g n f)
go_with_doc g n f go k = with_doc_kept (λ m d. Goes (doc_in g m) d) g n f (all_rest g) go k

-- each document becomes another
go_each : (g : FlatGroup) (change : ℕ → FlatState → FlatState) → ((n : ℕ) → Goes (doc_in g n) (change n (doc_in g n))) → AllGo g (each_from 0 change g)
go_each g change go k = each_kept (λ m d. Goes (doc_in g m) d) change g (all_rest g) (λ n was. go n) k

pub go_without : (g : FlatGroup) (lost : List Tag) → AllGo g (each_from 0 (without_tags lost) g)
go_without g lost = go_each g (without_tags lost) (λ n. goes_without (doc_in g n) (doc_in g n) lost n (at_rest (doc_in g n)))

go_with_changed : (g : FlatGroup) (lost : List Tag) (n : ℕ) (f : FlatState) → Goes (doc_in g n) f → AllGo g (with_changed g lost n f)
go_with_changed g lost n f go k =
    with_doc_kept (λ m d. Goes (doc_in g m) d) (each_from 0 (without_tags lost) g) n f (go_without g lost) go k

go_changed : (g : FlatGroup) (lost : List Tag) (n : ℕ) (rule : Result FlatState FlatRefusal) → GoesTo (doc_in g n) rule
    → AllGo g (changed g n (changed_in g lost n rule)).1
go_changed g lost n (Ok new) go = go_with_changed g lost n new go
go_changed g lost n (Err why) go = all_rest g

go_moved : (g : FlatGroup) (lost : List Tag) (n : ℕ) (rule : Result (Option FlatState) FlatRefusal) → MovesTo (doc_in g n) rule
    → AllGo g (moved g n (moved_in g lost n rule)).1
go_moved g lost n (Ok (Some new)) go = go_with_changed g lost n new go
go_moved g lost n (Ok None) go = all_rest g
go_moved g lost n (Err why) go = all_rest g

pub go_edited : (g : FlatGroup) (n : ℕ) (ops : Option (List Op)) → AllGo g (edited_at g n ops).1
go_edited g n None = all_rest g
go_edited g n (Some ops) =
    let f = doc_in g n in go_changed g (lost_by_change f) n (flat_edit f ops) (edited_to f (checked_batch f.kind f.units ops))

pub go_eol : (g : FlatGroup) (n : ℕ) (kind : Kind) → AllGo g (moved g n (group_eol g n kind)).1
go_eol g n kind = let f = doc_in g n in go_moved g (lost_by_change f) n (flat_eol f kind) (eol_to f kind)

pub go_replaced : (g : FlatGroup) (n : ℕ) (sought text : List ℕ) → AllGo g (moved g n (group_replace_all g n sought text)).1
go_replaced g n sought text =
    let f = doc_in g n in
    go_moved g (lost_by_change f) n (flat_replace_all f sought text) (alone_to f (replacing (flat_find f sought) text))

-- ---- undo and redo

gone_alone : (g : FlatGroup) (n : ℕ) (rule : Result (Option FlatState) FlatRefusal) → MovesTo (doc_in g n) rule → AllGo g (gone g n (gone_in g n rule)).1
gone_alone g n (Ok (Some new)) go = go_with_doc g n new go
gone_alone g n (Ok None) go = all_rest g
gone_alone g n (Err why) go = all_rest g

goes_or_same : (f : FlatState) (rule : Result (Option FlatState) FlatRefusal) → MovesTo f rule → Goes f (gone_or_same f rule)
goes_or_same f (Ok (Some new)) go = go
goes_or_same f (Ok None) go = at_rest f
goes_or_same f (Err why) go = at_rest f

goes_if : (f new : FlatState) (is_it : Bool) → Goes f new → Goes f (cond is_it new f)
goes_if f new true go = go
goes_if f new false go = at_rest f

module _ (going : Going) (rules : (f : FlatState) → MovesTo f (going.rule f)) where
  go_all : (g : FlatGroup) (tag : Tag) → AllGo g (all_gone going g tag)
  go_all g tag =
      go_each g (λ n f. cond (is_member n tag) (gone_or_same f (going.rule f)) f)
      (λ n. goes_if (doc_in g n) _ (is_member n tag) (goes_or_same (doc_in g n) (going.rule (doc_in g n)) (rules (doc_in g n))))

  gone_unless : (g : FlatGroup) (n : ℕ) (tag : Tag) (is_last : Bool) (other : Option ℕ)
      → AllGo g (gone g n (cond is_last (Err (plain limit)) (unless_other other (all_gone going g tag)))).1
  gone_unless g n tag true other = all_rest g
  gone_unless g n tag false (Some k) = all_rest g
  gone_unless g n tag false None = go_all g tag

  gone_by : (g : FlatGroup) (n : ℕ) (tag : Option Tag) → AllGo g (gone g n (go_by going g n tag)).1
  gone_by g n None = gone_alone g n (going.rule (doc_in g n)) (rules (doc_in g n))
  gone_by g n (Some tag) = gone_unless g n tag (some_last_from 0 tag g) (other_next_from 0 going tag g)

pub go_undo : (g : FlatGroup) (n : ℕ) → AllGo g (gone g n (group_undo g n)).1
go_undo g n = gone_by undoing (λ f. undone_to f f.history.undo) g n (front_tag (doc_in g n).history.undo)

pub go_redo : (g : FlatGroup) (n : ℕ) → AllGo g (gone g n (group_redo g n)).1
go_redo g n = gone_by redoing (λ f. redone_to f f.history.redo) g n (front_tag (doc_in g n).history.redo)

-- ---- a joint edit

goes_tagged : (tag : Tag) (f : FlatState) (rule : Result (Option FlatState) FlatRefusal) → MovesTo f rule → Goes f (tagged_after tag f rule)
goes_tagged tag f (Ok (Some new)) (stays version units last) = stays version units last
goes_tagged tag f (Ok (Some new)) (goes batches edits version last) = goes batches edits version last
goes_tagged tag f (Ok None) go = at_rest f
goes_tagged tag f (Err why) go = at_rest f

goes_joined : (tag : Tag) (lost : List Tag) (n : ℕ) (f : FlatState) (ops : Option (List Op)) → Goes f (joined_doc tag lost n f ops)
goes_joined tag lost n f (Some ops) = goes_tagged tag f (edited_alone f ops) (alone_to f ops)
goes_joined tag lost n f None = goes_without f f lost n (at_rest f)

go_joined : (g : FlatGroup) (batches : List FlatBatch) → AllGo g (joined g batches)
go_joined g batches =
    go_each g (λ n f. joined_doc (tag_of g batches) (lost_by_joint g batches) n f (batch_for n batches))
    (λ n. goes_joined (tag_of g batches) (lost_by_joint g batches) n (doc_in g n) (batch_for n batches))

joined_unless : (g : FlatGroup) (docs : List ℕ) (batches : List FlatBatch) (refusal : Option FlatRefusal)
    → AllGo g (joined_by g docs (unless_refused (joined g batches) refusal)).1
joined_unless g docs batches (Some why) = all_rest g
joined_unless g docs batches None = go_joined g batches

go_joined_at : (g : FlatGroup) (docs : List ℕ) (batches : Option (List FlatBatch)) → AllGo g (joined_at g docs batches).1
go_joined_at g docs None = all_rest g
go_joined_at g docs (Some batches) = joined_unless g docs batches (joint_refusal g batches)

joint_if : (g : FlatGroup) (is_bad : Bool) (docs : List ℕ) (reply : List ℕ) (batches : Option (List FlatBatch))
    → AllGo g (cond is_bad (reply, g) (joined_at g docs batches)).1
joint_if g true docs reply batches = all_rest g
joint_if g false docs reply batches = go_joined_at g docs batches

pub go_joint : (g : FlatGroup) (edits : List DocEdit) → AllGo g (joint_answer g edits).1
go_joint g edits =
    let docs = map (λ (edit : DocEdit). edit.doc) edits in joint_if g (names_badly docs) docs _ (batches_at g edits)
