-- Each call leaves a group: all documents are there, and what two of them share stands in one order in both.
use Rattle.std.proofs.Common.{◌≡◌, ℕ, ◌<◌, ◌++◌, set, Bool, true, false, List, length, take, drop, get_or, Some, None, Result, Ok, Err, All, arith, refl, sym, subst, ap, ◌∙◌, le_refl}
use Rattle.std.specs.Prelude.{⊤}
use Rattle.std.proofs.lemmas.List.{append-nil, drop_all, take_all, length-set}
use Rattle.decoration_rules.specs.declared.NewDeco.{NewDeco}
use Rattle.decoration_rules.specs.Decorations.{Decorations, decorated}
use Rattle.decoration_rules.specs.Refusals.{DecoRefusal}
use Rattle.snapshot_rules.specs.Refusals.{ShelfRefusal}
use Rattle.snapshot_rules.specs.Snapshots.{FlatShelf, flat_take, flat_close}
use Rattle.document_rules.specs.declared.ModelError.{ModelError}
use Rattle.document_rules.specs.Outcomes.{Changes, ChangesWith, Moves}
use Rattle.document_rules.specs.Document.{FlatState, flat_stop, with_decorations}
use Rattle.document_rules.specs.Snapshots.{with_shelf, flat_skipped, flat_snapshot, flat_close_of}
use Rattle.group_rules.specs.declared.TheConstants.{DOC_COUNT}
use Rattle.group_rules.specs.Group.{FlatGroup, tags_of, doc_in, lost_by_change}
use Rattle.group_rules.specs.Joint.{FlatBatch, joint_refusal, tag_of, batch_for, lost_by_joint, joined_doc, joined, group_joint}
use Rattle.group_rules.specs.Going.{undoing, redoing, go_by, gone_in, group_go}
use Rattle.group_rules.specs.Shared.{AreShared}
use Rattle.group_rules.proofs.Changed.{IsChanged, changed_edit, changed_eol}
use Rattle.group_rules.proofs.Places.{length-each_from}
use Rattle.group_rules.proofs.Shared.{IsAlike, shared_alike, shared_with_changed, changed_less}
use Rattle.group_rules.proofs.SharedJoint.{shared_joint}
use Rattle.group_rules.proofs.Together.{accepted_joint}
use Rattle.group_rules.proofs.SharedGoing.{shared_undo, shared_redo}
use Rattle.model_page.specs.declared.change.Way.{Way}
use Rattle.model_page.specs.declared.change.Way.TheVariants.{Back, On}
use Rattle.model_page.specs.declared.change.Change.TheVariants.{Ops, Endings}
use Rattle.model_core.specs.declared.ready.Action.{Action}
use Rattle.model_core.specs.declared.ready.Action.TheVariants.{Make, Move}
use Rattle.model_core.specs.Decorating.{HasDecorated}
use Rattle.model_core.specs.Prepared.{Acts}
use Rattle.model_core.specs.State.{ModelState}
use Rattle.model_core.specs.Ways.{flat_move}
use Rattle.model_group.specs.Calls.{next_tag}
use Rattle.model_group.specs.declared.ready.DocReady.{DocReady}
use Rattle.model_group.specs.declared.ready.Manner.{Manner}
use Rattle.model_group.specs.declared.ready.Manner.TheVariants.{Plain, Alone, Joint}
use Rattle.model_group.specs.Prepared.{Commits, IsChange, IsChangeIn, acts_in, going_along}
use Rattle.model_group.specs.State.{GroupState, IsGroup, documents}
use Rattle.model_group.proofs.Lists.{item_within, length-documents, doc_in-is, documents-set}
use Rattle.model_group.proofs.Committing.{model_at}
use Rattle.model_group.proofs.Goings.{rule_along}

-- the models that were lent are put back
abbrev pub put_back : {X : Type 0} → List X → ℕ → List X → List X
put_back xs n ys = take n (ys ++ drop (length ys) xs)

pub lent_back : {X : Type 0} (xs ys : List X) (n : ℕ) → n ≡ length xs → length ys ≡ length xs → put_back xs n ys ≡ ys
lent_back xs ys n all same =
    ap (λ rest. take n (ys ++ rest)) (drop_all (length ys) xs (omega (arith, same))) ∙ ap (take n) (append-nil ys)
    ∙ take_all n ys (omega (arith, all, same))

pub group_same : (g h : GroupState) → IsGroup g → documents h ≡ documents g → IsGroup h
group_same g h is same = record {
  count = sym (length-documents h) ∙ ap length same ∙ length-documents g ∙ is.count;
  shared = subst AreShared (sym same) is.shared;
}

-- the group before a call that kept all documents, whose models were read after it
pub group_before : (old mid items : GroupState) → IsGroup items → items ≡ mid → documents mid ≡ documents old → IsGroup old
group_before old mid items is read kept = group_same mid old (subst IsGroup read is) (sym kept)

-- ---- a call on one document that leaves what documents share

-- what a call on the model of one document leaves of the tags that documents share
abbrev pub KeepsShared : FlatState → FlatState → Type 0
KeepsShared f g = IsAlike undoing.steps redoing.steps f g

-- it leaves the document
pub kept_same : (f g : FlatState) → g ≡ f → KeepsShared f g
kept_same f g is = subst (KeepsShared f) (sym is) (record { taken = refl; put = refl; version = le_refl f.version })

-- it leaves the steps
kept_steps : (f g : FlatState) → g.history.undo ≡ f.history.undo → g.history.redo ≡ f.history.redo → g.version ≡ f.version → KeepsShared f g
kept_steps f g undo redo version = record { taken = ap tags_of undo; put = ap tags_of redo; version = omega (arith, version) }

pub kept_stop : (f g : FlatState) → g ≡ flat_stop f → KeepsShared f g
kept_stop f g is = rw is (kept_steps f (flat_stop f) refl refl refl)

kept_shelf : (f h : FlatState) (shelf : Result FlatShelf ShelfRefusal) → with_shelf f shelf ≡ Ok h → KeepsShared f h
kept_shelf f h (Err why) is = absurd cc
kept_shelf f h (Ok shelf) is = let same : h ≡ record f { shelf = shelf } = cc in rw same (kept_steps f (record f { shelf = shelf }) refl refl refl)

kept_decorations : (f h : FlatState) (decorations : Result Decorations DecoRefusal) → with_decorations f decorations ≡ Ok h → KeepsShared f h
kept_decorations f h (Err why) is = absurd cc
kept_decorations f h (Ok decorations) is =
    let same : h ≡ record f { decorations = decorations } = cc in rw same (kept_steps f (record f { decorations = decorations }) refl refl refl)

pub kept_skip : (f g : FlatState) (id n : ℕ) → g ≡ flat_skipped f id n → KeepsShared f g
kept_skip f g id n is = rw is (kept_steps f (flat_skipped f id n) refl refl refl)

pub kept_snapshot : (f g : FlatState) (result : Result ℕ ModelError) → ChangesWith f.shelf.next_id result f g (flat_snapshot f) → KeepsShared f g
kept_snapshot f g (Ok n) done = kept_shelf f g (flat_take f.shelf f.units) done.0
kept_snapshot f g (Err e) done = kept_same f g done.0

pub kept_close : (f g : FlatState) (id : ℕ) (result : Result ⊤ ModelError) → Changes result f g (flat_close_of f id) → KeepsShared f g
kept_close f g id (Ok x) done = kept_shelf f g (flat_close f.shelf id) done
kept_close f g id (Err e) done = kept_same f g done.0

pub kept_decorate : (f g : FlatState) (owner : ℕ) (remove : List ℕ) (add : List NewDeco) (result : Result ℕ ModelError)
    → HasDecorated owner remove add result f g → KeepsShared f g
kept_decorate f g owner remove add (Ok n) done = kept_decorations f g (decorated f.decorations owner remove add f.kind f.units) done.0
kept_decorate f g owner remove add (Err e) done = kept_same f g done.0

pub group_kept : (g : GroupState) (n : ℕ) (m k : ModelState) → IsGroup g → n < DOC_COUNT → m ≡ get_or g n m → KeepsShared m.document k.document
    → IsGroup (set g n k)
group_kept g n m k is below at kept = record {
  count = length-set g n k ∙ is.count;
  shared =
      let same = doc_in-is g n m (model_at g g n m refl is.count below at) in
      subst AreShared (sym (documents-set g n k))
      (shared_alike (documents g) n k.document is.shared (subst (λ f. KeepsShared f k.document) (sym same) kept));
}

-- ---- a change of one document

act_changes : (action : Action) (f g : FlatState) → IsChange action → Acts action f g → IsChanged f g
act_changes (Make (Ops ops inverse)) f g is acts = changed_edit f g ops acts
act_changes (Make (Endings r)) f g is acts = changed_eol f g r.to acts
act_changes (Move way) f g is acts = absurd is

changes_in : (manner : Manner) (action : Action) (f g : FlatState) → IsChangeIn manner action → acts_in manner action f g → IsChanged f g
changes_in Plain action f g is acts = act_changes action f g is acts
changes_in Alone action f g is acts =
    let changed = act_changes action (flat_stop f) acts.made is acts.acts in
    subst (IsChanged f) (sym acts.closed) (record { undo = changed.undo; redo = changed.redo; version = changed.version })
changes_in (Joint tag) action f g is acts = absurd is

pub group_committed : (manner : Manner) (one : DocReady) (old new : GroupState) → IsGroup old → one.doc < DOC_COUNT → IsChangeIn manner one.ready.action
    → Commits (acts_in manner) one old new → IsGroup new
group_committed manner one old new is below change done =
    let n = one.doc in
    let g : FlatGroup = documents old in
    let f = doc_in (documents new) n in
    let was = item_within old n (omega (arith, is.count, below)) in
    let now = item_within new n (omega (arith, is.count, done.count, below)) in
    let acts = ((done.models n was.0 now.0 was.1 now.1).0 refl).document in
    let changed : IsChanged (doc_in g n) f =
    subst (λ f. IsChanged f (doc_in (documents new) n)) (sym (doc_in-is old n was.0 was.1))
    (subst (IsChanged was.0.document) (sym (doc_in-is new n now.0 now.1)) (changes_in manner one.ready.action was.0.document now.0.document change acts)) in
    record {
      count = done.count ∙ is.count;
      shared = subst AreShared (sym done.documents)
          (shared_with_changed g (lost_by_change (doc_in g n)) n f is.shared (length-documents old ∙ is.count) below
          (changed_less g n f is.shared below changed));
    }

pub group_joined : (batches : List FlatBatch) (old new : GroupState) → IsGroup old → All (λ (b : FlatBatch). 0 < length b.ops) batches
    → group_joint (documents old) batches ≡ Ok (documents new) → IsGroup new
group_joined batches old new is some done =
    let long = length-documents old ∙ is.count in
    let joins = (accepted_joint (joined (documents old) batches) (documents new) (joint_refusal (documents old) batches) done).1 in
    record {
      count = sym (length-documents new) ∙ ap length (sym joins)
          ∙ length-each_from 0 (λ n f. joined_doc (tag_of (documents old) batches) (lost_by_joint (documents old) batches) n f (batch_for n batches)) (documents old)
          ∙ long;
      shared = shared_joint (documents old) (documents new) batches is.shared long some done;
    }

-- ---- undo and redo

-- a step of the document, of all that take it
pub group_gone : (way : Way) (n : ℕ) (old new : GroupState) → IsGroup old → length new ≡ length old
    → group_go (going_along way) (documents old) n ≡ Ok (Some (documents new)) → IsGroup new
group_gone way n old new is count gone = record { count = count ∙ is.count; shared = by way gone }
  where
    by : (way : Way) → group_go (going_along way) (documents old) n ≡ Ok (Some (documents new)) → AreShared (documents new)
    by Back gone = shared_undo (documents old) (documents new) n is.shared (length-documents old ∙ is.count) gone
    by On gone = shared_redo (documents old) (documents new) n is.shared (length-documents old ∙ is.count) gone

-- of one document that takes it alone
pub group_gone_alone : (way : Way) (g : GroupState) (n : ℕ) (m k : ModelState) (answer : Result Bool ModelError) → IsGroup g → n < DOC_COUNT
    → m ≡ get_or g n m → None ≡ next_tag way g n → Moves answer m.document k.document (flat_move way m.document) → IsGroup (set g n k)
group_gone_alone way g n m k (Ok true) is below at front moved =
    let same = doc_in-is g n m (model_at g g n m refl is.count below at) in
    let going = going_along way in
    group_gone way n g (set g n k) is (length-set g n k)
    (ap (go_by going (documents g) n) (sym front)
    ∙ ap (gone_in (documents g) n) (rule_along way (doc_in (documents g) n) ∙ ap (flat_move way) same ∙ moved)
    ∙ ap (λ g. Ok (Some g)) (sym (documents-set g n k)))
group_gone_alone way g n m k (Ok false) is below at front moved = group_kept g n m k is below at (kept_same m.document k.document moved.1)
group_gone_alone way g n m k (Err e) is below at front moved = group_kept g n m k is below at (kept_same m.document k.document moved.0)
