-- What is prepared: the ops of a batch as they are done are accepted as the batch was, other line endings, and the room that steps take.
use Rattle.std.proofs.Common.{◌≡◌, ◌+◌, ◌<◌, ◌≤◌, true, false, nat_lt, nat_le, List, length, Result, Ok, Err, Some, refl, ap, sym, subst, ◌∙◌, arith}
use Rattle.std.specs.List.{All}
use Rattle.std.proofs.lemmas.Bool.{lt-leb, le-ltb}
use Rattle.std.proofs.lemmas.List.{length-map}
use Rattle.unit_text.specs.declared.kind.Kind.{Kind}
use Rattle.unit_text.specs.Kinds.{normalized}
use Rattle.unit_text.specs.Units.{IsPaired}
use Rattle.text_rules.specs.declared.Op.{Op}
use Rattle.batch_rules.specs.Refusals.{BatchRefusal}
use Rattle.batch_rules.specs.Batches.{most_units, checked_batch, sorted_ops, op_in, ops_in, inverse_from, applied_from}
use Rattle.batch_rules.specs.declared.BatchError.{BatchError}
use Rattle.batch_rules.proofs.Answers.{checked_batch-sorted_ops, ops_in-map}
use Rattle.batch_rules.proofs.Keeping.{checked_again}
use Rattle.edit_batches.specs.Outcomes.{Checks}
use Rattle.batch_rules.proofs.Order.{length-sorted_ops}
use Rattle.batch_rules.proofs.Pairs.{HasPairedText}
use Rattle.batch_rules.proofs.Standing.{accepted}
use Rattle.decoration_rules.specs.Recasts.{RecastState}
use Rattle.undo_rules.specs.Stack.{Step}
use Rattle.document_rules.specs.Refusals.{FlatRefusal}
use Rattle.document_rules.specs.Document.{FlatText, FlatChange, FlatState, text_now, greatest_version, after_batch, edited_by, flat_edit, is_same_kind, flat_eol}
use Rattle.document_rules.specs.Paired.{IsPairedState}
use Rattle.document_rules.proofs.PairedStates.{IsPairedState-edit, IsPairedState-eol}
use Rattle.text_batches.specs.Needs.{edit_count, need_of_ops}
use Rattle.model_page.specs.declared.change.Way.{Way}
use Rattle.model_page.specs.declared.change.Way.TheVariants.{Back, On}
use Rattle.model_core.specs.declared.ready.Action.{Action}
use Rattle.model_core.specs.declared.ready.Action.TheVariants.{Make, Move}
use Rattle.model_core.specs.State.{ModelState, KeepsRoom, KeepsParse, Leaves}
use Rattle.model_core.specs.Ways.{next_steps}
use Rattle.text_buffer.specs.Room.{part_count}
use Rattle.text_buffer.specs.Room as text_room
use Rattle.text_buffer.specs.declared.room.Need as text_need
use Rattle.model_page.specs.Changes.{ops_by}
use Rattle.model_page.specs.LineMarks.{marked_backwards}
use Rattle.model_core.specs.Edited.{ops_as_done, marks_edited, HasEdited, HasRecast}
use Rattle.model_core.specs.Prepared.{Prepared, IsEnough, need_of, next_edit_count, next_unit_count, next_break_count, IsRecastOf, IsChangeOf, CanAct, CanCommit, Acts, HasActed, ArePairedTexts, batch_of, recast_of, IsEditReady, IsEolReady, IsMoveReady}
use Rattle.model_core.proofs.Editing.{edited_paired}
use Rattle.model_core.proofs.Leaving.{leaves_from, leaves_as}
use Rattle.model_core.proofs.Stepping.{IsPairedState-by}
use Rattle.model_page.specs.declared.change.Change.TheVariants.{Ops, Endings}

-- ---- a batch in its order

-- what is told of the ops in their order is told of the ops
pub told_of_all : (text : FlatText) (ops sorted : List Op) (r : Result (List Op) BatchError) → sorted ≡ sorted_ops ops
    → Checks r (checked_batch text.kind text.units sorted) → Checks r (checked_batch text.kind text.units ops)
told_of_all text ops sorted r is told =
    subst (λ (b : Result (List Op) BatchRefusal). Checks r b)
    (ap (checked_batch text.kind text.units) is ∙ checked_batch-sorted_ops text.kind text.units ops) told

pub accepted_of_all : (text : FlatText) (ops sorted batch : List Op) (r : Result (List Op) BatchError) → sorted ≡ sorted_ops ops
    → Checks r (checked_batch text.kind text.units sorted) → r ≡ Ok batch → checked_batch text.kind text.units ops ≡ Ok batch
accepted_of_all text ops sorted batch r is told ok =
    subst (λ (a : Result (List Op) BatchError). Checks a (checked_batch text.kind text.units ops)) ok (told_of_all text ops sorted r is told)

module _ (f : FlatState) (ops sorted : List Op) (rule : checked_batch f.kind f.units ops ≡ Ok sorted) where
  pub edit_again : flat_edit f sorted ≡ flat_edit f ops
  edit_again = rw (checked_again f.kind f.units ops sorted rule, rule) refl

  edit_accepted : f.version + 1 ≤ greatest_version → flat_edit f ops ≡ Ok (after_batch f sorted)
  edit_accepted few =
      let below : nat_le greatest_version f.version ≡ false = lt-leb greatest_version f.version (omega (arith, few)) in
      rw (rule, below) refl

  as_done : sorted ≡ ops_as_done f ops
  as_done = (accepted f.kind f.units (ops_in f.kind ops) sorted rule).in_order

-- the batch that was accepted
pub ruled : (f : FlatState) (ops : List Op) (answer : Result (List Op) BatchRefusal) (next : FlatState) → checked_batch f.kind f.units ops ≡ answer
    → edited_by f answer ≡ Ok next → checked_batch f.kind f.units ops ≡ Ok (ops_as_done f ops)
ruled f ops (Err why) next is done = absurd cc
ruled f ops (Ok sorted) next is done = is ∙ ap (λ (s : List Op). Ok s) (as_done f ops sorted is)

-- what is prepared makes the same document of the ops as they are done
pub same_as_done : (ops : List Op) (now : ModelState) (ready : Prepared) → IsEditReady ops now ready
    → flat_edit now.document (ops_as_done now.document ops) ≡ flat_edit now.document ops
same_as_done ops now ready is =
    let f : FlatState = now.document in
    edit_again f ops (ops_as_done f ops) (ruled f ops (checked_batch f.kind f.units ops) (after_batch f (ops_as_done f ops)) refl is.accepted)

-- there are as many
pub length-as_done : (f : FlatState) (ops : List Op) → length (ops_as_done f ops) ≡ length ops
length-as_done f ops =
    length-sorted_ops (ops_in f.kind ops) ∙ ap length (ops_in-map f.kind ops) ∙ length-map ops (op_in f.kind)

-- ---- what commit asks for

pub can_commit : (now : ModelState) (ready : Prepared) (action : Action) → ready.action ≡ action → ready.version ≡ now.document.version → ready.kind ≡ now.document.kind
    → CanAct action now.document → IsEnough now.room (need_of action now.document) → CanCommit now ready
can_commit now ready action is version kind can room = record {
  version = version;
  kind = kind;
  action = subst (λ a. CanAct a now.document) (sym is) can;
  room = subst (λ a. IsEnough now.room (need_of a now.document)) (sym is) room;
}

pub edit_ready : (now : ModelState) (ops sorted back : List Op) (ready : Prepared) → checked_batch now.document.kind now.document.units ops ≡ Ok sorted
    → back ≡ inverse_from 0 0 now.document.units sorted → ready.action ≡ Make (Ops sorted back)
    → ready.version ≡ now.document.version → ready.kind ≡ now.document.kind → now.document.version + 1 ≤ greatest_version
    → IsEnough now.room (record { text = need_of_ops sorted; changes = 1 }) → IsEditReady ops now ready
edit_ready now ops sorted back ready rule inverse is version kind few room =
    let f : FlatState = now.document in
    let done : sorted ≡ ops_as_done f ops = as_done f ops sorted rule in
    record {
      action = is ∙ ap (λ (b : List Op). Make (Ops sorted b)) inverse ∙ ap (batch_of f) done;
      accepted = edit_accepted f ops sorted rule few ∙ ap (λ (s : List Op). Ok (after_batch f s)) done;
      can = can_commit now ready (Make (Ops sorted back)) is version kind
          (record { accepted = checked_again f.kind f.units ops sorted rule; back = inverse }) room;
    }

-- other line endings
pub eol_ready : (now : ModelState) (kind : Kind) (r : RecastState) (ready : Prepared) → is_same_kind kind now.document.kind ≡ false
    → r ≡ record { before = now.document.units; from = now.document.kind; after = normalized kind now.document.units; to = kind }
    → length (normalized kind now.document.units) ≤ most_units → ready.action ≡ Make (Endings r)
    → ready.version ≡ now.document.version → ready.kind ≡ now.document.kind → now.document.version + 1 ≤ greatest_version
    → IsEnough now.room (record { text = need_of_ops (ops_by On (Endings r)); changes = 1 }) → IsEolReady kind now ready
eol_ready now kind r ready other same fits is version old few room =
    let f : FlatState = now.document in
    let below : nat_le greatest_version f.version ≡ false = lt-leb greatest_version f.version (omega (arith, few)) in
    let short : nat_lt most_units (length (normalized kind f.units)) ≡ false = le-ltb most_units (length (normalized kind f.units)) fits in
    let can : IsRecastOf (text_now f) r = subst (IsRecastOf (text_now f)) (sym same) (record { before = refl; after = refl; other = other }) in
    record {
      action = is ∙ ap (λ (q : RecastState). Make (Endings q)) same;
      accepted = rw (other, short, below) refl;
      can = can_commit now ready (Make (Endings r)) is version old can room;
    }

pub move_ready : (way : Way) (now : ModelState) (ready : Prepared) → ready.action ≡ Move way → ready.version ≡ now.document.version → ready.kind ≡ now.document.kind
    → CanAct (Move way) now.document → IsEnough now.room (need_of (Move way) now.document) → IsMoveReady way now ready
move_ready way now ready is version kind some room = record { action = is; can = can_commit now ready (Move way) is version kind some room }

-- ---- what is left

-- a rule makes one document
one_document : (answer : Result FlatState FlatRefusal) (one other : FlatState) → answer ≡ Ok one → answer ≡ Ok other → one ≡ other
one_document answer one other is also = cc

pub IsPairedState-acted : (action : Action) (old new : FlatState) → Acts action old new → ArePairedTexts action → IsPairedState old → IsPairedState new
IsPairedState-acted (Make (Ops ops inverse)) old new done texts paired = IsPairedState-edit (Ok tt) old new ops done texts paired
IsPairedState-acted (Make (Endings r)) old new done texts paired = IsPairedState-eol (Ok true) old new r.to done paired
IsPairedState-acted (Move way) old new done texts paired = IsPairedState-by way (Ok true) old new done paired

-- by an edit that is carried out where it was prepared
pub record IsEdited (ops : List Op) (old new : ModelState) : Type 0 where
  pub document : flat_edit old.document ops ≡ Ok new.document
  pub paired : IsPaired old.document.units → All HasPairedText ops → IsPaired new.document.units
  pub parse : HasEdited ops (Ok tt) old new

-- by other line endings that are set where they were prepared
pub record IsRecast (kind : Kind) (old new : ModelState) : Type 0 where
  pub document : flat_eol old.document kind ≡ Ok (Some new.document)
  pub parse : HasRecast kind (Ok true) old new

-- the ops of a batch as they were prepared
pub edits_leave : (ops : List Op) (mid new : ModelState) → HasActed (batch_of mid.document (ops_as_done mid.document ops)) mid new
    → Leaves (edit_count (ops_as_done mid.document ops)) (length ops) (marks_edited mid ops) mid new
edits_leave ops mid new left =
    let count = length-as_done mid.document ops in
    leaves_as _ (edit_count (ops_as_done mid.document ops)) _ (length ops) _ (marks_edited mid ops) mid new refl count refl left

module _ (old mid new : ModelState) (ready : Prepared) (same : mid.document ≡ old.document) (kept : KeepsParse old mid)
    (done : Acts ready.action mid.document new.document) (acted : HasActed ready.action mid new) where
  pub edited_as_prepared : (ops : List Op) → IsEditReady ops mid ready → IsEdited ops old new
  edited_as_prepared ops is =
      let f : FlatState = mid.document in
      let sorted : List Op = ops_as_done f ops in
      let action : Action = batch_of f sorted in
      let made : Acts action f new.document = subst (λ a. Acts a f new.document) is.action done in
      let left : HasActed action mid new = subst (λ a. HasActed a mid new) is.action acted in
      let again : flat_edit f sorted ≡ flat_edit f ops = same_as_done ops mid ready is in
      let rule : checked_batch f.kind f.units ops ≡ Ok sorted = ruled f ops (checked_batch f.kind f.units ops) (after_batch f sorted) refl is.accepted in
      let whole : new.document ≡ after_batch f sorted =
      one_document (flat_edit f sorted) new.document (after_batch f sorted) made (again ∙ is.accepted) in
      let units : new.document.units ≡ applied_from 0 f.units sorted = ap (λ (g : FlatState). g.units) whole in
      let marks : marks_edited mid ops ≡ marks_edited old ops =
      ap (λ (g : FlatState). marked_backwards g.units (ops_as_done g ops) mid.marks) same
      ∙ ap (marked_backwards old.document.units (ops_as_done old.document ops)) kept.marks in
      record {
        document = ap (λ g. flat_edit g ops) (sym same) ∙ sym again ∙ made;
        paired = λ paired texts.
            subst IsPaired (sym units) (edited_paired (text_now f) ops sorted rule (subst (λ (g : FlatState). IsPaired g.units) (sym same) paired) texts);
        parse = leaves_from (edit_count (ops_as_done old.document ops)) (length ops) (marks_edited old ops) old mid new kept
            (leaves_as _ (edit_count (ops_as_done old.document ops)) _ (length ops) _ (marks_edited old ops) mid new
            (ap (λ (g : FlatState). edit_count (ops_as_done g ops)) same) refl marks (edits_leave ops mid new left));
      }

  pub recast_as_prepared : (kind : Kind) → IsEolReady kind mid ready → IsRecast kind old new
  recast_as_prepared kind is =
      let action : Action = recast_of mid.document kind in
      let made : Acts action mid.document new.document = subst (λ a. Acts a mid.document new.document) is.action done in
      let left : HasActed action mid new = subst (λ a. HasActed a mid new) is.action acted in
      record {
        document = ap (λ g. flat_eol g kind) (sym same) ∙ made;
        parse = leaves_from (part_count (normalized kind old.document.units)) 0 old.marks old mid new kept
            (leaves_as (need_of action mid.document).text.edits (part_count (normalized kind old.document.units)) _ 0 _ old.marks mid new
            (omega (arith, ap (λ (g : FlatState). part_count (normalized kind g.units)) same)) refl kept.marks left);
      }

-- ---- calls between, which leave the text, the version, the steps and the room

pub record IsSameText (old new : FlatState) : Type 0 where
  pub version : new.version ≡ old.version
  pub units : new.units ≡ old.units
  pub kind : new.kind ≡ old.kind
  pub undo : new.history.undo ≡ old.history.undo
  pub redo : new.history.redo ≡ old.history.redo

same_steps : (way : Way) (old new : FlatState) → IsSameText old new → next_steps way new.history ≡ next_steps way old.history
same_steps Back old new same = same.undo
same_steps On old new same = same.redo

can_act : (action : Action) (old new : FlatState) → IsSameText old new → CanAct action old → CanAct action new
can_act (Make change) old new same can =
    let text : text_now new ≡ text_now old = rw (same.units, same.kind) refl in
    subst (λ t. IsChangeOf t change) (sym text) can
can_act (Move way) old new same can = subst (λ (steps : List (Step FlatChange)). 0 < length steps) (sym (same_steps way old new same)) can

still_enough : (need : text_need.Need) (old new : text_room.Room) → text_room.KeepsRoom old new → text_room.IsEnough old need → text_room.IsEnough new need
still_enough need old new kept room = record {
  edits = omega (arith, room.edits, kept.edits);
  units = omega (arith, room.units, kept.units);
  breaks = omega (arith, room.breaks, kept.breaks);
}

enough_room : (action : Action) (old new : ModelState) → IsSameText old.document new.document → KeepsRoom old.room new.room
    → IsEnough old.room (need_of action old.document) → IsEnough new.room (need_of action new.document)
enough_room (Make change) old new same kept room = record {
  text = still_enough (need_of_ops (ops_by On change)) old.room.text new.room.text kept.text room.text;
  marks = omega (arith, room.marks, kept.marks);
  changes = kept.changes room.changes;
}
enough_room (Move way) old new same kept room =
    let steps = same_steps way old.document new.document same in
    let edits = ap (next_edit_count way) steps in
    let units = ap (next_unit_count way) steps in
    let breaks = ap (next_break_count way) steps in
    let still = still_enough _ old.room.text new.room.text kept.text room.text in
    record {
      text = record {
        edits = omega (arith, still.edits, edits);
        units = omega (arith, still.units, edits, units);
        breaks = omega (arith, still.breaks, edits, breaks);
      };
      marks = omega (arith, room.marks, kept.marks, edits);
      changes = omega arith;
    }

pub can_still_commit : (old new : ModelState) (ready : Prepared) → IsSameText old.document new.document → KeepsRoom old.room new.room → CanCommit old ready
    → CanCommit new ready
can_still_commit old new ready same kept can = record {
  version = can.version ∙ sym same.version;
  kind = can.kind ∙ sym same.kind;
  action = can_act ready.action old.document new.document same can.action;
  room = enough_room ready.action old new same kept can.room;
}
