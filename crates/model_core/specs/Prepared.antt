-- Prepared changes: what each needs of the document on which it is carried out, and what it does.
use Rattle.std.specs.Prelude.{◌≡◌, ℕ, ◌<◌, ◌≤◌, true, false, List, [], ◌∷◌, length, sum_by, Option, Some, None, Result, Ok, Err, All, ⊤}
use Rattle.unit_text.specs.declared.kind.Kind.{Kind}
use Rattle.unit_text.specs.Kinds.{normalized}
use Rattle.unit_text.specs.Units.{IsPaired}
use Rattle.text_rules.specs.declared.Op.{Op}
use Rattle.batch_rules.specs.Batches.{checked_batch, inverse_from, text_units}
use Rattle.decoration_rules.specs.Recasts.{RecastState}
use Rattle.mark_rules.specs.declared.Mark.{Mark}
use Rattle.undo_rules.specs.Stack.{Step}
use Rattle.document_rules.specs.declared.ModelError.{ModelError}
use Rattle.document_rules.specs.Outcomes.{RefusedFor}
use Rattle.document_rules.specs.Document.{FlatText, Deed, FlatChange, FlatState, batch, recast, ops_on, ops_back, text_now, recast_to, after_batch, after_recast, flat_edit, flat_stop, is_same_kind, flat_eol}
use Rattle.text_batches.specs.Needs.{edit_count, text_breaks, need_of_ops}
use Rattle.model_page.specs.declared.change.Change.{Change}
use Rattle.model_page.specs.declared.change.Way.{Way}
use Rattle.model_page.specs.declared.change.Way.TheVariants.{Back, On}
use Rattle.model_core.specs.declared.ready.Action.{Action}
use Rattle.model_core.specs.declared.ready.Action.TheVariants.{Make, Move}
use Rattle.model_core.specs.State.{Room, ModelState, Leaves}
use Rattle.text_buffer.specs.Room as text_room
use Rattle.text_buffer.specs.declared.room.Need as text_need
use Rattle.model_core.specs.Ways.{next_steps, flat_move}
use Rattle.model_core.specs.Edited.{ops_as_done}
use Rattle.model_page.specs.declared.change.Change.TheVariants.{Ops, Endings}
use Rattle.model_page.specs.Compact.{MostFitting}
use Rattle.model_page.specs.Changes.{text_from, text_to, ops_by}
use Rattle.model_page.specs.Counts.{marking_ops}
use Rattle.model_page.specs.LineMarks.{marks_over, marked_step}

-- what contracts see of a prepared change
pub record Prepared : Type 0 where
  -- of the document for which it was prepared
  pub version : ℕ
  pub kind : Kind
  pub action : Action
  -- to rewrite the text after the change; None if that is not due, memory was short, or a snapshot was open
  pub room : Option MostFitting

-- ---- the room

-- the ops that carry out the change this way
abbrev pub deed_ops : Way → FlatText → Deed → FlatText → List Op
deed_ops Back before deed after = ops_back before deed after
deed_ops On before deed after = ops_on before deed after

abbrev pub ops_along : Way → FlatChange → List Op
ops_along way change = deed_ops way change.before change.deed change.after

-- the sum of a measure over all batches of the next step; 0 if there is none
abbrev pub next_sum : (List Op → ℕ) → Way → List (Step FlatChange) → ℕ
next_sum measure way [] = 0
next_sum measure way (step ∷ steps) = sum_by (λ change. measure (ops_along way change)) step.changes

-- the number of edits that carry that step out
abbrev pub next_edit_count : Way → List (Step FlatChange) → ℕ
next_edit_count way steps = next_sum edit_count way steps

-- how many ops of that step mark lines, the same for undo and redo; new line endings mark none
abbrev pub deed_marking : Deed → ℕ
deed_marking (batch ops) = length ops
deed_marking recast = 0

abbrev pub next_marking_count : List (Step FlatChange) → ℕ
next_marking_count [] = 0
next_marking_count (step ∷ steps) = sum_by (λ change. deed_marking change.deed) step.changes

-- the number of units of their texts
abbrev pub next_unit_count : Way → List (Step FlatChange) → ℕ
next_unit_count way steps = next_sum text_units way steps

-- the number of breaks of their texts
abbrev pub next_break_count : Way → List (Step FlatChange) → ℕ
next_break_count way steps = next_sum text_breaks way steps

-- the room that an action needs
pub record Need : Type 0 where
  pub text : text_need.Need
  pub changes : ℕ

-- a new change adds one to the kept changes; an undo or a redo adds none
abbrev pub need_of : Action → FlatState → Need
need_of (Make change) f = record { text = need_of_ops (ops_by On change); changes = 1 }
need_of (Move way) f = record {
  text = record {
    edits = next_edit_count way (next_steps way f.history);
    units = next_unit_count way (next_steps way f.history);
    breaks = next_break_count way (next_steps way f.history);
  };
  changes = 0;
}

pub record IsEnough (room : Room) (need : Need) : Type 0 where
  pub text : text_room.IsEnough room.text need.text
  pub marks : need.text.edits ≤ room.marks
  pub changes : need.changes ≤ room.changes

-- ---- what the document must meet

-- a sorted batch that the rule accepts on the text, with its inverse
pub record IsBatchOf (text : FlatText) (ops inverse : List Op) : Type 0 where
  pub accepted : checked_batch text.kind text.units ops ≡ Ok ops
  pub back : inverse ≡ inverse_from 0 0 text.units ops

-- the text, and the same with line endings of another kind
pub record IsRecastOf (text : FlatText) (r : RecastState) : Type 0 where
  pub before : text_from On r ≡ text
  pub after : text_to On r ≡ recast_to r.to text.units
  pub other : is_same_kind r.to text.kind ≡ false

abbrev pub IsChangeOf : FlatText → Change → Type 0
IsChangeOf text (Ops ops inverse) = IsBatchOf text ops inverse
IsChangeOf text (Endings r) = IsRecastOf text r

-- an undo or a redo needs a next step
abbrev pub CanAct : Action → FlatState → Type 0
CanAct (Make change) f = IsChangeOf (text_now f) change
CanAct (Move way) f = 0 < length (next_steps way f.history)

-- Decorations, snapshots and stops of undo may have changed since the call that prepared.
pub record CanCommit (now : ModelState) (ready : Prepared) : Type 0 where
  pub version : ready.version ≡ now.document.version
  pub kind : ready.kind ≡ now.document.kind
  pub action : CanAct ready.action now.document
  pub room : IsEnough now.room (need_of ready.action now.document)

-- ---- carrying out

-- the new document is the rule's
abbrev pub Makes : Change → FlatState → FlatState → Type 0
Makes (Ops ops inverse) old new = flat_edit old ops ≡ Ok new
Makes (Endings r) old new = flat_eol old r.to ≡ Ok (Some new)

abbrev pub Acts : Action → FlatState → FlatState → Type 0
Acts (Make change) old new = Makes change old new
Acts (Move way) old new = flat_move way old ≡ Ok (Some new)

-- `Acts` as a step of undo of its own: the open step is closed before and after it.
pub record ActsAlone (action : Action) (old new : FlatState) : Type 0 where
  pub made : FlatState
  pub acts : Acts action (flat_stop old) made
  pub closed : new ≡ flat_stop made

abbrev pub marks_after : Action → FlatState → List Mark → List Mark
marks_after (Make change) f marks = marks_over On change f.units marks
marks_after (Move way) f marks = marked_step way marks (next_steps way f.history)

-- how many of its ops mark lines
abbrev pub marking_count : Action → FlatState → ℕ
marking_count (Make change) f = marking_ops On change
marking_count (Move way) f = next_marking_count (next_steps way f.history)

-- the last parse and the pieces after the action
abbrev pub HasActed : Action → ModelState → ModelState → Type 0
HasActed action old new =
    let f = old.document in
    Leaves (need_of action f).text.edits (marking_count action f) (marks_after action f old.marks) old new

-- no new text has a lone surrogate; new line endings, undo and redo bring none
abbrev pub HasPairedTexts : Change → Type 0
HasPairedTexts (Ops ops inverse) = All (λ (op : Op). IsPaired op.text) ops
HasPairedTexts (Endings r) = ⊤

abbrev pub ArePairedTexts : Action → Type 0
ArePairedTexts (Make change) = HasPairedTexts change
ArePairedTexts (Move way) = ⊤

-- ---- the results of the calls that prepare, for the present document

-- a batch with its inverse
abbrev pub batch_of : FlatState → List Op → Action
batch_of f ops = Make (Ops ops (inverse_from 0 0 f.units ops))

-- The rule accepts the ops. It makes the same document of the ops as they are carried out: `same_as_done` of proofs/Preparing.antt.
pub record IsEditReady (ops : List Op) (now : ModelState) (ready : Prepared) : Type 0 where
  pub action : ready.action ≡ batch_of now.document (ops_as_done now.document ops)
  pub accepted : flat_edit now.document ops ≡ Ok (after_batch now.document (ops_as_done now.document ops))
  pub can : CanCommit now ready

-- the present text, and the same with line endings of this kind
abbrev pub recast_of : FlatState → Kind → Action
recast_of f kind = Make (Endings (record { before = f.units; from = f.kind; after = normalized kind f.units; to = kind }))

-- the rule changes the line endings
pub record IsEolReady (kind : Kind) (now : ModelState) (ready : Prepared) : Type 0 where
  pub action : ready.action ≡ recast_of now.document kind
  pub accepted : flat_eol now.document kind ≡ Ok (Some (after_recast now.document kind))
  pub can : CanCommit now ready

pub record IsMoveReady (way : Way) (now : ModelState) (ready : Prepared) : Type 0 where
  pub action : ready.action ≡ Move way
  pub can : CanCommit now ready

abbrev pub PreparesEdit : List Op → Result Prepared ModelError → ModelState → Type 0
PreparesEdit ops (Ok ready) now = IsEditReady ops now ready
PreparesEdit ops (Err e) now = RefusedFor e (flat_edit now.document ops)

-- None exactly if the document has this kind already
abbrev pub PreparesEol : Kind → Result (Option Prepared) ModelError → ModelState → Type 0
PreparesEol kind (Ok (Some ready)) now = IsEolReady kind now ready
PreparesEol kind (Ok None) now = is_same_kind kind now.document.kind ≡ true
PreparesEol kind (Err e) now = RefusedFor e (flat_eol now.document kind)

-- None exactly if there is no next step
abbrev pub PreparesMove : Way → Result (Option Prepared) ModelError → ModelState → Type 0
PreparesMove way (Ok (Some ready)) now = IsMoveReady way now ready
PreparesMove way (Ok None) now = next_steps way now.document.history ≡ []
PreparesMove way (Err e) now = RefusedFor e (flat_move way now.document)
