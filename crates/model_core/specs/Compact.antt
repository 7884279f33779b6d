-- When the text of a model is rewritten, and what its buffers hold after a change.
use Rattle.std.specs.Prelude.{ℕ, ◌≡◌, ◌+◌, ◌*◌, ◌^◌, ◌<◌, ◌≤◌, Bool, true, false, Option, Some, [], length}
use Rattle.text_buffer.specs.Rewriting.{most_rewritten}
use Rattle.model_page.specs.Compact.{MostFitting, outgrows, fits}
use Rattle.model_page.specs.declared.compact.TheConstants.{MOST_TIMES_HELD}
use Rattle.model_core.specs.declared.ready.Action.{Action}
use Rattle.model_core.specs.Prepared.{need_of}
use Rattle.model_core.specs.State.{ModelState}

-- the document and the last parse are as they were, and the text lies in no more pieces than before
pub record IsCompacted (old new : ModelState) : Type 0 where
  pub document : new.document ≡ old.document
  pub parsed : new.parsed ≡ old.parsed
  pub tree : new.tree ≡ old.tree
  pub marks : new.marks ≡ old.marks
  pub states : new.states ≡ old.states
  pub fresh : new.fresh ≡ old.fresh
  pub pieces : new.pieces ≤ old.pieces

-- the buffers hold far more than the text
abbrev pub is_outgrown : ModelState → Bool
is_outgrown m = outgrows (length m.document.units) m.held

-- the buffers were only appended to, by this many edits, whose texts have `units` units together
pub record HasAppended (edits units : ℕ) (old new : ModelState) : Type 0 where
  pub kept : old.held ≤ new.held
  pub few : new.held ≤ old.held + (units + 8 * edits)

-- there is room to rewrite the text, it fits, and no snapshot is open
pub record CanRewrite (room : Option MostFitting) (m : ModelState) : Type 0 where
  pub most : MostFitting
  pub there : room ≡ Some most
  pub fitting : fits most m.document.units ≡ true
  pub alone : m.document.shelf.snapshots ≡ []

-- The text was rewritten after a change, if that was due; where that was not possible, the model is `overfull` now. Else some pieces of few
-- units may have been.
pub record IsRewritten (due : Bool) (room : Option MostFitting) (old new : ModelState) : Type 0 where
  pub cause : new.overfull ≡ true → due ≡ true
  pub sure : CanRewrite room new → new.overfull ≡ false
  pub kept : due ≡ false → old.held ≤ new.held
  pub few : due ≡ false → new.held ≤ old.held + (most_rewritten + 1)
  pub alone : due ≡ true → new.overfull ≡ false → new.held ≤ length new.document.units + 8 + (most_rewritten + 1)

-- the most units in the buffers after a change: 3 times those of the text before, those of the text after, what the edits append, and 2^16
abbrev pub most_held_after : ℕ → ℕ → ℕ → ℕ → ℕ
most_held_after before after edits units = MOST_TIMES_HELD * before + after + (units + 8 * edits) + 2 ^ 16

-- what the buffers hold after a change by this many edits, whose texts have `units` units together
pub record KeepsBound (edits units : ℕ) (old new : ModelState) : Type 0 where
  -- their number is limited, unless memory was short for that or a snapshot was open
  pub bound : new.overfull ≡ false → new.held ≤ most_held_after (length old.document.units) (length new.document.units) edits units
  pub cause : new.overfull ≡ true → is_outgrown old ≡ true
  -- the text is rewritten only if the buffers held far more: at most a third of what they held, beside the text of the change
  pub paid : new.held < old.held → is_outgrown old ≡ true

abbrev pub HasAppendedBy : Action → ModelState → ModelState → Type 0
HasAppendedBy action old new = let need = (need_of action old.document).text in HasAppended need.edits need.units old new

abbrev pub KeepsBoundBy : Action → ModelState → ModelState → Type 0
KeepsBoundBy action old new = let need = (need_of action old.document).text in KeepsBound need.edits need.units old new
