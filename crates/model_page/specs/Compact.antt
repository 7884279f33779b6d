-- When a text is rewritten, and its page after that.
use Rattle.std.specs.Prelude.{ℕ, ◌≡◌, ◌+◌, ◌*◌, ◌≤◌, ◌&&◌, nat_le, nat_lt, Bool, List, length}
use Rattle.line_starts.specs.Starts.{break_count}
use Rattle.chunk_buffers.specs.Chunks.{unit_count}
use Rattle.text_buffer.specs.declared.room.Need.{Need}
use Rattle.text_buffer.specs.Room.{IsEnough, most_part}
use Rattle.text_buffer.specs.Text.{Text}
use Rattle.model_page.specs.State.{PageState, KeepsParse, flat_text}
use Rattle.model_page.specs.declared.compact.TheConstants.{MOST_TIMES_HELD, MOST_HELD}

-- buffers with `held` units hold far more than a text of `units` units
abbrev pub outgrows : ℕ → ℕ → Bool
outgrows units held = nat_lt (MOST_TIMES_HELD * units + MOST_HELD) held

-- the buffers hold far more than the text
abbrev pub is_outgrown : Text → Bool
is_outgrown text = outgrows (length text.units) (unit_count text.buffers)

-- the most units and breaks that fit the room to rewrite a text as one part
pub record MostFitting : Type 0 where
  pub units : ℕ
  pub breaks : ℕ

-- an empty text with room for one edit of these units, at most one part, and these breaks
pub record IsRoomFor (text : Text) (units breaks : ℕ) : Type 0 where
  pub empty : unit_count text.buffers ≡ 0
  pub short : units ≤ most_part
  pub room : IsEnough text.room (record { edits = 1; units = units; breaks = breaks })

-- whether a text fits it
abbrev pub fits : MostFitting → List ℕ → Bool
fits most units = nat_le (length units) most.units && nat_le (break_count units) most.breaks

-- after edits with this need the text fits the room
pub record HasRoomAfter (text : Text) (need : Need) (room : MostFitting) : Type 0 where
  pub units : length text.units + need.units ≤ room.units
  pub breaks : break_count text.units + need.breaks ≤ room.breaks

-- the same text, in one piece and in no more than before, alone in its buffers
pub record IsCompactOf (old new : Text) : Type 0 where
  pub text : flat_text new ≡ flat_text old
  pub one : length new.spans ≤ 1
  pub fewer : length new.spans ≤ length old.spans
  pub alone : unit_count new.buffers ≤ length old.units + 8

-- the same page, whose text lies in no more pieces than before
pub record IsCompacted (old new : PageState) : Type 0 where
  pub text : flat_text new.text ≡ flat_text old.text
  pub pieces : length new.text.spans ≤ length old.text.spans
  pub decorations : new.decorations ≡ old.decorations
  pub marks : new.marks ≡ old.marks
  pub parse : KeepsParse old new
