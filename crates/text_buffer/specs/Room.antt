-- The room that edits need, whether there is enough, and what is left.
use Rattle.std.specs.Prelude.{ℕ, ◌≡◌, ◌+◌, ◌-◌, ◌*◌, ◌/◌, ◌<◌, ◌≤◌, List, length}
use Rattle.line_starts.specs.Starts.{break_count}
use Rattle.text_buffer.specs.declared.room.Need.{Need}
use Rattle.text_buffer.specs.declared.room.TheConstants.{UNITS_AN_EDIT, BREAKS_AN_EDIT, MOST_PART}
use Rattle.text_buffer.specs.declared.beside.TheConstants.{MOST_BREAKS_ALONG}

-- how many units an edit may append beside its text: those taken along on both sides, and one that separates buffers
abbrev pub units_beside_text : ℕ
units_beside_text = UNITS_AN_EDIT

-- and how many breaks: those taken along, and one in place of a CR LF that is cut between two parts of a text
abbrev pub breaks_beside_text : ℕ
breaks_beside_text = BREAKS_AN_EDIT

-- a longer text is put in as several parts, one edit each
abbrev pub most_part : ℕ
most_part = MOST_PART

-- the number of parts of a text, at least 1
abbrev pub part_count : List ℕ → ℕ
part_count text = 1 + (length text - 1) / most_part

-- the numbers of edits, units and breaks that need no allocation
pub record Room : Type 0 where
  pub edits : ℕ
  pub units : ℕ
  pub breaks : ℕ

-- the room is enough for these edits: each may append `units_beside_text` and `breaks_beside_text` beside its text
pub record IsEnough (room : Room) (need : Need) : Type 0 where
  pub edits : need.edits ≤ room.edits
  pub units : need.units + units_beside_text * need.edits ≤ room.units
  pub breaks : need.breaks + breaks_beside_text * need.edits ≤ room.breaks

-- there is at least the old room
pub record KeepsRoom (old new : Room) : Type 0 where
  pub edits : old.edits ≤ new.edits
  pub units : old.units ≤ new.units
  pub breaks : old.breaks ≤ new.breaks

-- at most these edits were taken from the room
pub record HasSpent (need : Need) (old new : Room) : Type 0 where
  pub edits : new.edits + need.edits ≡ old.edits
  pub units : old.units ≤ new.units + (need.units + units_beside_text * need.edits)
  pub breaks : old.breaks ≤ new.breaks + (need.breaks + breaks_beside_text * need.edits)

-- the room is enough for an edit with a text of one part, which takes along at most `breaks_along` breaks
abbrev pub breaks_along : ℕ
breaks_along = 2 * MOST_BREAKS_ALONG

pub record IsEnoughForPart (room : Room) (text : List ℕ) : Type 0 where
  pub edits : 0 < room.edits
  pub units : length text + units_beside_text ≤ room.units
  pub breaks : break_count text + breaks_along ≤ room.breaks

-- at most such an edit was taken from the room
pub record HasSpentPart (text : List ℕ) (old new : Room) : Type 0 where
  pub edits : new.edits + 1 ≡ old.edits
  pub units : old.units ≤ new.units + (length text + units_beside_text)
  pub breaks : old.breaks ≤ new.breaks + (break_count text + breaks_along)

-- the room that the replacement of a span by this text needs
abbrev pub need_of_edit : List ℕ → Need
need_of_edit text = record { edits = part_count text; units = length text; breaks = break_count text }
