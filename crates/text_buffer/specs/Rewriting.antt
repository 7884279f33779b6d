-- Adjacent pieces that are rewritten as one.
use Rattle.std.specs.Prelude.{ℕ, ◌+◌, ◌<◌, ◌≤◌, List, length}
use Rattle.line_starts.specs.Starts.{break_count}
use Rattle.piece_tree.specs.declared.piece.Found.{Found}
use Rattle.piece_tree.specs.declared.tree.Stretch.{Stretch}
use Rattle.piece_tree.specs.Pieces.{Entry, IsStretch}
use Rattle.text_buffer.specs.declared.room.TheConstants.{MOST_REWRITTEN}
use Rattle.text_buffer.specs.declared.text.rewriting.TheConstants.{LEAST_REWRITTEN}
use Rattle.text_buffer.specs.Room.{Room}

-- the most units that are rewritten at once
abbrev pub most_rewritten : ℕ
most_rewritten = MOST_REWRITTEN

-- and the fewest pieces that are
abbrev pub least_rewritten : ℕ
least_rewritten = LEAST_REWRITTEN

-- the pieces that lie in one run with some looked-up one are many and have few units
pub record IsCrowded (entries : List Entry) (stretch : Stretch) : Type 0 where
  pub near : Found
  pub is : IsStretch entries near stretch
  pub many : least_rewritten ≤ stretch.pieces
  pub few : stretch.units ≤ most_rewritten

-- there is room to put in these units
pub record HasRoomFor (text : List ℕ) (room : Room) : Type 0 where
  pub edits : 0 < room.edits
  pub units : length text < room.units
  pub breaks : break_count text ≤ room.breaks
