-- What is sought among the pieces of a text.
use Rattle.std.specs.Prelude.{ℕ, ◌+◌, ◌<◌, ◌≤◌, List}
use Rattle.piece_tree.specs.declared.piece.Found.{Found}
use Rattle.piece_tree.specs.Pieces.{Entry, pieces_of, unit_count, break_count_of, IsFound, HasUnit}
use Rattle.text_buffer.specs.declared.look_up.Sought.{Sought}
use Rattle.text_buffer.specs.declared.look_up.Sought.TheVariants.{Offset, Break}

-- the piece has the n-th break, counted from 1
pub record HasBreak (entries : List Entry) (found : Found) (n : ℕ) : Type 0 where
  pub piece : IsFound entries found
  pub start : found.before.breaks < n
  pub end : n ≤ found.before.breaks + found.breaks

-- the piece has what is sought
abbrev pub Has : List Entry → Found → Sought → Type 0
Has entries found (Offset offset) = HasUnit entries found offset
Has entries found (Break n) = HasBreak entries found n

-- one of the pieces has it
abbrev pub IsThere : List Entry → Sought → Type 0
IsThere entries (Offset offset) = offset < unit_count (pieces_of entries)
IsThere entries (Break n) = (0 < n) × (n ≤ break_count_of (pieces_of entries))
