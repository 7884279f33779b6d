-- Remembered pieces, which were looked up before.
use Rattle.std.specs.Prelude.{ℕ, ◌+◌, ◌<◌, List}
use Rattle.piece_tree.specs.declared.piece.Found.{Found}
use Rattle.piece_tree.specs.Pieces.{Entry, IsFound}

-- the offset at which the piece ends
abbrev pub end_of : Found → ℕ
end_of found = found.before.units + found.span.units

-- pieces that end before the offset are also in the new tree
abbrev pub KeepsBefore : List Entry → List Entry → ℕ → Type 0
KeepsBefore old new offset = (found : Found) → IsFound old found → end_of found < offset → IsFound new found
