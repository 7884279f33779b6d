-- A reader of a text run by run: the remaining runs and their cost.
use Rattle.std.specs.Prelude.{ℕ, ◌≡◌, ◌-◌, ◌<◌, Option, Some, None, List, [], ◌∷◌, length, drop, map, nat_le, if◌then◌else◌}
use Rattle.std.specs.List.{All}
use Rattle.chunk_buffers.specs.declared.span.ChunkSpan.{ChunkSpan}
use Rattle.chunk_buffers.specs.Chunks.{units_at}
use Rattle.piece_tree.specs.declared.piece.Found.{Found}
use Rattle.piece_tree.specs.declared.piece.Piece.{Piece}
use Rattle.piece_tree.specs.Pieces.{Entry, pieces_of, piece_of, IsPieceOf, IsFound}
use Rattle.text_rules.specs.Lines.{Line, lines_of}
use Rattle.text_buffer.specs.declared.rest.Rest.{Rest}
use Rattle.text_buffer.specs.Text.{spelled, IsUnsplit}

pub record Reading : Type 0 where
  -- the remaining runs
  pub left : List (List ℕ)
  -- how many steps it may still take beyond three for each run
  pub due : ℕ

-- the units of each span
abbrev pub runs_of : List (List ℕ) → List ChunkSpan → List (List ℕ)
runs_of buffers spans = map (units_at buffers) spans

-- the lists from an offset on: those that end at or before it are left out, and the one around it is cut
abbrev pub rest_from : ℕ → List (List ℕ) → List (List ℕ)
rest_from offset [] = []
rest_from offset (x ∷ xs) = if nat_le (length x) offset then rest_from (offset - length x) xs else drop offset x ∷ xs

-- `left` are the pieces after the looked-up one
pub record AreBehind (entries : List Entry) (found : Found) (left : List Entry) : Type 0 where
  pub piece : IsFound entries found
  pub are : left ≡ piece.later

-- a span, if any, followed by those of the pieces
abbrev pub spans_with : Option ChunkSpan → List Entry → List ChunkSpan
spans_with None entries = map (λ p. p.span) (pieces_of entries)
spans_with (Some span) entries = span ∷ map (λ p. p.span) (pieces_of entries)

abbrev pub spans_left : Rest → List ChunkSpan
spans_left rest = spans_with rest.first rest.behind.left

abbrev pub pieces_at : List (List ℕ) → List ChunkSpan → List Piece
pieces_at buffers spans = map (piece_of buffers) spans

abbrev pub pieces_left : List (List ℕ) → Rest → List Piece
pieces_left buffers rest = pieces_at buffers (spans_left rest)

-- the lines of the rest
abbrev pub lines_left : List (List ℕ) → Rest → List Line
lines_left buffers rest = lines_of (spelled buffers (pieces_left buffers rest))

-- the lines of a span followed by the rest
abbrev pub lines_from : List (List ℕ) → ChunkSpan → Rest → List Line
lines_from buffers span rest = lines_of (spelled buffers (piece_of buffers span ∷ pieces_left buffers rest))

-- the first line
abbrev pub first_line : List Line → Line
first_line [] = record { content = []; break = [] }
first_line (l ∷ ls) = l

-- the pieces are within the buffers, none is empty, and no CR LF is split between two
pub record CanRead (buffers : List (List ℕ)) (pieces : List Piece) : Type 0 where
  pub counted : All (IsPieceOf buffers) pieces
  pub full : All (λ (p : Piece). 0 < p.span.units) pieces
  pub unsplit : IsUnsplit buffers pieces
