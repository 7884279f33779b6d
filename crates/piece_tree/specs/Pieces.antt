-- The pieces of a text, as a list with splices.
use Rattle.std.specs.Prelude.{ℕ, ◌≡◌, ◌+◌, ◌-◌, ◌<◌, ◌≤◌, ◌==◌, ◌&&◌, Bool, false, Option, Some, None, nat_le, if◌then◌else◌, List, [], ◌∷◌, ◌++◌, length, filter, map, sum_by}
use Rattle.chunk_buffers.specs.declared.span.ChunkSpan.{ChunkSpan}
use Rattle.chunk_buffers.specs.Chunks.{units_at, LiesIn, part_of}
use Rattle.line_starts.specs.Starts.{break_count}
use Rattle.piece_tree.specs.declared.piece.Piece.{Piece}
use Rattle.piece_tree.specs.declared.piece.PieceSum.{PieceSum}
use Rattle.piece_tree.specs.declared.piece.PieceId.{PieceId}
use Rattle.piece_tree.specs.declared.piece.Found.{Found}
use Rattle.piece_tree.specs.declared.tree.Stretch.{Stretch}

pub record Entry : Type 0 where
  pub id : PieceId
  pub piece : Piece

-- what contracts see of a piece tree
pub record Pieces : Type 0 where
  -- the pieces in the order of the text, each with its name
  pub entries : List Entry
  -- the number of splices for which there is room
  pub spare : ℕ

abbrev pub pieces_of : List Entry → List Piece
pieces_of entries = map (λ e. e.piece) entries

abbrev pub unit_count : List Piece → ℕ
unit_count pieces = sum_by (λ p. p.span.units) pieces

abbrev pub break_count_of : List Piece → ℕ
break_count_of pieces = sum_by (λ p. p.breaks) pieces

abbrev pub sum_of : List Piece → PieceSum
sum_of pieces = record { units = unit_count pieces; breaks = break_count_of pieces }

-- the piece of a span of these buffers
abbrev pub piece_of : List (List ℕ) → ChunkSpan → Piece
piece_of buffers span = record { span = span; breaks = break_count (units_at buffers span) }

abbrev pub piece_list : List (List ℕ) → Option ChunkSpan → List Piece
piece_list buffers None = []
piece_list buffers (Some span) = piece_of buffers span ∷ []

-- an optional piece as a list
abbrev pub listed : Option Piece → List Piece
listed None = []
listed (Some p) = p ∷ []

abbrev pub span_of : Option Piece → Option ChunkSpan
span_of None = None
span_of (Some p) = Some p.span

-- whether the second span starts where the first one ends, in the same buffer
abbrev pub goes_on : ChunkSpan → ChunkSpan → Bool
goes_on first second = first.buffer == second.buffer && first.start + first.units == second.start

-- whether the span goes on from the last of the pieces
abbrev pub goes_on_from : List Piece → ChunkSpan → Bool
goes_on_from [] span = false
goes_on_from (p ∷ []) span = goes_on p.span span
goes_on_from (p ∷ q ∷ ps) span = goes_on_from (q ∷ ps) span

-- the first span extended by the length of the second
abbrev pub prolonged : ChunkSpan → ChunkSpan → ChunkSpan
prolonged first second = record { buffer = first.buffer; start = first.start; units = first.units + second.units }

-- the pieces with a span appended: it extends the last piece if it goes on from it, else it is a new piece
abbrev pub followed : List (List ℕ) → List Piece → ChunkSpan → List Piece
followed buffers [] span = piece_of buffers span ∷ []
followed buffers (p ∷ []) span =
    if goes_on p.span span then piece_of buffers (prolonged p.span span) ∷ [] else p ∷ piece_of buffers span ∷ []
followed buffers (p ∷ q ∷ ps) span = p ∷ followed buffers (q ∷ ps) span

abbrev pub followed_by : List (List ℕ) → List Piece → Option ChunkSpan → List Piece
followed_by buffers pieces None = pieces
followed_by buffers pieces (Some span) = followed buffers pieces span

-- the piece is in these buffers, and its count of breaks is right
pub record IsPieceOf (buffers : List (List ℕ)) (piece : Piece) : Type 0 where
  pub inside : LiesIn buffers piece.span
  pub breaks : piece.breaks ≡ break_count (units_at buffers piece.span)

-- the pieces of the first n units; a piece that reaches past them is cut
abbrev pub front : List (List ℕ) → ℕ → List Piece → List Piece
front buffers n [] = []
front buffers n (p ∷ ps) =
    if nat_le p.span.units n then p ∷ front buffers (n - p.span.units) ps else
    (if n == 0 then [] else piece_of buffers (part_of p.span 0 n) ∷ [])

-- the pieces after the first n units; a piece that begins before is cut
abbrev pub back : List (List ℕ) → ℕ → List Piece → List Piece
back buffers n [] = []
back buffers n (p ∷ ps) =
    if nat_le p.span.units n then back buffers (n - p.span.units) ps else
    (if n == 0 then p ∷ ps else piece_of buffers (part_of p.span n p.span.units) ∷ ps)

-- the pieces after the units from `start` to `end` are replaced by the span
abbrev pub spliced : List (List ℕ) → ℕ → ℕ → Option ChunkSpan → List Piece → List Piece
spliced buffers start end span pieces = followed_by buffers (front buffers start pieces) span ++ back buffers end pieces

-- the looked-up piece is in the list, and `before` is the sum of the pieces before it
pub record IsFound (entries : List Entry) (found : Found) : Type 0 where
  pub earlier : List Entry
  pub later : List Entry
  pub place : entries ≡ earlier ++ record { id = found.id; piece = record { span = found.span; breaks = found.breaks } } ∷ later
  pub before : found.before ≡ sum_of (pieces_of earlier)

-- The first looked-up piece is right before the second: the pieces before the second are those before the first, and the first.
pub record AreNeighbours (entries : List Entry) (first second : Found) : Type 0 where
  pub left : IsFound entries first
  pub right : IsFound entries second
  pub beside : right.earlier ≡ left.earlier ++ record { id = first.id; piece = record { span = first.span; breaks = first.breaks } } ∷ []
  pub before : second.before
      ≡ record { units = first.before.units + first.span.units; breaks = first.before.breaks + first.breaks }

-- the looked-up piece has the unit at this offset
pub record HasUnit (entries : List Entry) (found : Found) (offset : ℕ) : Type 0 where
  pub piece : IsFound entries found
  pub start : found.before.units ≤ offset
  pub end : offset < found.before.units + found.span.units

-- the looked-up piece has the unit at the offset; without a looked-up piece, the offset is the end
abbrev pub StandsAt : List Entry → Option Found → ℕ → Type 0
StandsAt entries None offset = offset ≡ unit_count (pieces_of entries)
StandsAt entries (Some found) offset = HasUnit entries found offset

-- one of the entries has this name
pub record IsAmong (entries : List Entry) (id : PieceId) : Type 0 where
  pub earlier : List Entry
  pub later : List Entry
  pub piece : Piece
  pub place : entries ≡ earlier ++ record { id = id; piece = piece } ∷ later

-- P holds of the entries before the one of this name and of those after it
abbrev pub AtEntry : List Entry → PieceId → (List Entry → List Entry → Type 0) → Type 0
AtEntry entries id P =
    (earlier later : List Entry) (piece : Piece) → entries ≡ earlier ++ record { id = id; piece = piece } ∷ later → P earlier later

-- the name and the span of the first entry
abbrev pub first_of : List Entry → Option (PieceId × ChunkSpan)
first_of [] = None
first_of (e ∷ entries) = Some (e.id, e.piece.span)

-- the entry of a looked-up piece
abbrev pub entry_found : Found → Entry
entry_found found = record { id = found.id; piece = record { span = found.span; breaks = found.breaks } }

-- the pieces of one run
abbrev pub in_run : ℕ → List Entry → List Entry
in_run run entries = filter (λ e. e.id.run == run) entries

-- All pieces of the run of a looked-up piece, which are adjacent. The stretch has the first of them as a look-up would return it, their
-- units and their number.
pub record IsStretch (entries : List Entry) (near : Found) (stretch : Stretch) : Type 0 where
  pub earlier : List Entry
  pub later : List Entry
  pub place : entries ≡ earlier ++ in_run near.id.run entries ++ later
  pub first : IsFound entries stretch.first
  pub before : first.earlier ≡ earlier
  pub units : stretch.units ≡ unit_count (pieces_of (in_run near.id.run entries))
  pub pieces : stretch.pieces ≡ length (in_run near.id.run entries)

-- the new list is the old one with some more behind it
abbrev pub BeginsWith : {X : Type 0} → List X → List X → Type 0
BeginsWith {X} old new = (more : List X) × (new ≡ old ++ more)
