-- A text in pieces of buffers.
use Rattle.std.specs.Prelude.{ℕ, ◌≡◌, ◌+◌, ◌<◌, ◌^◌, Bool, false, ◌==◌, ◌&&◌, if◌then◌else◌, Option, Some, None, length, List, [], ◌∷◌, ◌++◌, map}
use Rattle.std.specs.List.{All, flat_map, sum_by}
use Rattle.chunk_buffers.specs.declared.span.ChunkSpan.{ChunkSpan}
use Rattle.chunk_buffers.specs.Chunks.{Shown, buffer_at, units_at, LiesIn}
use Rattle.piece_tree.specs.declared.piece.Piece.{Piece}
use Rattle.piece_tree.specs.Pieces.{Pieces, pieces_of, unit_count, IsPieceOf, IsFound}
use Rattle.text_buffer.specs.declared.beside.TheConstants.{MOST_ALONG}
use Rattle.piece_tree.specs.declared.piece.Found.{Found}
use Rattle.unit_text.specs.declared.kind.Kind.{Kind}
use Rattle.unit_text.specs.Kinds.{IsOfKind}
use Rattle.text_rules.specs.Lines.{line_feed, carriage_return}
use Rattle.text_rules.specs.Breaks.{joins_pair}
use Rattle.text_buffer.specs.Room.{Room}

-- the most units that an edit takes along on each side of its span
abbrev pub most_along : ℕ
most_along = MOST_ALONG

-- what contracts see of a text buffer
pub record Text : Type 0 where
  pub units : List ℕ
  -- the kind of its line endings
  pub kind : Kind
  -- the spans of the buffers whose units make the text, one for each piece
  pub spans : List ChunkSpan
  pub buffers : List (List ℕ)
  -- the edits that need no allocation
  pub room : Room
  -- the units that fit in the last buffer
  pub here : ℕ

-- the units of the pieces, one after another
abbrev pub spelled : List (List ℕ) → List Piece → List ℕ
spelled buffers pieces = flat_map (λ p. units_at buffers p.span) pieces

-- no CR LF is split between two pieces
abbrev pub IsUnsplit : List (List ℕ) → List Piece → Type 0
IsUnsplit buffers [] = Unit {0}
IsUnsplit buffers (p ∷ ps) = (joins_pair (units_at buffers p.span) (spelled buffers ps) ≡ false) × IsUnsplit buffers ps

pub record IsText (tree : Pieces) (chunks : Shown) : Type 0 where
  pub pieces : All (IsPieceOf chunks.buffers) (pieces_of tree.entries)
  -- no piece is empty
  pub full : All (λ (p : Piece). 0 < p.span.units) (pieces_of tree.entries)
  pub unsplit : IsUnsplit chunks.buffers (pieces_of tree.entries)
  -- the number of units fits
  pub small : unit_count (pieces_of tree.entries) < 2 ^ 62

-- the pieces and the buffers are a text, and the remembered pieces are among its pieces
pub record IsTextWith (tree : Pieces) (chunks : Shown) (remembered : List Found) : Type 0 where
  pub text : IsText tree chunks
  pub found : All (IsFound tree.entries) remembered

-- the units of the pieces
abbrev pub units_from : Pieces → Shown → List ℕ
units_from tree chunks = spelled chunks.buffers (pieces_of tree.entries)

abbrev pub text_of : Kind → Pieces → Shown → Text
text_of kind tree chunks = record {
  units = units_from tree chunks;
  kind = kind;
  spans = map (λ p. p.span) (pieces_of tree.entries);
  buffers = chunks.buffers;
  room = record { edits = tree.spare; units = chunks.spare; breaks = chunks.spare_breaks };
  here = chunks.here;
}

-- and all line endings are of the kind
pub record IsTextOf (kind : Kind) (tree : Pieces) (chunks : Shown) (remembered : List Found) : Type 0 where
  pub seen : IsTextWith tree chunks remembered
  pub endings : IsOfKind kind (units_from tree chunks)

-- a span of the text ends at this offset and at the end of the last buffer, so the next appended units can extend it
pub record GrowsAt (text : Text) (offset : ℕ) : Type 0 where
  pub earlier : List ChunkSpan
  pub span : ChunkSpan
  pub later : List ChunkSpan
  pub among : text.spans ≡ earlier ++ span ∷ later
  pub ends : sum_by (λ s. s.units) earlier + span.units ≡ offset
  pub last : span.buffer + 1 ≡ length text.buffers
  pub end : span.start + span.units ≡ length (buffer_at text.buffers span.buffer)

-- the unit if the test holds, else nothing
abbrev pub unit_if : Bool → ℕ → List ℕ
unit_if b unit = if b then unit ∷ [] else []

abbrev pub one_if : Bool → ℕ
one_if b = if b then 1 else 0

-- the units are in the buffers at this span; no span for no units
abbrev pub IsAdded : List (List ℕ) → Option ChunkSpan → List ℕ → Type 0
IsAdded buffers None units = units ≡ []
IsAdded buffers (Some span) units = LiesIn buffers span × ((units_at buffers span ≡ units) × (0 < length units))

-- whether a text ends with CR LF
abbrev pub ends_with_pair : List ℕ → Bool
ends_with_pair [] = false
ends_with_pair (u ∷ []) = false
ends_with_pair (u ∷ v ∷ []) = u == carriage_return && v == line_feed
ends_with_pair (u ∷ v ∷ w ∷ x) = ends_with_pair (v ∷ w ∷ x)
