-- The effect of a splice on the pieces: where it cuts, what is left, and what it puts.
use Rattle.std.specs.Prelude.{ℕ, ◌≡◌, ◌+◌, ◌-◌, ◌<◌, ◌≤◌, ◌^◌, true, false, Option, Some, None, List, [], ◌∷◌, ◌++◌, length, take, drop}
use Rattle.std.specs.List.{All}
use Rattle.std.specs.Option.{ForSome}
use Rattle.chunk_buffers.specs.declared.span.ChunkSpan.{ChunkSpan}
use Rattle.rb_arena.specs.RbTree.{SplitsAt, AtItem}
use Rattle.piece_tree.specs.declared.piece.Piece.{Piece}
use Rattle.piece_tree.specs.declared.piece.PieceId.{PieceId}
use Rattle.piece_tree.specs.declared.piece.PieceSum.{PieceSum}
use Rattle.piece_tree.specs.declared.cut.Cut.{Cut}
use Rattle.piece_tree.specs.declared.left.Left.{Left}
use Rattle.piece_tree.specs.Pieces.{Entry, pieces_of, unit_count, sum_of, listed, IsPieceOf, goes_on_from, followed_by, back, spliced}
use Rattle.piece_tree.specs.Runs.{most_pieces, entry_at, entries_of, entries_from, pieces_in, replaced, last_named}

-- If there is a span and it goes on from the pieces, the result is the last of them; else None.
abbrev pub IsJoint : List Entry → Option ChunkSpan → Option (PieceId × Piece) → Type 0
IsJoint earlier None told = told ≡ None
IsJoint earlier (Some span) None = goes_on_from (pieces_of earlier) span ≡ false
IsJoint earlier (Some span) (Some at) = (last_named earlier ≡ Some at) × (goes_on_from (pieces_of earlier) span ≡ true)

-- A splice keeps the pieces before the cut's piece, which ends at or after `start`. Then come the part of this piece that the cut keeps,
-- the span, and the pieces from the cut's piece on without the units up to the cut's end. The cut has the sum of the pieces before its
-- piece, and the part that it keeps ends at `start`.
pub record IsCut (b : List (List ℕ)) (start end : ℕ) (span : Option ChunkSpan) (entries : List Entry) (cut : Cut) : Type 0 where
  pub earlier : List Entry
  pub piece : Piece
  pub later : List Entry
  pub place : entries ≡ earlier ++ entry_at cut.id piece ∷ later
  pub counted : ForSome cut.left (IsPieceOf b)
  pub reach : start ≤ unit_count (pieces_of earlier) + piece.span.units
  pub before : cut.before ≡ sum_of (pieces_of earlier)
  pub begins : start ≡ unit_count (pieces_of earlier) + unit_count (listed cut.left)
  pub spliced : spliced b start end span (pieces_of entries)
      ≡ pieces_of earlier ++ followed_by b (listed cut.left) span ++ back b cut.end (piece ∷ pieces_of later)

-- the cut right after a piece, where `deleted` units go: all of the piece stays, and `sum` is the sum of the pieces up to and including it
abbrev pub cut_behind : PieceId → Piece → PieceSum → ℕ → Cut
cut_behind id piece sum deleted = record {
  id = id;
  left = Some piece;
  end = piece.span.units + deleted;
  before = record { units = sum.units - piece.span.units; breaks = sum.breaks - piece.breaks };
}

-- `left` is what is left of the pieces from index `from` on without their first `units` units, and the number of units to remove beyond
-- those of the pieces. The rest of a piece that is cut takes its place.
pub record IsLeft (b : List (List ℕ)) (pieces : List Piece) (from units : ℕ) (left : Left) : Type 0 where
  pub ordered : from ≤ left.from
  pub within : left.from ≤ length pieces
  pub cut : ForSome left.rest (λ p. from < left.from)
  pub pieces_left : listed left.rest ++ drop left.from pieces ≡ back b units (drop from pieces)
  pub missing : left.missing ≡ units - unit_count (drop from pieces)

-- the number of pieces that are left of `count`
abbrev pub count_left : Left → ℕ → ℕ
count_left left count = length (listed left.rest) + (count - left.from)

-- the place is in the run of that name or at its end; the pieces of the run and of the runs behind it are pieces of the buffers
pub record CanTake (b : List (List ℕ)) (runs : List (ℕ × List Piece)) (id : PieceId) : Type 0 where
  pub earlier : List (ℕ × List Piece)
  pub pieces : List Piece
  pub later : List (ℕ × List Piece)
  pub place : SplitsAt runs id.run earlier pieces later
  pub within : id.place ≤ length pieces
  pub own : All (IsPieceOf b) pieces
  pub behind : All (IsPieceOf b) (pieces_in later)

-- the run keeps its position; the rest of its pieces from the place on and the pieces behind it are the old ones without the first `units`
-- units
pub record Takes (b : List (List ℕ)) (id : PieceId) (units : ℕ) (us : List (ℕ × List Piece)) (x : List Piece)
    (vs new : List (ℕ × List Piece)) (left : Left) : Type 0 where
  pub later : List (ℕ × List Piece)
  pub place : SplitsAt new id.run us x later
  pub ordered : id.place ≤ left.from
  pub within : left.from ≤ length x
  pub pieces_left : listed left.rest ++ drop left.from x ++ pieces_in later ≡ back b units (drop id.place x ++ pieces_in vs)

abbrev pub HasTaken : List (List ℕ) → List (ℕ × List Piece) → List (ℕ × List Piece) → PieceId → ℕ → Left → Type 0
HasTaken b old new id units left = AtItem old id.run (λ us x vs. Takes b id units us x vs new left)

-- the pieces behind the run of that name are pieces of the buffers
abbrev pub HasPiecesBehind : List (List ℕ) → List (ℕ × List Piece) → ℕ → Type 0
HasPiecesBehind b runs id =
    (us : List (ℕ × List Piece))
    × ((x : List Piece) × ((vs : List (ℕ × List Piece)) × SplitsAt runs id us x vs × All (IsPieceOf b) (pieces_in vs)))

-- the run x keeps its position, and the pieces behind it are the old ones without their first n units
pub record LosesBehind (b : List (List ℕ)) (n id : ℕ) (us : List (ℕ × List Piece)) (x : List Piece)
    (vs new : List (ℕ × List Piece)) : Type 0 where
  pub later : List (ℕ × List Piece)
  pub place : SplitsAt new id us x later
  pub pieces_left : pieces_in later ≡ back b n (pieces_in vs)

-- at least one piece is left of the run of that name, and what is left has at most the units of the run
pub record CanKeep (runs : List (ℕ × List Piece)) (id : ℕ) (left : Left) : Type 0 where
  pub earlier : List (ℕ × List Piece)
  pub pieces : List Piece
  pub later : List (ℕ × List Piece)
  pub place : SplitsAt runs id earlier pieces later
  pub within : left.from ≤ length pieces
  pub cut : ForSome left.rest (λ p. 0 < left.from)
  pub few : length pieces ≤ most_pieces
  pub some : 0 < length (listed left.rest ++ drop left.from pieces)
  pub fewer : unit_count (listed left.rest ++ drop left.from pieces) ≤ unit_count pieces

-- in the new runs the pieces of that run are replaced by what is left of them
abbrev pub HasKept : List (ℕ × List Piece) → List (ℕ × List Piece) → ℕ → Left → Type 0
HasKept old new id left = AtItem old id (λ us x vs. new ≡ us ++ (id, listed left.rest ++ drop left.from x) ∷ vs)

-- the rests on both sides and a span between them, which extends the left one if it goes on from it
abbrev pub joined : List (List ℕ) → Option Piece → Option ChunkSpan → Option Piece → List Piece
joined b left span right = followed_by b (listed left) span ++ listed right

-- the pieces of that run from the place of `id` to `to` can be replaced by these: the text then has less than 2 ^ 62 units
pub record CanPut (runs : List (ℕ × List Piece)) (id : PieceId) (to : ℕ) (with : List Piece) : Type 0 where
  pub earlier : List (ℕ × List Piece)
  pub pieces : List Piece
  pub later : List (ℕ × List Piece)
  pub place : SplitsAt runs id.run earlier pieces later
  pub ordered : id.place ≤ to
  pub within : to ≤ length pieces
  pub small : unit_count (pieces_in earlier) + unit_count (replaced id.place to with pieces) + unit_count (pieces_in later) < 2 ^ 62

-- `told` is the first of these pieces with its name, and its entry is right behind the entries `earlier`. Without pieces it is None.
abbrev pub HeadsRest : List Entry → List Piece → Option (PieceId × Piece) → List Entry → Type 0
HeadsRest earlier [] told new = told ≡ None
HeadsRest earlier (p ∷ ps) told new = (id : PieceId) × ((ws : List Entry) × (told ≡ Some (id, p)) × (new ≡ earlier ++ entry_at id p ∷ ws))

-- the entries before a place of a run
abbrev pub entries_before : PieceId → List (ℕ × List Piece) → List Piece → List Entry
entries_before id us x = entries_of us ++ entries_from id.run 0 (take id.place x)

-- these pieces replace those of the run from `id.place` to `to`, the entries before them stay, and `told` is the first of them
pub record Puts (id : PieceId) (to : ℕ) (with : List Piece) (us : List (ℕ × List Piece)) (x : List Piece) (vs new : List (ℕ × List Piece))
    (told : Option (PieceId × Piece)) : Type 0 where
  pub pieces : pieces_in new ≡ pieces_in us ++ replaced id.place to with x ++ pieces_in vs
  pub behind : List Entry
  pub front : entries_of new ≡ entries_before id us x ++ behind
  pub first : HeadsRest (entries_before id us x) with told (entries_of new)

abbrev pub HasPut : List (ℕ × List Piece) → List (ℕ × List Piece) → PieceId → ℕ → List Piece → Option (PieceId × Piece) → Type 0
HasPut old new id to with told = AtItem old id.run (λ us x vs. Puts id to with us x vs new told)

-- the run has got the pieces `more` from right behind it, possibly none
pub record Joins (id : ℕ) (us : List (ℕ × List Piece)) (x : List Piece) (vs new : List (ℕ × List Piece)) : Type 0 where
  pub more : List Piece
  pub later : List (ℕ × List Piece)
  pub place : SplitsAt new id us (x ++ more) later
  pub same : pieces_in vs ≡ more ++ pieces_in later

abbrev pub HasJoined : List (ℕ × List Piece) → List (ℕ × List Piece) → ℕ → Type 0
HasJoined old new id = AtItem old id (λ us x vs. Joins id us x vs new)

-- the first of these pieces under the name `id`; None if there are none
abbrev pub first_put : PieceId → List Piece → Option (PieceId × Piece)
first_put id [] = None
first_put id (p ∷ ps) = Some (id, p)

-- a piece that ends before the offset stays, with its name and with the same entries before it
abbrev pub KeepsBefore : ℕ → List Entry → List Entry → Type 0
KeepsBefore offset old new =
    (earlier later : List Entry) (e : Entry) → old ≡ earlier ++ e ∷ later → unit_count (pieces_of earlier) + e.piece.span.units < offset
    → (ws : List Entry) × (new ≡ earlier ++ e ∷ ws)
