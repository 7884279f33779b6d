-- A walk over the pieces of a text: the pieces that are left, and the remaining cost.
use Rattle.std.specs.Prelude.{◌≡◌, ℕ, ◌<◌, ◌≤◌, List, [], ◌∷◌, ◌++◌, length, drop, Option, Some, None}
use Rattle.std.specs.List.{All}
use Rattle.piece_tree.specs.declared.piece.Piece.{Piece}
use Rattle.piece_tree.specs.declared.piece.PieceId.{PieceId}
use Rattle.piece_tree.specs.Pieces.{Entry}
use Rattle.piece_tree.specs.Runs.{most_pieces, entries_of, entries_from, entries_past}

pub record Walked : Type 0 where
  -- the pieces that are left, each with its name
  pub left : List Entry
  -- the rest of the walk takes at most this many steps more than three for each piece that is left
  pub due : ℕ

-- `left` is the entries from the named one on; none for None
abbrev pub LeftFrom : List Entry → Option PieceId → List Entry → Type 0
LeftFrom entries None left = left ≡ []
LeftFrom entries (Some id) left =
    (earlier later : List Entry) (piece : Piece) → entries ≡ earlier ++ record { id = id; piece = piece } ∷ later
    → left ≡ record { id = id; piece = piece } ∷ later

-- the pieces that are left of a walk: those of its run, or without one of the next run, from a place on, and those of the runs behind
abbrev pub left_of : Option ℕ → List Piece → ℕ → List (ℕ × List Piece) → List Entry
left_of None pieces place behind = entries_past place behind
left_of (Some run) pieces place behind = entries_from run place (drop place pieces) ++ entries_of behind

-- the run and the place of a name; None and 0 for None
abbrev pub place_of : Option PieceId → Option ℕ × ℕ
place_of None = (None, 0)
place_of (Some id) = (Some id.run, id.place)

-- the place is in the run, which has at most `most_pieces` pieces, or without a run in the next one, if there is one
abbrev pub IsPlaceIn : Option ℕ → List Piece → ℕ → List (ℕ × List Piece) → Type 0
IsPlaceIn None pieces place [] = Unit {0}
IsPlaceIn None pieces place (r ∷ rs) = place < length r.1
IsPlaceIn (Some run) pieces place behind = (place < length pieces) × (length pieces ≤ most_pieces)

-- a walk is at a valid place, and no run behind it is empty
pub record WalksIn (run : Option ℕ) (pieces : List Piece) (place : ℕ) (behind : List (ℕ × List Piece)) : Type 0 where
  pub here : IsPlaceIn run pieces place behind
  pub full : All (λ r. 0 < length r.1) behind
