-- The list of pieces, divided into runs.
use Rattle.std.specs.Prelude.{ℕ, suc, ◌≡◌, ◌+◌, ◌-◌, ◌<◌, ◌≤◌, ◌^◌, Option, Some, None, List, [], ◌∷◌, ◌++◌, length, take, drop, flat_map}
use Rattle.std.specs.List.{All}
use Rattle.rb_arena.specs.RbTree.{SplitsAt, AtItem}
use Rattle.piece_tree.specs.declared.piece.Piece.{Piece}
use Rattle.piece_tree.specs.declared.piece.PieceId.{PieceId}
use Rattle.piece_tree.specs.declared.piece.PieceSum.{PieceSum}
use Rattle.piece_tree.specs.declared.piece.Found.{Found}
use Rattle.piece_tree.specs.declared.run.Run.{Run}
use Rattle.piece_tree.specs.declared.run.TheConstants.{MOST_PIECES}
use Rattle.piece_tree.specs.declared.weave.Sought.{Sought}
use Rattle.piece_tree.specs.Pieces.{Entry, unit_count, break_count_of, sum_of}
use Rattle.piece_tree.specs.Searches.{few_breaks, count_of, number_of, counted, HasNumber}

-- the most pieces of a run
abbrev pub most_pieces : ℕ
most_pieces = MOST_PIECES

-- the run has at most `most_pieces` pieces
abbrev pub IsRun : Run → Type 0
IsRun run = run.count ≤ most_pieces

-- the pieces of a run
abbrev pub listed_in : Run → List Piece
listed_in run = take run.count run.pieces

-- what contracts see of a tree of runs
pub record Runs : Type 0 where
  -- the pieces of each run, under its name, in the order of the text
  pub runs : List (ℕ × List Piece)
  -- the number of further runs for which there is room
  pub spare : ℕ

-- what contracts see of a walk over the runs
pub record WalkedRuns : Type 0 where
  -- the runs that are left
  pub left : List (ℕ × List Piece)
  -- the rest of the walk takes at most this many steps more than three for each run that is left
  pub due : ℕ

-- the pieces of all runs
abbrev pub pieces_in : List (ℕ × List Piece) → List Piece
pieces_in runs = flat_map (λ r. r.1) runs

-- the name of the piece at a place of a run
abbrev pub name_of : ℕ → ℕ → PieceId
name_of run place = record { run = run; place = place }

abbrev pub entry_at : PieceId → Piece → Entry
entry_at id p = record { id = id; piece = p }

-- the pieces of a run from a place on, each under its name
abbrev pub entries_from : ℕ → ℕ → List Piece → List Entry
entries_from run place [] = []
entries_from run place (p ∷ ps) = entry_at (name_of run place) p ∷ entries_from run (suc place) ps

-- the pieces of all runs, each under its name
abbrev pub entries_of : List (ℕ × List Piece) → List Entry
entries_of [] = []
entries_of (r ∷ rs) = entries_from r.0 0 r.1 ++ entries_of rs

-- the entries of all runs without the first `place` of the first run
abbrev pub entries_past : ℕ → List (ℕ × List Piece) → List Entry
entries_past place [] = []
entries_past place (r ∷ rs) = entries_from r.0 place (drop place r.1) ++ entries_of rs

-- the first entry as a pair of name and piece
abbrev pub first_named : List Entry → Option (PieceId × Piece)
first_named [] = None
first_named (e ∷ entries) = Some (e.id, e.piece)

-- the last entry as a pair of name and piece
abbrev pub last_named : List Entry → Option (PieceId × Piece)
last_named [] = None
last_named (e ∷ []) = Some (e.id, e.piece)
last_named (e ∷ f ∷ entries) = last_named (f ∷ entries)

-- a piece as a look-up returns it, where `before` is the sum of the pieces before it
abbrev pub found_in : PieceId → Piece → PieceSum → Found
found_in id p before = record { id = id; span = p.span; breaks = p.breaks; before = before }

-- the run `at.0` contains the target, and `at.1` is the sum of the pieces before it
pub record HasRunOf (runs : List (ℕ × List Piece)) (sought : Sought) (at : ℕ × PieceSum) : Type 0 where
  pub earlier : List (ℕ × List Piece)
  pub pieces : List Piece
  pub later : List (ℕ × List Piece)
  pub place : SplitsAt runs at.0 earlier pieces later
  pub before : at.1 ≡ sum_of (pieces_in earlier)
  pub start : count_of sought (pieces_in earlier) ≤ number_of sought
  pub end : number_of sought < count_of sought (pieces_in earlier) + count_of sought pieces

-- one of the pieces contains the target, where `before` is the sum of the pieces before them, and all together are less than 2 ^ 62 units
-- and breaks
pub record CanFindIn (pieces : List Piece) (before : PieceSum) (sought : Sought) : Type 0 where
  pub units : before.units + unit_count pieces < 2 ^ 62
  pub breaks : before.breaks + break_count_of pieces < 2 ^ 62
  pub start : counted sought before ≤ number_of sought
  pub end : number_of sought < counted sought before + count_of sought pieces

-- that piece is `found`, with its name and the sum of the pieces before it
pub record IsFoundIn (run : ℕ) (pieces : List Piece) (before : PieceSum) (sought : Sought) (found : Found) : Type 0 where
  pub earlier : List Piece
  pub piece : Piece
  pub later : List Piece
  pub place : pieces ≡ earlier ++ piece ∷ later
  pub told : found ≡ found_in (name_of run (length earlier)) piece
      (record { units = before.units + unit_count earlier; breaks = before.breaks + break_count_of earlier })
  pub has : HasNumber sought found

-- the pieces with those from index `from` to `to` replaced by others
abbrev pub replaced : ℕ → ℕ → List Piece → List Piece → List Piece
replaced from to with pieces = take from pieces ++ with ++ drop to pieces

-- the pieces of that run from index `from` to `to` can be replaced by these: the run is then neither empty nor too long, and the text has
-- less than 2 ^ 62 units
pub record CanReplaceIn (runs : List (ℕ × List Piece)) (id from to : ℕ) (with : List Piece) : Type 0 where
  pub earlier : List (ℕ × List Piece)
  pub pieces : List Piece
  pub later : List (ℕ × List Piece)
  pub place : SplitsAt runs id earlier pieces later
  pub ordered : from ≤ to
  pub within : to ≤ length pieces
  pub some : 0 < from + length with + (length pieces - to)
  pub few : from + length with + (length pieces - to) ≤ most_pieces
  pub small : unit_count (pieces_in earlier) + unit_count (replaced from to with pieces) + unit_count (pieces_in later) < 2 ^ 62

-- the new runs are the old ones with those pieces of that run replaced
abbrev pub HasReplacedIn : List (ℕ × List Piece) → List (ℕ × List Piece) → ℕ → ℕ → ℕ → List Piece → Type 0
HasReplacedIn old new id from to with = AtItem old id (λ us x vs. new ≡ us ++ (id, replaced from to with x) ∷ vs)

-- the text is not too long, and the tree has room for one more run a splice
pub record IsTree (pieces : List Piece) (free spare : ℕ) : Type 0 where
  pub small : unit_count pieces < 2 ^ 62
  pub few : All few_breaks pieces
  pub room : spare ≤ free
