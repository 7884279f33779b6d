-- How runs are stored: the tree keeps the arena node of the pieces of each, and their sum.
use Rattle.std.specs.Prelude.{ℕ, ◌≡◌, ◌<◌, ◌≤◌, ◌^◌, ◌==◌, Some, None, List, [], length, map, min, count_by}
use Rattle.std.specs.List.{All}
use Rattle.raw_arena.specs.Arena.{Nodes, node}
use Rattle.rb_arena.specs.RbTree.{Listed}
use Rattle.rb_arena.specs.Walking.{Walked}
use Rattle.piece_tree.specs.declared.piece.Piece.{Piece}
use Rattle.piece_tree.specs.declared.run.Run.{Run}
use Rattle.piece_tree.specs.declared.weave.StoredRun.{StoredRun}
use Rattle.piece_tree.specs.Pieces.{unit_count, sum_of}
use Rattle.piece_tree.specs.Searches.{few_breaks}
use Rattle.piece_tree.specs.Runs.{Runs, WalkedRuns, IsRun, listed_in, pieces_in}

-- the pieces at an arena node; none if it is free
abbrev pub pieces_at : Nodes Run → ℕ → List Piece
pieces_at stored at = elim (node stored at) [ None ↦ [] | Some run ↦ listed_in run ]

abbrev pub stored_in : Nodes Run → List (ℕ × StoredRun) → List (ℕ × List Piece)
stored_in stored items = map (λ e. (e.0, pieces_at stored e.1.at)) items

-- the room is the smaller of those of the tree and of the arena
abbrev pub runs_of : Listed StoredRun → Nodes Run → Runs
runs_of tree stored = record { runs = stored_in stored tree.items; spare = min tree.spare stored.spare }

abbrev pub walked_of : Walked StoredRun → Nodes Run → WalkedRuns
walked_of walk stored = record { left = stored_in stored walk.left; due = walk.due }

-- the number of runs stored at this arena node
abbrev pub times_at : ℕ → List (ℕ × StoredRun) → ℕ
times_at at items = count_by (λ e. at == e.1.at) items

-- no two runs are stored at one arena node
abbrev pub LieApart : List (ℕ × StoredRun) → Type 0
LieApart items = (at : ℕ) → times_at at items ≤ 1

-- the pieces of a run are at its arena node, from 1 to `most_pieces`, and the tree has their sum
pub record IsStored (stored : Nodes Run) (item : ℕ × StoredRun) : Type 0 where
  pub run : Run
  pub there : node stored item.1.at ≡ Some run
  pub few : IsRun run
  pub sum : item.1.sum ≡ sum_of (listed_in run)
  pub some : 0 < length (listed_in run)
  pub counted : All few_breaks (listed_in run)

-- each run is stored at its own arena node, and the text has less than 2 ^ 62 units
pub record AreStored (tree : Listed StoredRun) (stored : Nodes Run) : Type 0 where
  pub each : All (IsStored stored) tree.items
  pub apart : LieApart tree.items
  pub small : unit_count (pieces_in (stored_in stored tree.items)) < 2 ^ 62

-- each run that is left of a walk is stored
abbrev pub WalksStored : Walked StoredRun → Nodes Run → Type 0
WalksStored walk stored = All (IsStored stored) walk.left
