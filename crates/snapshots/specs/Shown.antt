-- What contracts see of a shelf, and its flat shelf.
use Rattle.std.specs.Prelude.{ℕ, List, [], map, Result}
use Rattle.std.specs.List.{All}
use Rattle.chunk_buffers.specs.Chunks.{LiesIn}
use Rattle.chunk_buffers.specs.declared.span.ChunkSpan.{ChunkSpan}
use Rattle.snapshot_rules.specs.declared.ShelfError.{ShelfError}
use Rattle.snapshot_rules.specs.Snapshots.{FlatShelf, IsSound, flat_take, Takes}
use Rattle.snapshots.specs.Spans.{Spelled, snapshot_of, spelled}

pub record Shown : Type 0 where
  -- the open snapshots in the order in which they were taken
  pub snapshots : List Spelled
  pub next_id : ℕ

-- the flat shelf: each snapshot has the units of its spans in these buffers
abbrev pub shown : List (List ℕ) → Shown → FlatShelf
shown buffers shelf = record { snapshots = map (snapshot_of buffers) shelf.snapshots; next_id = shelf.next_id }

-- Ids rise and are not reused. The buffers do not matter here, since no units are concerned.
abbrev pub IsOrdered : Shown → Type 0
IsOrdered shelf = IsSound (shown [] shelf)

-- the spans of the snapshot lie in these buffers
abbrev pub Lies : List (List ℕ) → Spelled → Type 0
Lies buffers s = All (LiesIn buffers) s.spans

-- the spans of each open snapshot lie in these buffers
abbrev pub LieIn : List (List ℕ) → Shown → Type 0
LieIn buffers shelf = All (Lies buffers) shelf.snapshots

-- for all buffers, the flat shelf takes the text of the spans in them
abbrev pub TakesText : Result ℕ ShelfError → Shown → Shown → List ChunkSpan → Type 0
TakesText result old new spans = (buffers : List (List ℕ))
    → Takes result (shown buffers old) (shown buffers new) (flat_take (shown buffers old) (spelled buffers spans))
