-- A snapshot as the spans of the units that were not read yet.
use Rattle.std.specs.Prelude.{ℕ, ◌≡◌, ◌≢◌, ◌+◌, ◌-◌, ◌<◌, ◌^◌, ◌==◌, Bool, nat_lt, if◌then◌else◌, List, [], ◌∷◌, length, Option, Some, None}
use Rattle.std.specs.List.{flat_map, All, HoldsAt}
use Rattle.chunk_buffers.specs.declared.span.ChunkSpan.{ChunkSpan}
use Rattle.chunk_buffers.specs.Chunks.{units_at, part_of}
use Rattle.snapshot_rules.specs.Snapshots.{Snapshot}

-- what contracts see of a snapshot
pub record Spelled : Type 0 where
  pub id : ℕ
  pub spans : List ChunkSpan

-- the units of the spans, one after another
abbrev pub spelled : List (List ℕ) → List ChunkSpan → List ℕ
spelled buffers spans = flat_map (units_at buffers) spans

abbrev pub snapshot_of : List (List ℕ) → Spelled → Snapshot
snapshot_of buffers s = record { id = s.id; rest = spelled buffers s.spans }

-- the end of the span fits in 32 bits, as for each span that lies in buffers
pub record IsSmall (span : ChunkSpan) : Type 0 where
  pub end : span.start + span.units < 2 ^ 32

-- the spans without their first n units
abbrev pub without : ℕ → List ChunkSpan → List ChunkSpan
without n [] = []
without n (span ∷ spans) =
    if nat_lt n span.units then part_of span n span.units ∷ spans else without (n - span.units) spans

-- the snapshot has this id
abbrev pub spells : ℕ → Spelled → Bool
spells id s = s.id == id

-- the index of the snapshot of this id, if there is one
abbrev pub IsPlaceOf : ℕ → List Spelled → Option ℕ → Type 0
IsPlaceOf id xs None = All (λ s. s.id ≢ id) xs
IsPlaceOf id xs (Some i) = (i < length xs) × HoldsAt (λ s. s.id ≡ id) xs i
