-- The units beside its span that an edit appends again together with its text, so that no small piece remains.
use Rattle.std.specs.Prelude.{ℕ, ◌≡◌, ◌-◌, ◌<◌, ◌==◌, ◌&&◌, ◌||◌, Bool, nat_le, nat_lt, is_none, if◌then◌else◌, true, Option, Some, None, List, ◌∷◌, ◌++◌}
use Rattle.std.specs.List.{sum_by}
use Rattle.chunk_buffers.specs.declared.span.ChunkSpan.{ChunkSpan}
use Rattle.chunk_buffers.specs.Chunks.{units_at, part_of}
use Rattle.line_starts.specs.Starts.{break_count}
use Rattle.piece_tree.specs.declared.piece.Found.{Found}
use Rattle.text_buffer.specs.declared.beside.TheConstants.{MOST_BREAKS_ALONG}
use Rattle.text_buffer.specs.declared.edit.Spot.{Spot}
use Rattle.text_buffer.specs.declared.beside.Rests.{Rests}
use Rattle.text_lengths.specs.declared.Span.{Span}
use Rattle.text_buffer.specs.Text.{Text, most_along, unit_if}

-- the span is not empty, but has few units and few breaks
abbrev pub is_little : List (List ℕ) → ChunkSpan → Bool
is_little buffers span =
    nat_lt 0 span.units && (nat_le span.units most_along && nat_le (break_count (units_at buffers span)) MOST_BREAKS_ALONG)

abbrev pub if_little : List (List ℕ) → ChunkSpan → Option ChunkSpan
if_little buffers span = if is_little buffers span then Some span else None

-- the part of the piece before the offset, if that is short
abbrev pub rest_before : List (List ℕ) → Option Found → ℕ → Option ChunkSpan
rest_before buffers None offset = None
rest_before buffers (Some found) offset = if_little buffers (part_of found.span 0 (offset - found.before.units))

-- the part of the piece from the offset on, if that is short and the offset is inside the piece
abbrev pub rest_behind : List (List ℕ) → Option Found → ℕ → Option ChunkSpan
rest_behind buffers None offset = None
rest_behind buffers (Some found) offset =
    if offset == found.before.units then None
    else if_little buffers (part_of found.span (offset - found.before.units) found.span.units)

-- The rests of the cut pieces that an edit takes along. The rest after the span is one only if the edit removes units, so that typing goes
-- on from what was typed. An edit without text takes both rests along or none, since moving a single one would gain nothing.
abbrev pub rests_of : List (List ℕ) → Spot → Spot → ℕ → Rests
rests_of buffers start end text_units =
    let front = rest_before buffers start.found start.offset in
    let back = if start.offset == end.offset then None else rest_behind buffers end.found end.offset in
    if text_units == 0 && (is_none front || is_none back) then record { front = None; back = None }
    else record { front = front; back = back }

-- the units that are taken along on one side: those of the rest; without a rest the unit, if it forms a pair with its new neighbour
abbrev pub units_along : List (List ℕ) → Option ChunkSpan → Bool → ℕ → List ℕ
units_along buffers (Some rest) joins unit = units_at buffers rest
units_along buffers None joins unit = unit_if joins unit

-- the span is inside one of the text's spans, and the parts of that before and after it are short
pub record LeavesLittle (text : Text) (span : Span) : Type 0 where
  pub earlier : List ChunkSpan
  pub own : ChunkSpan
  pub later : List ChunkSpan
  pub among : text.spans ≡ earlier ++ own ∷ later
  pub some : span.start < span.end
  pub front : is_little text.buffers (part_of own 0 (span.start - sum_by (λ s. s.units) earlier)) ≡ true
  pub back : is_little text.buffers (part_of own (span.end - sum_by (λ s. s.units) earlier) own.units) ≡ true
