-- Texts in buffers that are only appended to.
use Rattle.std.specs.Prelude.{ℕ, ◌≡◌, ◌+◌, ◌-◌, ◌<◌, ◌≤◌, ◌^◌, List, [], length, take, drop, map, min, sum_by, slice_index_or}
use Rattle.std.specs.List.{All}
use Rattle.chunk_buffers.specs.declared.span.ChunkSpan.{ChunkSpan}
use Rattle.chunk_buffers.specs.Buffer.{Filled, most_units, padded}

-- what contracts see of chunks
pub record Shown : Type 0 where
  -- the units of each buffer
  pub buffers : List (List ℕ)
  -- the number of units that fit in the last buffer; each text needs one more than its length
  pub here : ℕ
  -- the number of units that fit without an allocation, in the last buffer and those after it
  pub spare : ℕ
  -- the most breaks of these units
  pub spare_breaks : ℕ

-- the most buffers: the index of each fits in 32 bits
abbrev pub most_buffers : ℕ
most_buffers = 2 ^ 32 - 1

-- the most units of one append, with the unit that may keep it apart from the text before
abbrev pub most_appended : ℕ
most_appended = 2 ^ 31

abbrev pub buffer_at : List (List ℕ) → ℕ → List ℕ
buffer_at buffers number = slice_index_or buffers number []

-- the units of the span
abbrev pub units_at : List (List ℕ) → ChunkSpan → List ℕ
units_at buffers span = take span.units (drop span.start (buffer_at buffers span.buffer))

-- the span lies in these buffers, of which there are fewer than 2^32
pub record LiesIn (buffers : List (List ℕ)) (span : ChunkSpan) : Type 0 where
  pub buffer : span.buffer < length buffers
  pub few : span.buffer < most_buffers
  pub end : span.start + span.units ≤ length (buffer_at buffers span.buffer)
  pub fits : span.start + span.units ≤ most_units

-- each old buffer is a prefix of the new one with the same index, so that the units of a span never change
pub record Extends (old new : List (List ℕ)) : Type 0 where
  pub count : length old ≤ length new
  pub fronts : (number : ℕ) → number < length old → take (length (buffer_at old number)) (buffer_at new number) ≡ buffer_at old number

-- the text was appended to the last buffer, which now ends where the span of the text does
pub record EndsLast (old new : List (List ℕ)) (span : ChunkSpan) (text : List ℕ) : Type 0 where
  pub count : length new ≡ length old
  pub last : span.buffer + 1 ≡ length old
  pub start : span.start ≡ length (padded (buffer_at old span.buffer) text)
  pub end : span.start + span.units ≡ length (buffer_at new span.buffer)

-- so it is if the text fits in the last buffer, which has room for `here` units
abbrev pub EndsLastIfHere : ℕ → List (List ℕ) → List (List ℕ) → ChunkSpan → List ℕ → Type 0
EndsLastIfHere here old new span text = length text < here → EndsLast old new span text

abbrev pub unit_count : List (List ℕ) → ℕ
unit_count buffers = sum_by length buffers

-- the number, but at most 2^64 - 1
abbrev pub at_most_64_bits : ℕ → ℕ
at_most_64_bits n = min n (2 ^ 64 - 1)

-- the part of a span from offset `from` to offset `to` in it
abbrev pub part_of : ChunkSpan → ℕ → ℕ → ChunkSpan
part_of span from to = record { buffer = span.buffer; start = span.start + from; units = to - from }

-- the buffer that texts are appended to
abbrev pub last_buffer : List Filled → Filled
last_buffer buffers = slice_index_or buffers (length buffers - 1) (record { units = []; room = 0; break_room = 0 })

-- an empty buffer with room for as many units as a buffer may have, and for `few` breaks. A text that does not fit in the buffer before
-- leaves fewer than `most_appended` units of that one unused, so that each such buffer adds `most_appended` units of room
pub record IsReady (few : ℕ) (buffer : Filled) : Type 0 where
  pub empty : buffer.units ≡ []
  pub room : most_units ≤ buffer.room
  pub breaks : few ≤ buffer.break_room

-- There are at most `most_buffers` buffers, the ready ones among them; the list of buffers has room for `more`. `units` is
-- the number of units, at most 2^64 - 1. The last buffer and the ready ones have room for `spare_breaks` breaks each.
pub record AreChunks (buffers ready : List Filled) (units spare_breaks more : ℕ) : Type 0 where
  pub breaks : spare_breaks ≤ (last_buffer buffers).break_room
  pub full : All (IsReady spare_breaks) ready
  pub few : length buffers + length ready ≤ most_buffers
  pub place : length ready ≤ more
  pub total : units ≡ at_most_64_bits (unit_count (map (λ b. b.units) buffers))
