-- An edit whose text has no known place in the buffers.
use Rattle.std.specs.Prelude.{ℕ, ◌≡◌, ◌+◌, ◌<◌, ◌≤◌, false, length, List, Option, IfSome}
use Rattle.chunk_buffers.specs.declared.span.ChunkSpan.{ChunkSpan}
use Rattle.chunk_buffers.specs.Chunks.{Shown, EndsLast}
use Rattle.text_lengths.specs.declared.Span.{Span}
use Rattle.text_buffer.specs.Room.{most_part, units_beside_text}
use Rattle.text_buffer.specs.Text.{Text, GrowsAt}
use Rattle.text_buffer.specs.Edits.{joins_of, IsTyped}

-- the text is one part, and fits in the last buffer with what the edit takes along
pub record FitsHere (old : Text) (text : List ℕ) : Type 0 where
  pub short : length text ≤ most_part
  pub here : length text + units_beside_text ≤ old.here

-- if the edit is right after what was appended last, and forms no CR LF at its start, the number of pieces does not grow
abbrev pub TypesOn : Text → Text → Span → List ℕ → Type 0
TypesOn old new span text =
    FitsHere old text → GrowsAt old span.start → (joins_of old.units span text).front ≡ false
    → length new.spans ≤ length old.spans

-- if the edit only inserts, and forms no CR LF at its end, typing can go on after it
abbrev pub CanTypeOn : Text → Text → Span → List ℕ → Type 0
CanTypeOn old new span text =
    FitsHere old text → IsTyped span text → (joins_of old.units span text).back ≡ false
    → GrowsAt new (span.start + length text)

-- the units were appended as this span, if there is one, to the last buffer, if they fit there
abbrev pub AreLast : Shown → Shown → Option ChunkSpan → List ℕ → Type 0
AreLast old new span units =
    length units < old.here → IfSome span (λ s. EndsLast old.buffers new.buffers s units)
