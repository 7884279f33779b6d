-- The lines of a text that an edit touches, and the number of lines that replace them.
use Rattle.std.specs.Prelude.{ℕ, ◌+◌, ◌-◌, ◌==◌, Bool, false, ◌&&◌, nat_lt, if◌then◌else◌, List, length, slice_index}
use Rattle.text_lengths.specs.declared.Span.{Span}
use Rattle.text_lengths.specs.declared.Dirty.{Dirty}
use Rattle.text_rules.specs.Lines.{lines_of, carriage_return}
use Rattle.text_rules.specs.Positions.{position_of}
use Rattle.text_rules.specs.Edits.{edited}

-- a CR is right before the offset
abbrev pub is_after_return : List ℕ → ℕ → Bool
is_after_return x place = nat_lt 0 place && slice_index x (place - 1) == carriage_return

-- The first offset that an edit at `place` touches. A CR right before the edit is touched, since it forms one break
-- with an LF inserted after it.
abbrev pub touched_from : List ℕ → ℕ → ℕ
touched_from x place = if is_after_return x place then place - 1 else place

-- the text after the units `text` replace the span
abbrev pub replaced : List ℕ → Span → List ℕ → List ℕ
replaced x span text = edited x (record { span = span; text = text; force = false })

-- the line of the edit's start, or of a CR right before it
abbrev pub first_dirty : List ℕ → Span → ℕ
first_dirty x span = (position_of x (touched_from x span.start)).line

-- the number of lines from that line to the line of the span's end
abbrev pub old_dirty : List ℕ → Span → ℕ
old_dirty x span = (position_of x span.end).line + 1 - first_dirty x span

-- the number of lines of the new text that replace the touched lines
abbrev pub new_dirty : List ℕ → Span → List ℕ → ℕ
new_dirty x span text = length (lines_of (replaced x span text)) - (length (lines_of x) - old_dirty x span)

abbrev pub dirty_lines : List ℕ → Span → List ℕ → Dirty
dirty_lines x span text = record { first = first_dirty x span; old = old_dirty x span; new = new_dirty x span text }
