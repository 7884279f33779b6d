-- The growth of a text by ops.
use Rattle.std.specs.Prelude.{ℕ, ◌+◌, ◌*◌, ◌≤◌, length}
use Rattle.chunk_buffers.specs.Chunks.{Extends}
use Rattle.text_buffer.specs.Text.{Text}

-- each edit adds at most two pieces
abbrev pub GrownBy : ℕ → ℕ → ℕ → Type 0
GrownBy edits old new = new ≤ old + 2 * edits

-- each edit adds at most two pieces, and buffers are only appended to
pub record HasGrown (edits : ℕ) (old new : Text) : Type 0 where
  pub pieces : GrownBy edits (length old.spans) (length new.spans)
  pub buffers : Extends old.buffers new.buffers
