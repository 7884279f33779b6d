-- The two ends of an edit's span, and the lines that it touches.
use Rattle.std.specs.Prelude.{ℕ, ◌≡◌, ◌+◌, ◌-◌, ◌<◌, ◌≤◌, ◌^◌, ◌++◌, List, length, take, drop}
use Rattle.chunk_buffers.specs.Chunks.{Shown}
use Rattle.piece_tree.specs.Pieces.{Pieces, StandsAt}
use Rattle.text_lengths.specs.declared.Dirty.{Dirty}
use Rattle.text_lengths.specs.declared.Span.{Span}
use Rattle.text_rules.specs.Lines.{lines_of, line_feed, carriage_return, begins_with}
use Rattle.text_rules.specs.Breaks.{ends_with, joins_pair}
use Rattle.text_buffer.specs.declared.edit.Spot.{Spot}
use Rattle.text_buffer.specs.declared.edit.Ends.{Ends}
use Rattle.text_buffer.specs.declared.edit.Joins.{Joins}
use Rattle.text_buffer.specs.Text.{units_from, one_if}

-- the fields of the spot are true of the text
pub record IsSpot (tree : Pieces) (chunks : Shown) (spot : Spot) : Type 0 where
  pub found : StandsAt tree.entries spot.found spot.offset
  pub after_return : spot.after_return ≡ ends_with carriage_return (take spot.offset (units_from tree chunks))
  pub before_feed : spot.before_feed ≡ begins_with line_feed (drop spot.offset (units_from tree chunks))
  -- the numbers of units and breaks fit
  pub small : length (units_from tree chunks) < 2 ^ 62

pub record AreEnds (tree : Pieces) (chunks : Shown) (ends : Ends) : Type 0 where
  pub start : IsSpot tree chunks ends.start
  pub end : IsSpot tree chunks ends.end
  pub ordered : ends.start.offset ≤ ends.end.offset

abbrev pub span_between : Ends → Span
span_between ends = record { start = ends.start.offset; end = ends.end.offset }

-- where a CR and an LF meet after the span is replaced by the text
abbrev pub joins_of : List ℕ → Span → List ℕ → Joins
joins_of units span text = record {
  front = joins_pair (take span.start units) (text ++ drop span.end units);
  back = joins_pair (take span.start units ++ text) (drop span.end units);
}

-- the edit removes nothing and inserts some units
abbrev pub IsTyped : Span → List ℕ → Type 0
IsTyped span text = (span.start ≡ span.end) × (0 < length text)

-- the lines before the touched ones are the same in both texts
abbrev pub AreSameBefore : Dirty → List ℕ → List ℕ → Type 0
AreSameBefore dirty old new = take (dirty.first - 1) (lines_of new) ≡ take (dirty.first - 1) (lines_of old)

-- and so are the lines after them
abbrev pub AreSameBehind : Dirty → List ℕ → List ℕ → Type 0
AreSameBehind dirty old new =
    drop (dirty.first - 1 + dirty.new) (lines_of new) ≡ drop (dirty.first - 1 + dirty.old) (lines_of old)

-- the number of pairs that this forms with the units of the text
abbrev pub pairs_of : List ℕ → Span → List ℕ → ℕ
pairs_of units span text =
    one_if (joins_pair (take span.start units) (text ++ drop span.end units)) + one_if (joins_pair text (drop span.end units))
