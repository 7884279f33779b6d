-- What is ahead of a reader of the current text, and what it knows of the line that it reads.
use Rattle.std.specs.Prelude.{◌≡◌, ℕ, suc, ◌+◌, ◌-◌, List, [], ◌∷◌, drop, slice_index}
use Rattle.text_lengths.specs.declared.Length.{Length}
use Rattle.bracket_rules.specs.declared.Token.{Token}
use Rattle.bracket_rules.specs.Rows.{Row}
use Rattle.bracket_rules.specs.Table.{AreInLine}
use Rattle.bracket_tree_rules.specs.Places.{rows_from}
use Rattle.bracket_nodes.specs.ScannedLines.{rows_before}
use Rattle.bracket_nodes.specs.Source.{Ahead, asks_nothing}
use Rattle.reuse_rules.specs.Following.{Reached}
use Rattle.node_reuse.specs.Texts.{brackets_end}

-- the rows from place p on, the weight left of its line, and the bounds for each line after it, with no line still to
-- be asked for
abbrev pub ahead_at : List Row → List ℕ → Length → ℕ → Ahead
ahead_at now weights p left = record {
  rows = rows_from p now;
  line = left;
  later = drop (suc p.lines) weights;
  asking = asks_nothing;
}

-- the weight left of a line that was not entered, or whose content is read: its bound, less the columns already read
abbrev pub fresh_left : List ℕ → Length → ℕ
fresh_left weights p = slice_index weights p.lines - p.columns

-- ---- a line whose content was scanned

-- The weight of a line of `columns` columns where the reader has reached `column`, with these tokens left and
-- followed by `rows`: its columns if it is the last line, else up to the end of its brackets and one for the break.
abbrev pub weight_before : ℕ → List Token → ℕ → List Row → ℕ
weight_before column tokens columns [] = columns
weight_before column tokens columns (r ∷ rows) = brackets_end column tokens + 1

-- the reader is at place p of a line of `columns` columns, with these tokens of the line left
pub record IsFresh (now : List Row) (weights : List ℕ) (p : Length) (tokens : List Token) (columns : ℕ) : Type 0 where
  pub reached : Reached now p (rows_before p.columns tokens columns (drop (suc p.lines) now))
  pub line : AreInLine p.columns columns tokens
  pub weight : slice_index weights p.lines ≡ weight_before p.columns tokens columns (drop (suc p.lines) now)
