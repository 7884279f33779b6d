-- A text as scanned lines, and the rest of it.
use Rattle.std.specs.Prelude.{◌≡◌, ℕ, ◌+◌, ◌-◌, List, [], ◌∷◌, length, ⊤}
use Rattle.bracket_rules.specs.declared.Token.{Token}
use Rattle.bracket_rules.specs.Rows.{Row, row}
use Rattle.bracket_rules.specs.TextRows.{empty_row}
use Rattle.bracket_rules.specs.Table.{Table, token, tokens_of, AreInLine}
use Rattle.bracket_nodes.specs.declared.scanned.ScannedLine.{ScannedLine}
use Rattle.bracket_nodes.specs.Source.{Ahead, asks_nothing}

abbrev pub AreLines : List ScannedLine → Type 0
AreLines [] = ⊤
AreLines (l ∷ lines) = AreInLine 0 l.columns l.tokens.items × AreLines lines

-- the lines are the scans, by this table, of lines with these contents
abbrev pub AreScans : Table → List (List ℕ) → List ScannedLine → Type 0
AreScans table [] [] = ⊤
AreScans table (x ∷ xs) (l ∷ lines) =
    (l.tokens.items ≡ tokens_of table x) × (l.columns ≡ length x) × AreScans table xs lines
AreScans table _ _ = ⊥

-- ---- what is left, from a column of the first line on, where these tokens of it are left

abbrev pub moved_back : ℕ → List Token → List Token
moved_back column [] = []
moved_back column (t ∷ ts) = token (t.at - column) t.len t.kind t.opening ∷ moved_back column ts

-- the rows from `column` on of a line of `columns` columns with these tokens left, followed by `rows`
abbrev pub rows_before : ℕ → List Token → ℕ → List Row → List Row
rows_before column tokens columns [] = row (moved_back column tokens) (columns - column) ∷ []
rows_before column tokens columns (r ∷ rows) = row (moved_back column tokens) 0 ∷ r ∷ rows

abbrev pub rows_of : List ScannedLine → List Row
rows_of [] = []
rows_of (l ∷ lines) = rows_before 0 l.tokens.items l.columns (rows_of lines)

-- the weight of `columns` columns of a line, with one for the break if more lines follow
abbrev pub with_break : ℕ → List ScannedLine → ℕ
with_break columns [] = columns
with_break columns (l ∷ lines) = columns + 1

-- the rows of a text of these lines; without lines the text is empty
abbrev pub scanned_rows : List ScannedLine → List Row
scanned_rows [] = empty_row ∷ []
scanned_rows (l ∷ lines) = rows_of (l ∷ lines)

-- the weight of each line
abbrev pub scanned_weights : List ScannedLine → List ℕ
scanned_weights [] = []
scanned_weights (l ∷ lines) = with_break l.columns lines ∷ scanned_weights lines

abbrev pub ahead_of : ℕ → List Token → ℕ → List ScannedLine → Ahead
ahead_of column tokens columns lines = record {
  rows = rows_before column tokens columns (rows_of lines);
  line = with_break (columns - column) lines;
  later = scanned_weights lines;
  asking = asks_nothing;
}
