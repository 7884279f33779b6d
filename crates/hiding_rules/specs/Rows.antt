-- The rows of a text and its brackets, without those hidden by comments and strings.
use Rattle.std.specs.Prelude.{ℕ, List, [], ◌∷◌, length}
use Rattle.text_lengths.specs.Length.{no_length}
use Rattle.bracket_rules.specs.Parse.{Bracket}
use Rattle.bracket_rules.specs.Rows.{Row, row, placed}
use Rattle.hiding_rules.specs.declared.LineState.{LineState}
use Rattle.hiding_rules.specs.Hidden.{Scanner, hidden_scan}
use Rattle.hiding_rules.specs.States.{line_states}

-- the row of a line that begins in this state; its columns are the length of the line
abbrev pub line_by : Scanner → LineState → List ℕ → Row
line_by by state line = row (hidden_scan by state line).tokens (length line)

-- the rows of lines that begin in these states
abbrev pub lines_by : Scanner → List LineState → List (List ℕ) → List Row
lines_by by [] lines = []
lines_by by (s ∷ states) [] = []
lines_by by (s ∷ states) (x ∷ lines) = line_by by s x ∷ lines_by by states lines

-- single rows combined to the rows of a text: a line with a break counts 0 columns
abbrev pub broken : List Row → List Row
broken [] = []
broken (r ∷ []) = r ∷ []
broken (r ∷ s ∷ rows) = row r.brackets 0 ∷ broken (s ∷ rows)

-- the rows of a text from the contents of its lines
abbrev pub hidden_rows : Scanner → List (List ℕ) → List Row
hidden_rows by lines = broken (lines_by by (line_states by lines) lines)

-- the brackets of a text, in text order
abbrev pub hidden_brackets : Scanner → List (List ℕ) → List Bracket
hidden_brackets by lines = placed no_length (hidden_rows by lines)
