-- The rows of texts in sequence, and those of a text by a table.
use Rattle.std.specs.Prelude.{◌≡◌, ℕ, suc, ◌+◌, List, [], ◌∷◌, ◌++◌, length, ⊤, refl, true, false}
use Rattle.text_lengths.specs.declared.Length.{Length}
use Rattle.text_lengths.specs.Length.{length_of, no_length}
use Rattle.bracket_rules.specs.declared.Token.{Token}
use Rattle.bracket_rules.specs.Table.{Table, token, tokens_of, standard_table}
use Rattle.bracket_rules.specs.Parse.{Bracket, bracket}
use Rattle.bracket_rules.specs.Rows.{Row, row, placed}

-- there is at least one row: every text has a line
abbrev pub HasRow : List Row → Type 0
HasRow [] = ⊥
HasRow (r ∷ rows) = ⊤

-- the empty text has one line without brackets or columns
abbrev pub empty_row : Row
empty_row = row [] 0

-- ---- two texts in sequence

-- the brackets of a line, moved by `columns` columns to the right
abbrev pub shifted : ℕ → List Token → List Token
shifted columns [] = []
shifted columns (t ∷ ts) = token (columns + t.at) t.len t.kind t.opening ∷ shifted columns ts

-- the row of a line that begins with row r and goes on with row s; the list has the rows after s
abbrev pub joined_row : Row → Row → List Row → Row
joined_row r s [] = row (r.brackets ++ shifted r.columns s.brackets) (r.columns + s.columns)
joined_row r s (x ∷ xs) = row (r.brackets ++ shifted r.columns s.brackets) s.columns

-- the rows of two texts in sequence: the last line of the first goes on with the first line of the second
abbrev pub glue : List Row → List Row → List Row
glue [] b = b
glue (r ∷ []) [] = r ∷ []
glue (r ∷ []) (s ∷ b) = joined_row r s b ∷ b
glue (r ∷ x ∷ a) b = r ∷ glue (x ∷ a) b

-- ---- the length of the text of the rows

abbrev pub rows_length : List Row → Length
rows_length [] = no_length
rows_length (r ∷ []) = length_of 0 r.columns
rows_length (r ∷ x ∷ rows) = let rest = rows_length (x ∷ rows) in length_of (suc rest.lines) rest.columns

-- ---- the rows of a text by a table, from the contents of its lines

abbrev pub text_rows : Table → List (List ℕ) → List Row
text_rows table [] = []
text_rows table (x ∷ []) = row (tokens_of table x) (length x) ∷ []
text_rows table (x ∷ y ∷ lines) = row (tokens_of table x) 0 ∷ text_rows table (y ∷ lines)

-- the brackets of a text, in text order
abbrev pub text_brackets : Table → List (List ℕ) → List Bracket
text_brackets table lines = placed no_length (text_rows table lines)

-- ---- worked examples

-- `a(` and `)b`, glued where the line goes on
glued_in_line :
    glue (row (token 1 1 0 true ∷ []) 2 ∷ []) (row (token 0 1 0 false ∷ []) 2 ∷ [])
    ≡ row (token 1 1 0 true ∷ token 2 1 0 false ∷ []) 4 ∷ []
glued_in_line = refl

-- the brackets of `x` and `(` in two lines
brackets_of_two_lines :
    text_brackets standard_table ((120 ∷ []) ∷ (40 ∷ []) ∷ []) ≡ bracket (length_of 1 0) 1 0 true ∷ []
brackets_of_two_lines = refl
