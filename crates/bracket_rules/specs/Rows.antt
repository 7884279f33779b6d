-- A text as rows, one for each line: the brackets of the line, and its columns. A line with a break counts 0 columns,
-- as in lengths.
use Rattle.std.specs.Prelude.{ℕ, suc, ◌+◌, List, [], ◌∷◌, ◌++◌}
use Rattle.text_lengths.specs.declared.Length.{Length}
use Rattle.text_lengths.specs.Length.{length_of}
use Rattle.bracket_rules.specs.declared.Token.{Token}
use Rattle.bracket_rules.specs.Parse.{Bracket, bracket}

pub record Row : Type 0 where
  pub brackets : List Token
  pub columns : ℕ

abbrev pub row : List Token → ℕ → Row
row brackets columns = record { brackets = brackets; columns = columns }

-- ---- the brackets of rows

abbrev pub bracket_at : Length → Token → Bracket
bracket_at p t = bracket (length_of p.lines (p.columns + t.at)) t.len t.kind t.opening

abbrev pub brackets_at : Length → List Token → List Bracket
brackets_at p [] = []
brackets_at p (t ∷ ts) = bracket_at p t ∷ brackets_at p ts

-- the start of the line after this position
abbrev pub next_line : Length → Length
next_line p = length_of (suc p.lines) 0

-- the brackets of the rows if the first row starts at position `p`
abbrev pub placed : Length → List Row → List Bracket
placed p [] = []
placed p (r ∷ rows) = brackets_at p r.brackets ++ placed (next_line p) rows
