-- The first line of a text.
use Rattle.std.specs.Prelude.{ℕ, List, [], ◌∷◌}
use Rattle.text_rules.specs.Lines.{Line, lines_of}

abbrev pub first_of : List Line → Line
first_of [] = record { content = []; break = [] }
first_of (line ∷ lines) = line

-- the first line of a text; each text has one
abbrev pub first_line : List ℕ → Line
first_line x = first_of (lines_of x)
