-- The lines of a text after its line endings are replaced by those of a kind: each line keeps its content.
use Rattle.std.specs.Prelude.{ℕ, List, [], ◌∷◌, map}
use Rattle.unit_text.specs.Endings.{line_feed, carriage_return}
use Rattle.unit_text.specs.declared.kind.Kind.{Kind}
use Rattle.unit_text.specs.declared.kind.Kind.TheVariants.{Mixed, Lf, Crlf}
use Rattle.text_rules.specs.Lines.{Line}

-- the break of a line after each break is replaced by `ending`; the last line has no break
abbrev pub ended : List ℕ → List ℕ → List ℕ
ended ending [] = []
ended ending (u ∷ break) = ending

abbrev pub line_with : List ℕ → Line → Line
line_with ending line = record { content = line.content; break = ended ending line.break }

abbrev pub lines_with : List ℕ → List Line → List Line
lines_with ending lines = map (line_with ending) lines

-- the same lines with the endings of the kind
abbrev pub lines_in : Kind → List Line → List Line
lines_in Mixed lines = lines
lines_in Lf lines = lines_with (line_feed ∷ []) lines
lines_in Crlf lines = lines_with (carriage_return ∷ line_feed ∷ []) lines
