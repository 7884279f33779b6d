-- Two texts whose lines have the same contents, and how each line moves from one text to the other.
use Rattle.std.specs.Prelude.{ℕ, ◌≡◌, ◌+◌, List, [], ◌∷◌, length, map}
use Rattle.decoration_rules.specs.declared.LineMove.{LineMove}
use Rattle.text_rules.specs.Lines.{Line, lines_of, line_length}

-- the moves of lines that keep their contents: the start of each line in the first text, the length of its content, and
-- its start in the second text; the first lines start at `old` and `new`
abbrev pub moves_from : ℕ → ℕ → List Line → List Line → List LineMove
moves_from old new [] after = []
moves_from old new (line ∷ before) [] = []
moves_from old new (line ∷ before) (next ∷ after) =
    record { old = old; content = length line.content; new = new }
    ∷ moves_from (old + line_length line) (new + line_length next) before after

-- the line moves from the first text to the second
abbrev pub line_moves : List ℕ → List ℕ → List LineMove
line_moves x y = moves_from 0 0 (lines_of x) (lines_of y)

-- the lines of the two texts have the same contents
abbrev pub HaveSameContents : List ℕ → List ℕ → Type 0
HaveSameContents x y = map (λ line. line.content) (lines_of x) ≡ map (λ line. line.content) (lines_of y)

-- the move in the opposite direction
abbrev pub turned : LineMove → LineMove
turned line = record { old = line.new; content = line.content; new = line.old }
