-- The states of the lines of a text, by the states of the last parse, and which lines are restarted.
use Rattle.std.specs.Prelude.{◌≡◌, ⊤, ℕ, ◌-◌, ◌≤◌, if◌then◌else◌, List, [], ◌∷◌, ◌++◌, length, map, Option, Some, None, slice_index_or, refl}
use Rattle.mark_rules.specs.declared.Mark.{Mark}
use Rattle.mark_rules.specs.declared.Mark.TheVariants.{Kept, New}
use Rattle.mark_rules.specs.Marks.{mark_at}
use Rattle.hiding_rules.specs.declared.LineState.{LineState}
use Rattle.hiding_rules.specs.declared.LineState.TheVariants.{Code, Block}
use Rattle.hiding_rules.specs.Hidden.{Scanner}
use Rattle.hiding_rules.specs.States.{line_states}
use Rattle.hiding_rules.specs.Known.{Known, is_restarted, scanned_lines}
use Rattle.line_states.specs.Lines.{LinesState}

-- the states in which the lines of a text begin, and the state in which its last line ends
pub record Borders : Type 0 where
  pub begins : List LineState
  pub ends : LineState

abbrev pub borders : List LineState → LineState → Borders
borders begins ends = record { begins = begins; ends = ends }

-- What is known of a line with this mark: the states in which the line it is kept from began and ended. A line ends in
-- the state in which the next one begins.
abbrev pub known_of : Borders → Mark → Option Known
known_of last New = None
known_of last (Kept i) =
    Some (record { begins = slice_index_or last.begins (i - 1) Code; ends = slice_index_or last.begins i last.ends })

abbrev pub known_lines : Borders → List Mark → List (Option Known)
known_lines last marks = map (known_of last) marks

-- a restarted line is marked as new
abbrev pub settled_mark : Borders → Mark → LineState → Mark
settled_mark last mark state = if is_restarted (known_of last mark) state then New else mark

-- the marks of lines that begin in these states now, with restarted lines as new
abbrev pub settled_marks : Borders → List Mark → List LineState → List Mark
settled_marks last [] states = []
settled_marks last (m ∷ marks) [] = []
settled_marks last (m ∷ marks) (s ∷ states) = settled_mark last m s ∷ settled_marks last marks states

-- the number of each kept line is at most `lines`
abbrev pub AreOf : ℕ → List Mark → Type 0
AreOf lines marks = (n i : ℕ) → mark_at n marks ≡ Kept i → i ≤ lines

-- a kept line is a line of the last parse
abbrev pub IsOfLast : Borders → Mark → Type 0
IsOfLast last New = ⊤
IsOfLast last (Kept i) = (1 ≤ i) × (i ≤ length last.begins)

-- the mark is kept as line `i`, which began in this state
pub record IsKeptAs (last : Borders) (i : ℕ) (state : LineState) (mark : Mark) : Type 0 where
  pub is : mark ≡ Kept i
  pub counted : 1 ≤ i
  pub begins : slice_index_or last.begins (i - 1) Code ≡ state

-- ---- what contracts see

-- the states of the last parse, with the marks of the current lines
pub record StatesState : Type 0 where
  -- one for each line of the current text
  pub marks : List Mark
  pub last : Borders
  -- the number of edits of the marks for which there is room
  pub spare : ℕ

-- the result of settling lines
pub record SettledState : Type 0 where
  -- with restarted lines as new
  pub marks : List Mark
  pub states : Borders

-- the marks of the current lines, with restarted lines as new
abbrev pub marks_now : Scanner → StatesState → LinesState → List Mark
marks_now by s lines = settled_marks s.last s.marks (line_states by lines.contents)

-- the lines asked for before, followed by the new or restarted lines
abbrev pub asked_after : Scanner → StatesState → LinesState → List ℕ
asked_after by s lines = lines.asked ++ scanned_lines 1 (known_lines s.last s.marks) (line_states by lines.contents)

-- ---- a worked example: `x`, `(`, `*/` and `y` were scanned in code, and line 1 is new and opens a comment

restarted_lines_are_as_new :
    settled_marks (borders (Code ∷ Code ∷ Code ∷ Code ∷ []) Code) (New ∷ Kept 2 ∷ Kept 3 ∷ Kept 4 ∷ []) (Code ∷ Block ∷ Block ∷ Code ∷ [])
    ≡ New ∷ New ∷ New ∷ Kept 4 ∷ []
restarted_lines_are_as_new = refl
