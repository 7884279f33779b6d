-- The outcome of settling the lines of a text from some line on.
use Rattle.std.specs.Prelude.{◌≡◌, ℕ, suc, ◌+◌, ◌-◌, ◌<◌, ◌≤◌, ◌^◌, List, [], ◌∷◌, ◌++◌, length, take, drop, slice_index_or}
use Rattle.mark_rules.specs.declared.Mark.{Mark}
use Rattle.mark_rules.specs.declared.Mark.TheVariants.{New}
use Rattle.mark_rules.specs.Marks.{kept_marks, Rises}
use Rattle.hiding_rules.specs.declared.LineState.{LineState}
use Rattle.hiding_rules.specs.declared.LineState.TheVariants.{Code}
use Rattle.hiding_rules.specs.Hidden.{Scanner}
use Rattle.hiding_rules.specs.States.{states_from}
use Rattle.hiding_rules.specs.Known.{state_behind, scanned_lines, Lead}
use Rattle.line_states.specs.Lines.{LinesState}
use Rattle.line_states.specs.Settling.{Borders, AreOf, known_lines, settled_marks}

-- the inputs of settling lines: the scanner, the states of the last parse, and the marks of the lines
pub record Task : Type 0 where
  pub by : Scanner
  pub last : Borders
  pub marks : List Mark

abbrev pub task : Scanner → Borders → List Mark → Task
task by last marks = record { by = by; last = last; marks = marks }

-- the kept lines are lines of the last parse, in order; there are at least 1 and fewer than 2^62 lines
pub record IsTask (t : Task) : Type 0 where
  pub lines_of_last : AreOf (length t.last.begins) t.marks
  pub rises : Rises t.marks
  pub some : 1 ≤ length t.marks
  pub few : length t.marks < 2 ^ 62

-- there is a mark for each line, and kept lines lead from state to state as in the last parse
pub record CanSettle (t : Task) (lines : LinesState) : Type 0 where
  pub count : length t.marks ≡ length lines.contents
  pub lead : Lead t.by (known_lines t.last t.marks) lines.contents

-- the marks and states of lines, the numbers of the lines asked for, and the state in which the last line ends
pub record Outcome : Type 0 where
  pub marks : List Mark
  pub begins : List LineState
  pub asked : List ℕ
  pub ends : LineState

-- the outcome of lines with these marks and contents, the first of which has this number and begins in this state
abbrev pub outcome_of : Scanner → Borders → ℕ → List Mark → List (List ℕ) → LineState → Outcome
outcome_of by last number marks contents state = record {
  marks = settled_marks last marks (states_from by state contents);
  begins = states_from by state contents;
  asked = scanned_lines number (known_lines last marks) (states_from by state contents);
  ends = state_behind by state contents;
}

-- the outcome of the lines after the first `passed` lines
abbrev pub outcome_from : Task → LinesState → ℕ → LineState → Outcome
outcome_from t lines passed state =
    outcome_of t.by t.last (suc passed) (drop passed t.marks) (drop passed lines.contents) state

-- the outcome of all lines
abbrev pub outcome : Task → LinesState → Outcome
outcome t lines = outcome_from t lines 0 Code

-- the outcome of lines and of others after them
abbrev pub followed_by : Outcome → Outcome → Outcome
followed_by first second = record {
  marks = first.marks ++ second.marks;
  begins = first.begins ++ second.begins;
  asked = first.asked ++ second.asked;
  ends = second.ends;
}

-- the outcome of one scanned line, which begins in state `from` and ends in state `to`
abbrev pub scanned_line : ℕ → LineState → LineState → Outcome
scanned_line number from to = record { marks = New ∷ []; begins = from ∷ []; asked = number ∷ []; ends = to }

-- the state in which the last of `lines` lines ended, from line `first` on
abbrev pub ended : Borders → ℕ → ℕ → LineState
ended last first lines = slice_index_or last.begins (first + lines - 1) last.ends

-- the outcome of lines that are kept with consecutive numbers and begin in the same states as before
abbrev pub kept_lines : Borders → ℕ → ℕ → Outcome
kept_lines last first lines = record {
  marks = kept_marks first lines;
  begins = take lines (drop (first - 1) last.begins);
  asked = [];
  ends = ended last first lines;
}
