-- A walk over the lines of a text: the outcome of the lines passed, and the outcome of the lines ahead.
use Rattle.std.specs.Prelude.{◌≡◌, ℕ, ◌+◌, ◌-◌, ◌<◌, ◌≤◌, ◌^◌, List, [], ◌∷◌, ◌++◌, length, take, drop}
use Rattle.mark_rules.specs.declared.Mark.{Mark}
use Rattle.mark_rules.specs.declared.Mark.TheVariants.{New}
use Rattle.mark_rules.specs.Marks.{mark_at, kept_marks, kept_run, Rises}
use Rattle.hiding_rules.specs.Hidden.{Scanner, hidden_scan}
use Rattle.line_states.specs.declared.settle.Walk.{Walk}
use Rattle.line_states.specs.Lines.{LinesState, content_at}
use Rattle.line_states.specs.Settling.{Borders}
use Rattle.line_states.specs.Outcome.{Task, Outcome, outcome, outcome_from, followed_by, ended}

-- the outcome of the lines passed so far
abbrev pub so_far : Walk → LinesState → Outcome
so_far w lines = record { marks = w.marks; begins = w.begins; asked = lines.asked; ends = w.state }

-- the outcome of the lines ahead
abbrev pub ahead : Task → LinesState → Walk → Outcome
ahead t lines w = outcome_from t lines w.passed w.state

-- the outcome of all lines
abbrev pub comes_of : Task → LinesState → Walk → Outcome
comes_of t lines w = followed_by (so_far w lines) (ahead t lines w)

-- the last of these lines, if any, is new
abbrev pub EndsNew : List Mark → Type 0
EndsNew marks = mark_at (length marks) marks ≡ New

-- there is a mark and a state for each line passed; if the next line is kept, the last line passed, if any, has a new
-- mark
pub record IsOnWay (t : Task) (lines : LinesState) (w : Walk) : Type 0 where
  pub within : w.passed ≤ length t.marks
  pub marks : length w.marks ≡ w.passed
  pub begins : length w.begins ≡ w.passed
  pub rises : Rises (comes_of t lines w).marks
  pub apart : 0 < kept_run (drop w.passed t.marks) → EndsNew w.marks

-- `lines` kept lines, from line `first` of the last parse on, can be passed next
pub record CanKeep (last : Borders) (w : Walk) (first lines : ℕ) : Type 0 where
  pub counted : 1 ≤ first
  pub some : 1 ≤ lines
  pub within : first - 1 + lines ≤ length last.begins
  pub range : first + lines ≤ 2 ^ 62
  pub passed : w.passed + lines < 2 ^ 62
  pub marks : length w.marks ≡ w.passed
  pub begins : length w.begins ≡ w.passed
  pub apart : EndsNew w.marks
  pub rises : Rises (w.marks ++ kept_marks first lines)

-- these kept lines were passed
pub record HasKept (last : Borders) (v w : Walk) (first lines : ℕ) : Type 0 where
  pub passed : w.passed ≡ v.passed + lines
  pub marks : w.marks ≡ v.marks ++ kept_marks first lines
  pub begins : w.begins ≡ v.begins ++ take lines (drop (first - 1) last.begins)
  pub state : w.state ≡ ended last first lines

-- the next line was asked for, scanned and passed
pub record HasScanned (by : Scanner) (old new : LinesState) (v w : Walk) : Type 0 where
  pub passed : w.passed ≡ v.passed + 1
  pub marks : w.marks ≡ v.marks ++ New ∷ []
  pub begins : w.begins ≡ v.begins ++ v.state ∷ []
  pub state : w.state ≡ (hidden_scan by v.state (content_at (v.passed + 1) old.contents)).state
  pub asked : new.asked ≡ old.asked ++ (v.passed + 1) ∷ []

-- the walk passed at least one line, and the outcome of all lines is unchanged
pub record HasPassed (t : Task) (old new : LinesState) (v w : Walk) : Type 0 where
  pub on : v.passed < w.passed
  pub way : IsOnWay t new w
  pub comes : comes_of t new w ≡ comes_of t old v

-- all lines were passed: their outcome, and the lines asked for
pub record HasCome (t : Task) (old new : LinesState) (w : Walk) : Type 0 where
  pub marks : w.marks ≡ (outcome t old).marks
  pub begins : w.begins ≡ (outcome t old).begins
  pub ends : w.state ≡ (outcome t old).ends
  pub asked : new.asked ≡ old.asked ++ (outcome t old).asked
  pub some : 0 < length w.marks
  pub few : length w.marks < 2 ^ 62
  pub count : length w.begins ≡ length w.marks
