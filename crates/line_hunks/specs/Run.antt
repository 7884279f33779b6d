-- The marks of runs.
use Rattle.std.specs.Prelude.{ℕ, ◌+◌, ◌-◌, ◌^◌, ◌≤◌, Bool, true, false, List, [], ◌∷◌, replicate}
use Rattle.mark_rules.specs.declared.Mark.{Mark}
use Rattle.mark_rules.specs.declared.Mark.TheVariants.{Kept, New}
use Rattle.mark_rules.specs.Marks.{kept_marks}
use Rattle.line_hunks.specs.declared.run.Run.{Run}

abbrev pub is_new : Mark → Bool
is_new New = true
is_new (Kept number) = false

-- the mark of the line that follows `lines` lines after a line with this mark, in one run
abbrev pub later_mark : Mark → ℕ → Mark
later_mark New lines = New
later_mark (Kept number) lines = Kept (number + lines)

-- the marks of `lines` lines of one run, from a line with this mark on
abbrev pub marks_from : Mark → ℕ → List Mark
marks_from New lines = replicate lines New
marks_from (Kept number) lines = kept_marks number lines

abbrev pub run_marks : Run → List Mark
run_marks run = marks_from run.first run.lines

abbrev pub new_lines : ℕ → Run
new_lines lines = record { first = New; lines = lines }

-- the first `lines` lines of the run, and the rest
abbrev pub head_of : Run → ℕ → Run
head_of run lines = record { first = run.first; lines = lines }

abbrev pub tail_of : Run → ℕ → Run
tail_of run lines = record { first = later_mark run.first lines; lines = run.lines - lines }

abbrev pub lines_in : List Run → ℕ
lines_in [] = 0
lines_in (run ∷ runs) = run.lines + lines_in runs

-- the number of kept lines among `lines` lines of one run, from a line with this mark on
abbrev pub kept_of : Mark → ℕ → ℕ
kept_of New lines = 0
kept_of (Kept number) lines = lines

abbrev pub kept_lines : Run → ℕ
kept_lines run = kept_of run.first run.lines

-- the number of new lines among them
abbrev pub new_of : Mark → ℕ → ℕ
new_of New lines = lines
new_of (Kept number) lines = 0

-- the number after the last one; for new lines, their count
abbrev pub numbers_end : Mark → ℕ → ℕ
numbers_end New lines = lines
numbers_end (Kept number) lines = number + lines

abbrev pub IsInRange : Run → Type 0
IsInRange run = numbers_end run.first run.lines ≤ 2 ^ 62
