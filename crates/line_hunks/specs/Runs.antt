-- The runs of a text, in order: the runs before the gap, the gap, the runs after it.
use Rattle.std.specs.Prelude.{ℕ, ◌≡◌, ◌+◌, ◌^◌, ◌<◌, ⊤, not, List, [], ◌∷◌, ◌++◌}
use Rattle.mark_rules.specs.declared.Mark.{Mark}
use Rattle.line_hunks.specs.declared.run.Run.{Run}
use Rattle.line_hunks.specs.declared.runs.Runs.{Runs}
use Rattle.line_hunks.specs.Run.{is_new, run_marks, lines_in, IsInRange}

-- the marks of runs listed from the last to the first
abbrev pub marks_up : List Run → List Mark
marks_up [] = []
marks_up (run ∷ runs) = marks_up runs ++ run_marks run

-- the marks of runs listed from the first to the last
abbrev pub marks_down : List Run → List Mark
marks_down [] = []
marks_down (run ∷ runs) = run_marks run ++ marks_down runs

-- the marks of a run with other runs before it, and with other runs after it
abbrev pub marks_before : List Run → Run → List Mark
marks_before runs run = marks_up runs ++ run_marks run

abbrev pub marks_behind : Run → List Run → List Mark
marks_behind run runs = run_marks run ++ marks_down runs

abbrev pub marks_around : List Run → Run → List Run → List Mark
marks_around front gap back = marks_up front ++ marks_behind gap back

abbrev pub all_marks : Runs → List Mark
all_marks r = marks_around r.sides.front r.gap r.sides.back

abbrev pub line_count : Runs → ℕ
line_count r = lines_in r.sides.front + r.gap.lines + lines_in r.sides.back

-- from a line with this mark on, runs of new lines and runs of kept lines alternate; each run has a line
abbrev pub StandsBy : Mark → List Run → Type 0
StandsBy mark [] = ⊤
StandsBy mark (run ∷ runs) =
    (is_new run.first ≡ not (is_new mark)) × (0 < run.lines) × IsInRange run × StandsBy run.first runs

pub record Stands (front : List Run) (gap : Run) (back : List Run) : Type 0 where
  pub before : StandsBy gap.first front
  pub behind : StandsBy gap.first back
  pub some : 0 < gap.lines
  pub range : IsInRange gap
  pub small : lines_in front + gap.lines + lines_in back < 2 ^ 62

abbrev pub IsWhole : Runs → Type 0
IsWhole r = Stands r.sides.front r.gap r.sides.back
