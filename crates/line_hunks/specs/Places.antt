-- The place of a line among the marks.
use Rattle.std.specs.Prelude.{ℕ, ◌≡◌, ◌+◌, ◌<◌, true, false, List, ◌++◌, length}
use Rattle.mark_rules.specs.declared.Mark.{Mark}
use Rattle.mark_rules.specs.declared.Mark.TheVariants.{New}
use Rattle.mark_rules.specs.Marks.{mark_at, kept_run, new_run}
use Rattle.line_hunks.specs.declared.run.Place.{Place}
use Rattle.line_hunks.specs.Run.{is_new, run_marks, IsInRange}

-- the last of these lines, if any, is new
abbrev pub EndsNew : List Mark → Type 0
EndsNew marks = mark_at (length marks) marks ≡ New

-- line n is at this place, and the run cannot be extended: the lines beside it do not continue it
pub record IsPlace (marks : List Mark) (n : ℕ) (place : Place) : Type 0 where
  pub lower : List Mark
  pub upper : List Mark
  pub parts : marks ≡ lower ++ (run_marks place.run ++ upper)
  pub line : n ≡ length lower + place.before + 1
  pub within : place.before < place.run.lines
  pub range : IsInRange place.run
  pub under : is_new place.run.first ≡ false → EndsNew lower
  pub apart : is_new place.run.first ≡ false → kept_run upper ≡ 0
  pub ends : is_new place.run.first ≡ true → new_run upper ≡ 0
