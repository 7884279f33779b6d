-- The cached look-up of a line's mark.
use Rattle.std.specs.Prelude.{ℕ, ◌≡◌, ◌+◌, ◌^◌, ◌<◌, List, drop, length}
use Rattle.mark_rules.specs.declared.Mark.{Mark}
use Rattle.mark_rules.specs.Marks.{mark_at, kept_run, Rises}

-- the mark of this line, counted from 0, and the length of the run of kept lines from it on
pub record IsRemembered (marks : List Mark) (line : ℕ) (mark : Mark) (kept : ℕ) : Type 0 where
  pub is : mark ≡ mark_at (line + 1) marks
  pub run : kept ≡ kept_run (drop line marks)
  pub fits : length marks < 2 ^ 62
  pub rises : Rises marks
