-- A text whose lines are marked after an edit of one of them.
use Rattle.std.specs.Prelude.{◌≡◌, ℕ, List, length}
use Rattle.mark_rules.specs.declared.Mark.{Mark}
use Rattle.mark_rules.specs.Marks.{clean_marks, edited_marks}
use Rattle.reuse_rules.specs.Edits.{IsEdited}

-- one line was edited since a parse, and the marks show which
pub record IsMarkedEdit (before after : List (List ℕ)) (marks : List Mark) : Type 0 where
  pub line : ℕ
  pub edited : IsEdited line 1 1 before after
  pub marked : marks ≡ edited_marks line 1 1 (clean_marks (length before))
