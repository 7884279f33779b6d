-- What contracts see of the marks of a text's lines.
use Rattle.std.specs.Prelude.{ℕ, List}
use Rattle.mark_rules.specs.declared.Mark.{Mark}

pub record Shown : Type 0 where
  -- one for each line, in order
  pub marks : List Mark
  -- the number of edits for which there is room
  pub spare : ℕ
