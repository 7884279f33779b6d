-- Marks stored as runs, if there are any.
use Rattle.std.specs.Prelude.{List, [], Option, Some, None}
use Rattle.mark_rules.specs.declared.Mark.{Mark}
use Rattle.line_hunks.specs.Hunks.{Shown}

abbrev pub marks_put : Option Shown → List Mark
marks_put None = []
marks_put (Some hunks) = hunks.marks
