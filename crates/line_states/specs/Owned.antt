-- The marks of settled lines.
use Rattle.std.specs.Prelude.{List}
use Rattle.mark_rules.specs.declared.Mark.{Mark}
use Rattle.line_states.specs.declared.settled.Marks.{Marks}
use Rattle.line_states.specs.declared.settled.Marks.TheVariants.{Same, Own}

abbrev pub marks_of : Marks → List Mark
marks_of (Same hunks) = hunks.now.marks
marks_of (Own hunks) = hunks.marks
