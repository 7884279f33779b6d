-- The rest of a supply.
use Rattle.std.specs.Prelude.{ℕ, List, ◌++◌, drop}
use Rattle.script_play.specs.declared.supply.Supply.{Supply}
use Rattle.script_play.specs.Script.{lines_from}

-- the rest of the current line, and the lines after it
abbrev pub left_of : Supply → List ℕ
left_of supply = drop supply.given supply.line.items ++ lines_from supply.lines_left supply.play
