-- Carrying decorations along with their lines, one after the other.
use Rattle.std.specs.Prelude.{ℤ, pos, ◌≤ℤ◌, List, if◌then◌else◌}
use Rattle.std.specs.Int.{int_min, int_max}
use Rattle.decoration_rules.specs.declared.LineMove.{LineMove}
use Rattle.decoration_rules.specs.Lines.{carried_mark}
use Rattle.decoration_rules.specs.Marks.{stands_before}
use Rattle.interval_deltas.specs.declared.weave.KeptMark.{KeptMark}
use Rattle.interval_deltas.specs.declared.weave.Place.{Place}
use Rattle.interval_deltas.specs.Kept.{as_mark, changed_kept, mark_at, place_of}
use Rattle.interval_deltas.specs.Weave.{limit}

-- the moves of lines, the greatest place of the decorations carried so far, and the least and the greatest start of
-- those that came to lie before an earlier one
pub record Carried : Type 0 where
  pub lines : List LineMove
  pub greatest : Place
  pub first : ℤ
  pub last : ℤ

-- an offset, or the limit
abbrev pub IsOffset : ℤ → Type 0
IsOffset z = (pos 0 ≤ℤ z) × (z ≤ℤ limit)

-- the state before any decoration is carried
abbrev pub setting_out : List LineMove → Carried
setting_out lines = record { lines = lines; greatest = record { start = pos 0; end = pos 0; id = 0 }; first = limit; last = pos 0 }

-- the state after a decoration was carried: it is before the greatest place, or its place becomes the greatest
abbrev pub met : Carried → KeptMark → Carried
met v m =
    if stands_before (as_mark m) (mark_at v.greatest) then record v { first = int_min v.first m.start; last = int_max v.last m.start }
    else record v { greatest = place_of m }

-- a decoration after it was carried along with its lines
abbrev pub carried_by : Carried → KeptMark → KeptMark
carried_by v m = changed_kept (carried_mark v.lines) m

abbrev pub onward_of : Carried → KeptMark → Carried
onward_of v m = met v (carried_by v m)
