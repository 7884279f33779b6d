-- Moving decorations under an edit, one after the other.
use Rattle.std.specs.Prelude.{pos, Bool, true, false, int_lt, ◌||◌, if◌then◌else◌}
use Rattle.decoration_rules.specs.declared.Edit.{Edit}
use Rattle.decoration_rules.specs.Marks.{stands_before}
use Rattle.interval_deltas.specs.declared.weave.KeptMark.{KeptMark}
use Rattle.interval_deltas.specs.declared.weave.Place.{Place}
use Rattle.interval_deltas.specs.Kept.{as_mark, capped, mark_at, moved_kept, place_of}

-- the edit, the greatest place of the decorations moved so far, whether none of them came to lie before an earlier one,
-- and whether one was met that starts after the edit
pub record Moving : Type 0 where
  pub edit : Edit
  pub greatest : Place
  pub in_order : Bool
  pub past : Bool

-- the state before any decoration is moved
abbrev pub starting : Edit → Moving
starting edit = record { edit = edit; greatest = record { start = pos 0; end = pos 0; id = 0 }; in_order = true; past = false }

-- the decoration ends before the edit, or starts after it
abbrev pub ends_before : Edit → KeptMark → Bool
ends_before edit m = int_lt m.end (capped edit.start)

abbrev pub starts_behind : Edit → KeptMark → Bool
starts_behind edit m = int_lt (capped edit.end) m.start

-- the state after a decoration was moved: it is before the greatest place, or its place becomes the greatest
abbrev pub met : Moving → KeptMark → Moving
met v m = if stands_before (as_mark m) (mark_at v.greatest) then record v { in_order = false } else record v { greatest = place_of m }

-- the new form of a decoration: it is moved if the edit touches it
abbrev pub rewritten_by : Moving → KeptMark → KeptMark
rewritten_by v m = if v.past || ends_before v.edit m then m else (if starts_behind v.edit m then m else moved_kept v.edit m)

-- the next state of the mover; from the first decoration on that starts after the edit, it moves none
abbrev pub onward_of : Moving → KeptMark → Moving
onward_of v m =
    if v.past || ends_before v.edit m then v else
    (if starts_behind v.edit m then record v { past = true } else met v (moved_kept v.edit m))
