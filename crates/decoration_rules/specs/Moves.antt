-- How a decoration moves under an edit, in the manner of VS Code's `nodeAcceptEdit`.
use Rattle.std.specs.Prelude.{ℕ, ◌+◌, ◌-◌, ◌^◌, ◌≤◌, ◌==◌, ◌&&◌, ◌||◌, Bool, true, false, not, min, max, nat_lt, nat_le, if◌then◌else◌, List, [], ◌∷◌}
use Rattle.std.specs.List.{All}
use Rattle.text_lengths.specs.declared.Span.{Span}
use Rattle.decoration_rules.specs.declared.Sticky.{Sticky}
use Rattle.decoration_rules.specs.declared.Sticky.TheVariants.{AlwaysGrows, NeverGrows, GrowsBefore, GrowsAfter}
use Rattle.decoration_rules.specs.declared.Edit.{Edit}
use Rattle.decoration_rules.specs.declared.Mark.{Mark}

-- all offsets of a decoration are below this limit
abbrev pub offset_limit : ℕ
offset_limit = 2 ^ 62

-- The stick flags: whether a decoration's start, or its end, sticks to the text before it.
abbrev pub start_sticks : Sticky → Bool
start_sticks AlwaysGrows = true
start_sticks NeverGrows = false
start_sticks GrowsBefore = true
start_sticks GrowsAfter = false

abbrev pub end_sticks : Sticky → Bool
end_sticks AlwaysGrows = false
end_sticks NeverGrows = true
end_sticks GrowsBefore = true
end_sticks GrowsAfter = false

-- The behaviour of an offset that is equal to an offset of the edit.
pub data AtPlace : Type 0 where
  stay : AtPlace
  -- the offset stays if its stick flag is set
  own : AtPlace
  move : AtPlace

abbrev pub stays_at : AtPlace → Bool → Bool
stays_at stay sticks = true
stays_at own sticks = sticks
stays_at move sticks = false

-- the offset is less than `place`, or equal to it and stays
abbrev pub stays_before : AtPlace → Bool → ℕ → ℕ → Bool
stays_before rule sticks offset place = nat_lt offset place || (offset == place && stays_at rule sticks)

-- the number of units that the edit removes
abbrev pub removed : Edit → ℕ
removed edit = edit.end - edit.start

-- the number of removed units that a new unit replaces
abbrev pub replaced : Edit → ℕ
replaced edit = min (removed edit) edit.units

-- The rules at the edit's start, at the end of the replaced units, and at the edit's end.
abbrev pub at_start : Edit → AtPlace
at_start edit = if edit.force then move else (if nat_lt edit.start edit.end then stay else own)

abbrev pub at_replaced : Edit → AtPlace
at_replaced edit = if nat_lt edit.units (removed edit) then stay else own

abbrev pub at_end : Edit → AtPlace
at_end edit = if edit.force then move else own

-- the offset after the edit of an offset with this stick flag
abbrev pub moved_offset : Bool → ℕ → Edit → ℕ
moved_offset sticks offset edit =
    if stays_before (at_start edit) sticks offset edit.start then offset else
    (if nat_lt 0 (replaced edit) && not edit.force && stays_before (at_replaced edit) sticks offset (edit.start + replaced edit)
    then offset else
    (if stays_before (at_end edit) sticks offset edit.end then edit.start + edit.units
    else offset + edit.units - removed edit))

-- the span is within the edit's range, bounds included; an empty span at the offset of an insertion is too
abbrev pub is_taken : Span → Edit → Bool
is_taken span edit = nat_le edit.start span.start && nat_le span.end edit.end

-- the span from `start` to `end`; an end below the start becomes the start
abbrev pub upright : ℕ → ℕ → Span
upright start end = record { start = start; end = max start end }

-- the span of a decoration after the edit
abbrev pub moved : Span → Sticky → Bool → Edit → Span
moved span sticky collapse edit =
    if collapse && is_taken span edit then record { start = edit.start; end = edit.start } else
    upright (moved_offset (start_sticks sticky) span.start edit) (moved_offset (end_sticks sticky) span.end edit)

abbrev pub moved_mark : Edit → Mark → Mark
moved_mark edit mark = record mark { span = moved mark.span mark.sticky mark.collapse edit }

-- the span is ordered and within a text of this length
pub record IsSpanIn (span : Span) (len : ℕ) : Type 0 where
  pub upright : span.start ≤ span.end
  pub within : span.end ≤ len

abbrev pub LieIn : ℕ → List Mark → Type 0
LieIn len marks = All (λ (mark : Mark). IsSpanIn mark.span len) marks

-- the decoration after all edits of a batch, which are applied from the last to the first
abbrev pub moved_by_all : List Edit → Mark → Mark
moved_by_all [] mark = mark
moved_by_all (edit ∷ edits) mark = moved_mark edit (moved_by_all edits mark)
