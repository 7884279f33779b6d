-- Decorations as a tree stores them.
use Rattle.std.specs.Prelude.{ℕ, ℤ, pos, ◌≡◌, ◌<◌, ◌≤◌, ◌≤ℤ◌, ◌<ℤ◌, ◌⊎◌, true, false, min, List, map, Option, Some, None}
use Rattle.std.specs.Int.{cast_unsigned}
use Rattle.std.proofs.Common.{w64}
use Rattle.rb_rules.specs.Woven.{AllItems}
use Rattle.rb_arena.specs.RbTree.{SplitsAt, SplitsAfter}
use Rattle.rb_arena.specs.Searching.{Found}
use Rattle.decoration_rules.specs.declared.Edit.{Edit}
use Rattle.decoration_rules.specs.declared.Mark.{Mark}
use Rattle.decoration_rules.specs.declared.Sticky.TheVariants.{AlwaysGrows}
use Rattle.decoration_rules.specs.Marks.{stands_before}
use Rattle.decoration_rules.specs.Moves.{offset_limit, moved_mark, removed}
use Rattle.interval_deltas.specs.declared.weave.KeptMark.{KeptMark}
use Rattle.interval_deltas.specs.declared.weave.Place.{Place}
use Rattle.interval_deltas.specs.declared.weave.Sought.TheVariants as sought
use Rattle.interval_deltas.specs.Weave.{marks, mark_turn, is_mark}

-- conversion from the stored form of a decoration, and to it
abbrev pub as_mark : KeptMark → Mark
as_mark m = record {
  id = m.label.id;
  owner = m.label.owner;
  span = record { start = cast_unsigned w64 m.start; end = cast_unsigned w64 m.end };
  sticky = m.label.sticky;
  collapse = m.label.collapse;
}

abbrev pub kept_of : Mark → KeptMark
kept_of mark = record {
  start = pos mark.span.start;
  end = pos mark.span.end;
  label = record { id = mark.id; owner = mark.owner; sticky = mark.sticky; collapse = mark.collapse };
}

abbrev pub place_of : KeptMark → Place
place_of m = record { start = m.start; end = m.end; id = m.label.id }

-- a decoration at the place
abbrev pub mark_at : Place → Mark
mark_at p = as_mark (record {
  start = p.start;
  end = p.end;
  label = record { id = p.id; owner = 0; sticky = AlwaysGrows; collapse = false };
})

abbrev pub IsPlace : Place → Type 0
IsPlace p = (pos 0 ≤ℤ p.start) × (pos 0 ≤ℤ p.end)

-- the offset, or the limit if it is above the limit
abbrev pub capped : ℕ → ℤ
capped offset = pos (min offset offset_limit)

abbrev pub marks_of : List (ℕ × KeptMark) → List Mark
marks_of items = map (λ item. as_mark item.1) items

-- the property holds for each decoration
abbrev pub Each : (KeptMark → Type 0) → List (ℕ × KeptMark) → Type 0
Each P items = AllItems marks P items

abbrev pub AreMarks : List (ℕ × KeptMark) → Type 0
AreMarks items = Each is_mark items

-- the stored form of a changed decoration, and the same for all items
abbrev pub changed_kept : (Mark → Mark) → KeptMark → KeptMark
changed_kept to m = kept_of (to (as_mark m))

abbrev pub changed_items : (Mark → Mark) → List (ℕ × KeptMark) → List (ℕ × KeptMark)
changed_items to items = map (λ item. (item.0, changed_kept to item.1)) items

-- the decoration after the edit
abbrev pub moved_kept : Edit → KeptMark → KeptMark
moved_kept edit m = changed_kept (moved_mark edit) m

abbrev pub moved_items : Edit → List (ℕ × KeptMark) → List (ℕ × KeptMark)
moved_items edit items = changed_items (moved_mark edit) items

-- all end below the limit after the edit
abbrev pub CanMove : Edit → List (ℕ × KeptMark) → Type 0
CanMove edit items = Each (λ m. (moved_mark edit (as_mark m)).span.end < offset_limit) items

-- all start after the edit, and end below the limit after they are moved
abbrev pub CanFollow : Edit → List (ℕ × KeptMark) → Type 0
CanFollow edit items = CanMove edit items × Each (λ m. pos edit.end <ℤ m.start) items

-- `CanFollow` holds for the items after the item named `id`, or for all if `id` is None
abbrev pub CanFollowAfter : Edit → List (ℕ × KeptMark) → Option ℕ → Type 0
CanFollowAfter edit items id =
    (us : List (ℕ × KeptMark)) × ((vs : List (ℕ × KeptMark)) × SplitsAfter items id us vs × CanFollow edit vs)

-- as many units are inserted as removed, or the edit is so large that no decoration lies after it
abbrev pub MovesNone : Edit → Type 0
MovesNone edit = (edit.units ≡ removed edit) ⊎ ((offset_limit ≤ edit.units) ⊎ (offset_limit ≤ edit.end))

-- the decoration ends before the edit or starts after it
abbrev pub IsUntouched : Edit → KeptMark → Type 0
IsUntouched edit m = (m.end <ℤ pos edit.start) ⊎ (pos edit.end <ℤ m.start)

-- all items up to the item named `id` are before the decoration, and all later ones are not; if `id` is None, no item
-- is before it
abbrev pub PartedAt : List (ℕ × KeptMark) → Mark → Option ℕ → Type 0
PartedAt items mark id =
    (us : List (ℕ × KeptMark)) × ((vs : List (ℕ × KeptMark)) × SplitsAfter items id us vs
    × Each (λ m. stands_before (as_mark m) mark ≡ true) us × Each (λ m. stands_before (as_mark m) mark ≡ false) vs)

-- the first decoration that ends at the offset or later; None if all end before it
abbrev pub FirstReaching : ℤ → List (ℕ × KeptMark) → Option (ℕ × KeptMark) → Type 0
FirstReaching offset items None = Each (λ m. m.end <ℤ offset) items
FirstReaching offset items (Some found) =
    (us : List (ℕ × KeptMark)) × ((vs : List (ℕ × KeptMark)) × SplitsAt items found.0 us found.1 vs
    × Each (λ m. m.end <ℤ offset) us × (offset ≤ℤ found.1.end))

-- in each list in which the search for the offset ends there, the result is the first decoration that ends at the
-- offset or later
abbrev pub ShowsFirst : ℤ → Option (ℕ × KeptMark × Option ℤ) → Option (ℕ × KeptMark) → Type 0
ShowsFirst offset end first =
    (items : List (ℕ × KeptMark)) → Found marks mark_turn (sought.Reaching offset) items end → FirstReaching offset items first
