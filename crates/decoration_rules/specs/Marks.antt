-- Lists of decorations, ordered by start, then by end, then by id.
use Rattle.std.specs.Prelude.{ℕ, ◌≡◌, ◌==◌, ◌&&◌, ◌||◌, Bool, true, false, not, nat_lt, nat_le, if◌then◌else◌, List, [], ◌∷◌, map, filter, find, Option, ⊤}
use Rattle.std.specs.List.{list_any, list_all}
use Rattle.text_lengths.specs.declared.Span.{Span}
use Rattle.decoration_rules.specs.declared.Edit.{Edit}
use Rattle.decoration_rules.specs.declared.Mark.{Mark}
use Rattle.decoration_rules.specs.Moves.{moved_by_all}

abbrev pub stands_before : Mark → Mark → Bool
stands_before a b =
    nat_lt a.span.start b.span.start
    || (a.span.start == b.span.start && (nat_lt a.span.end b.span.end || (a.span.end == b.span.end && nat_lt a.id b.id)))

abbrev pub put_in_order : Mark → List Mark → List Mark
put_in_order mark [] = mark ∷ []
put_in_order mark (next ∷ marks) = if stands_before mark next then mark ∷ next ∷ marks else next ∷ put_in_order mark marks

abbrev pub in_order : List Mark → List Mark
in_order [] = []
in_order (mark ∷ marks) = put_in_order mark (in_order marks)

-- the decorations after all edits of a batch, which are applied from the last to the first
abbrev pub carried : List Mark → List Edit → List Mark
carried marks edits = in_order (map (moved_by_all edits) marks)

-- the list is in order: each decoration is before all later ones
abbrev pub IsInOrder : List Mark → Type 0
IsInOrder [] = ⊤
IsInOrder (mark ∷ marks) = (list_all (stands_before mark) marks ≡ true) × IsInOrder marks

abbrev pub has_id : ℕ → Mark → Bool
has_id id mark = mark.id == id

abbrev pub is_live : List Mark → ℕ → Bool
is_live marks id = list_any (has_id id) marks

abbrev pub mark_of : List Mark → ℕ → Option Mark
mark_of marks id = find (has_id id) marks

-- no two decorations have the same id
abbrev pub HasDistinctIds : List Mark → Type 0
HasDistinctIds [] = ⊤
HasDistinctIds (mark ∷ marks) = (is_live marks mark.id ≡ false) × HasDistinctIds marks

-- the decorations whose id is not this one
abbrev pub without : ℕ → List Mark → List Mark
without id marks = filter (λ mark. not (has_id id mark)) marks

-- the two spans share a unit, or touch
abbrev pub touches : Span → Mark → Bool
touches span mark = nat_le mark.span.start span.end && nat_le span.start mark.span.end

-- the decorations that touch the span
abbrev pub touching : Span → List Mark → List Mark
touching span marks = filter (touches span) marks
