-- Worked examples of the definitions.
use Rattle.std.specs.Prelude.{◌≡◌, ℕ, ◌^◌, Bool, true, false, List, [], ◌∷◌, map, Some, Ok, Err, refl}
use Rattle.text_lengths.specs.declared.Span.{Span}
use Rattle.unit_text.specs.declared.kind.Kind.TheVariants.{Mixed}
use Rattle.decoration_rules.specs.declared.Sticky.{Sticky}
use Rattle.decoration_rules.specs.declared.Sticky.TheVariants.{AlwaysGrows, NeverGrows, GrowsBefore, GrowsAfter}
use Rattle.decoration_rules.specs.declared.Edit.{Edit}
use Rattle.decoration_rules.specs.declared.LineMove.{LineMove}
use Rattle.decoration_rules.specs.declared.Mark.{Mark}
use Rattle.decoration_rules.specs.declared.NewDeco.{NewDeco}
use Rattle.decoration_rules.specs.Refusals.{unknown, range, limit}
use Rattle.decoration_rules.specs.Moves.{moved}
use Rattle.decoration_rules.specs.Marks.{carried, touching}
use Rattle.decoration_rules.specs.Lines.{carried_with_lines}
use Rattle.decoration_rules.specs.Decorations.{Decorations, no_decorations, decorated, decos_in}

abbrev span : ℕ → ℕ → Span
span start end = record { start = start; end = end }

abbrev edit : ℕ → ℕ → ℕ → Edit
edit start end units = record { start = start; end = end; units = units; force = false }

abbrev forced : ℕ → ℕ → ℕ → Edit
forced start end units = record (edit start end units) { force = true }

-- the span [2, 5] after the edit, for each stickiness
abbrev all_modes : Edit → List Span
all_modes e = map (λ sticky. moved (span 2 5) sticky false e) (AlwaysGrows ∷ NeverGrows ∷ GrowsBefore ∷ GrowsAfter ∷ [])

three_units_at_the_start : all_modes (edit 2 2 3) ≡ span 2 8 ∷ span 5 8 ∷ span 2 8 ∷ span 5 8 ∷ []
three_units_at_the_start = refl

three_units_at_the_end : all_modes (edit 5 5 3) ≡ span 2 8 ∷ span 2 5 ∷ span 2 5 ∷ span 2 8 ∷ []
three_units_at_the_end = refl

three_units_inside : all_modes (edit 3 3 3) ≡ span 2 8 ∷ span 2 8 ∷ span 2 8 ∷ span 2 8 ∷ []
three_units_inside = refl

three_units_before : all_modes (edit 0 0 3) ≡ span 5 8 ∷ span 5 8 ∷ span 5 8 ∷ span 5 8 ∷ []
three_units_before = refl

all_removed : all_modes (edit 0 8 0) ≡ span 0 0 ∷ span 0 0 ∷ span 0 0 ∷ span 0 0 ∷ []
all_removed = refl

put_back : moved (span 0 0) NeverGrows false (edit 0 0 8) ≡ span 8 8
put_back = refl

fewer_in_its_place : all_modes (edit 1 6 3) ≡ span 2 4 ∷ span 2 4 ∷ span 2 4 ∷ span 2 4 ∷ []
fewer_in_its_place = refl

-- the span of a growing decoration after each of the edits
abbrev grown : Bool → Span → List Edit → List Span
grown collapse at edits = map (moved at AlwaysGrows collapse) edits

-- without force, and by force
just_as_many_in_its_place : grown false (span 2 5) (edit 2 5 3 ∷ forced 2 5 3 ∷ []) ≡ span 2 5 ∷ span 5 5 ∷ []
just_as_many_in_its_place = refl

-- the first edit takes the whole span, the second leaves a part of it
collapsed : grown true (span 2 5) (edit 1 6 3 ∷ edit 3 6 0 ∷ []) ≡ span 1 1 ∷ span 2 3 ∷ []
collapsed = refl

collapsed_at_an_insert : grown true (span 1 1) (edit 1 1 1 ∷ []) ≡ span 1 1 ∷ []
collapsed_at_an_insert = refl

an_empty_one_grows : grown false (span 1 1) (edit 1 1 1 ∷ forced 1 1 1 ∷ []) ≡ span 1 2 ∷ span 2 2 ∷ []
an_empty_one_grows = refl

-- without the correction its start would pass its end
an_empty_one_never_grows : moved (span 1 1) NeverGrows false (edit 1 1 1) ≡ span 2 2
an_empty_one_never_grows = refl

abbrev mark : ℕ → ℕ → ℕ → Sticky → Mark
mark id start end sticky = record { id = id; owner = 1; span = span start end; sticky = sticky; collapse = false }

-- the insert at 4 comes first, then the one at 2
a_batch_from_its_last_op : carried (mark 1 2 4 NeverGrows ∷ mark 2 3 3 NeverGrows ∷ []) (edit 2 2 2 ∷ edit 4 4 1 ∷ [])
    ≡ mark 1 4 6 NeverGrows ∷ mark 2 5 5 NeverGrows ∷ []
a_batch_from_its_last_op = refl

-- the first decoration becomes the last
an_insert_that_turns_the_order : carried (mark 1 2 2 NeverGrows ∷ mark 2 2 4 AlwaysGrows ∷ []) (edit 2 2 1 ∷ [])
    ≡ mark 2 2 5 AlwaysGrows ∷ mark 1 3 3 NeverGrows ∷ []
an_insert_that_turns_the_order = refl

abbrev line : ℕ → ℕ → ℕ → LineMove
line old content new = record { old = old; content = content; new = new }

-- `a LF b LF c` becomes `a CR LF b CR LF c`
abbrev longer_endings : List LineMove
longer_endings = line 0 1 0 ∷ line 2 1 3 ∷ line 4 1 6 ∷ []

-- the opposite change
abbrev shorter_endings : List LineMove
shorter_endings = line 0 1 0 ∷ line 3 1 2 ∷ line 6 1 4 ∷ []

-- the whole text, and the `b`
lines_move_behind_longer_endings : carried_with_lines longer_endings (mark 1 0 5 AlwaysGrows ∷ mark 2 2 3 AlwaysGrows ∷ [])
    ≡ mark 1 0 7 AlwaysGrows ∷ mark 2 3 4 AlwaysGrows ∷ []
lines_move_behind_longer_endings = refl

and_back_before_shorter_ones : carried_with_lines shorter_endings (mark 1 0 7 AlwaysGrows ∷ mark 2 3 4 AlwaysGrows ∷ [])
    ≡ mark 1 0 5 AlwaysGrows ∷ mark 2 2 3 AlwaysGrows ∷ []
and_back_before_shorter_ones = refl

-- the offset between the CR and the LF moves to the offset before the CR; the decorations are then ordered by id
inside_an_ending : carried_with_lines shorter_endings (mark 2 1 1 NeverGrows ∷ mark 1 2 2 NeverGrows ∷ [])
    ≡ mark 1 1 1 NeverGrows ∷ mark 2 1 1 NeverGrows ∷ []
inside_an_ending = refl

abbrev three : List Mark
three = mark 1 2 5 AlwaysGrows ∷ mark 2 5 5 NeverGrows ∷ mark 3 6 8 AlwaysGrows ∷ []

to_touch_counts : touching (span 5 5) three ≡ mark 1 2 5 AlwaysGrows ∷ mark 2 5 5 NeverGrows ∷ []
to_touch_counts = refl

none_of_another_owner : decos_in (record { marks = three; next_id = 4 }) (span 5 5) (Some 9) ≡ []
none_of_another_owner = refl

abbrev new : ℕ → ℕ → ℕ → NewDeco
new start end stick = record { span = span start end; stick = stick; collapse = false }

abbrev one : Decorations
one = record { marks = mark 1 0 0 AlwaysGrows ∷ []; next_id = 2 }

the_first_id : decorated no_decorations 1 [] (new 0 0 0 ∷ []) Mixed [] ≡ Ok one
the_first_id = refl

named_twice : decorated one 1 (1 ∷ 1 ∷ []) [] Mixed [] ≡ Err unknown
named_twice = refl

of_another_owner : decorated one 2 (1 ∷ []) [] Mixed [] ≡ Err unknown
of_another_owner = refl

an_id_is_not_used_again : decorated one 1 (1 ∷ []) (new 0 0 3 ∷ []) Mixed []
    ≡ Ok (record { marks = mark 2 0 0 GrowsAfter ∷ []; next_id = 3 })
an_id_is_not_used_again = refl

no_such_mode : decorated one 1 [] (new 0 0 4 ∷ []) Mixed [] ≡ Err range
no_such_mode = refl

unknown_comes_first : decorated one 1 (7 ∷ []) (new 0 1 0 ∷ []) Mixed [] ≡ Err unknown
unknown_comes_first = refl

no_id_is_left : decorated (record { marks = []; next_id = 2 ^ 63 }) 1 [] (new 0 0 0 ∷ []) Mixed [] ≡ Err limit
no_id_is_left = refl
