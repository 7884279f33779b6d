-- Worked examples of the definitions.
use Rattle.std.specs.Prelude.{◌≡◌, true, false, List, [], ◌∷◌, drop, refl}
use Rattle.std.proofs.Common.{arith}
use Rattle.mark_rules.specs.declared.Mark.{Mark}
use Rattle.mark_rules.specs.declared.Mark.TheVariants.{Kept, New}
use Rattle.mark_rules.specs.Marks.{clean_marks, edited_marks, mark_at, kept_run, new_run, has_new, SpansNew}

five_lines_are_kept : clean_marks 5 ≡ Kept 1 ∷ Kept 2 ∷ Kept 3 ∷ Kept 4 ∷ Kept 5 ∷ []
five_lines_are_kept = refl

-- one line replaces lines 2 and 3
abbrev two_became_one : List Mark
two_became_one = edited_marks 2 2 1 (clean_marks 5)

lines_behind_an_edit_keep_their_numbers : two_became_one ≡ Kept 1 ∷ New ∷ Kept 4 ∷ Kept 5 ∷ []
lines_behind_an_edit_keep_their_numbers = refl

a_second_edit_counts_lines_of_now : edited_marks 3 1 2 two_became_one ≡ Kept 1 ∷ New ∷ New ∷ New ∷ Kept 5 ∷ []
a_second_edit_counts_lines_of_now = refl

line_three_was_line_four : mark_at 3 two_became_one ≡ Kept 4
line_three_was_line_four = refl

one_line_is_kept_before_the_edit : kept_run two_became_one ≡ 1
one_line_is_kept_before_the_edit = refl

none_is_kept_from_a_new_line_on : kept_run (drop 1 two_became_one) ≡ 0
none_is_kept_from_a_new_line_on = refl

two_lines_are_kept_behind_the_edit : kept_run (drop 2 two_became_one) ≡ 2
two_lines_are_kept_behind_the_edit = refl

-- line 2 is missing, so line 3 does not continue the run of line 1
a_gap_in_the_numbers_ends_a_run : kept_run (Kept 1 ∷ Kept 3 ∷ []) ≡ 1
a_gap_in_the_numbers_ends_a_run = refl

two_lines_are_new_from_line_three_on : new_run (drop 2 (edited_marks 3 1 2 two_became_one)) ≡ 2
two_lines_are_new_from_line_three_on = refl

an_edit_leaves_a_new_line : has_new two_became_one ≡ true
an_edit_leaves_a_new_line = refl

line_two_alone_is_new : SpansNew two_became_one 2 2
line_two_alone_is_new = record {
  from = omega arith;
  ordered = omega arith;
  to = omega arith;
  first_new = refl;
  last_new = refl;
  kept_before = refl;
  kept_behind = refl;
}

a_parse_leaves_none : has_new (clean_marks 5) ≡ false
a_parse_leaves_none = refl
