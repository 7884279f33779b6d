-- Worked examples of what a tree shows, as computed theorems. Places are (lines, columns) from (0, 0).
use Rattle.std.specs.Prelude.{◌≡◌, ◌≤◌, false, [], ◌∷◌, Some, refl}
use Rattle.std.proofs.Common.{inl, inr}
use Rattle.text_lengths.specs.Length.{length_of, no_length}
use Rattle.bracket_rules.specs.declared.Status.TheVariants.{PairedOpening, PairedClosing, Unexpected}
use Rattle.bracket_rules.specs.Examples.{entry}
use Rattle.bracket_rules.specs.Table.{token}
use Rattle.bracket_rules.specs.Parse.{entries_of}
use Rattle.bracket_tree_rules.specs.Tree.{text, pair, stray, capped, two, three, highest, tree_story}
use Rattle.bracket_tree_rules.specs.Weights.{glue_weights, tree_weights, AreCovered}
use Rattle.bracket_tree_rules.specs.Places.{touched}
use Rattle.bracket_tree_rules.specs.Found.{IsTokenAt}

-- `(` and `)` round `]`, and a bracket beyond the limit on open brackets
entries_of_pair :
    entries_of (tree_story (pair 0 1 (stray 1 1) (Some 1)))
    ≡ entry 0 0 1 0 PairedOpening 0 ∷ entry 0 1 1 1 Unexpected 1 ∷ entry 0 2 1 0 PairedClosing 0 ∷ []
entries_of_pair = refl

-- a list of two lists inside a pair
the_highest_list_may_stand_inside_a_pair :
    highest (two (pair 0 1 (two (two (stray 1 1) (stray 1 1)) (two (stray 1 1) (stray 1 1))) (Some 1)) (stray 1 1)) ≡ 2
the_highest_list_may_stand_inside_a_pair = refl

capped_is_no_entry : tree_story (capped 0 1) ≡ []
capped_is_no_entry = refl

a_part_of_a_line_touches_it : touched (length_of 0 3) ≡ 1
a_part_of_a_line_touches_it = refl

a_break_ends_the_line_it_touches : touched (length_of 1 0) ≡ 1
a_break_ends_the_line_it_touches = refl

two_breaks_and_a_letter_touch_three_lines : touched (length_of 2 1) ≡ 3
two_breaks_and_a_letter_touch_three_lines = refl

-- the closing bracket of `(a)`
a_bracket_closes_at_column_2 :
    IsTokenAt no_length (pair 0 1 (text (length_of 0 1)) (Some 1)) (length_of 0 2) (token 2 1 0 false)
a_bracket_closes_at_column_2 = record { stands = inr (inl refl); column = refl }

-- the line that the break ends, and the empty start of the next line
a_break_weighs_in_the_line_it_ends : tree_weights (text (length_of 1 0)) ≡ 1 ∷ 0 ∷ []
a_break_weighs_in_the_line_it_ends = refl

-- `(ab`, a break and `c)`
a_pair_over_two_lines_weighs_in_both :
    tree_weights (pair 0 1 (three (text (length_of 0 2)) (text (length_of 1 0)) (text (length_of 0 1))) (Some 1)) ≡ 4 ∷ 2 ∷ []
a_pair_over_two_lines_weighs_in_both = refl

weights_of_one_line_add : glue_weights (2 ∷ 3 ∷ []) (4 ∷ 1 ∷ []) ≡ 2 ∷ 7 ∷ 1 ∷ []
weights_of_one_line_add = refl

no_line_is_missing : AreCovered (3 ∷ 2 ∷ []) (4 ∷ []) ≡ ((3 ≤ 4) × ⊥)
no_line_is_missing = refl
