-- Worked examples of the definitions, as computed theorems.
use Rattle.std.specs.Prelude.{◌≡◌, true, false, [], ◌∷◌, refl}
use Rattle.text_lengths.specs.Length.{length_of}
use Rattle.mark_rules.specs.Marks.{clean_marks, edited_marks}
use Rattle.bracket_rules.specs.Table.{standard_table}
use Rattle.bracket_rules.specs.TextRows.{text_rows}
use Rattle.bracket_tree_rules.specs.Tree.{Tree, text, two, tree_rows}
use Rattle.bracket_tree_rules.specs.Weights.{tree_weights}
use Rattle.line_states.specs.Lines.{text_weights, new_lines}
use Rattle.node_reuse.specs.Texts.{row_weights}
use Rattle.node_reuse.specs.Reader.{unasked}
use Rattle.node_reuse.specs.Paying.{new_runs, runs_ahead}

-- lines 2 and 3 of five became three lines
edited_lines_are_read : new_lines (edited_marks 2 2 3 (clean_marks 5)) ≡ 2 ∷ 3 ∷ 4 ∷ []
edited_lines_are_read = refl

kept_lines_are_not_read : new_lines (clean_marks 5) ≡ []
kept_lines_are_not_read = refl

-- before line 2 is scanned, and after it
all_new_lines_are_left : unasked (edited_marks 2 2 3 (clean_marks 5)) (length_of 1 0) false ≡ 2 ∷ 3 ∷ 4 ∷ []
all_new_lines_are_left = refl

a_scanned_line_is_not_asked_for_again : unasked (edited_marks 2 2 3 (clean_marks 5)) (length_of 1 7) true ≡ 3 ∷ 4 ∷ []
a_scanned_line_is_not_asked_for_again = refl

-- a run may have any number of lines
new_lines_one_after_another_are_one_run : new_runs (edited_marks 2 2 3 (clean_marks 5)) ≡ 1
new_lines_one_after_another_are_one_run = refl

a_run_that_is_known_is_not_asked_for : runs_ahead (edited_marks 2 2 3 (clean_marks 5)) 1 4 ≡ 0
a_run_that_is_known_is_not_asked_for = refl

-- `ab`, a break and `c`
a_break_weighs_one : text_weights ((97 ∷ 98 ∷ []) ∷ (99 ∷ []) ∷ []) ≡ 3 ∷ 1 ∷ []
a_break_weighs_one = refl

-- `a)b`, a break and `c`: the break includes the `b`
a_break_holds_what_stands_before_it : row_weights (text_rows standard_table ((97 ∷ 41 ∷ 98 ∷ []) ∷ (99 ∷ []) ∷ [])) ≡ 3 ∷ 1 ∷ []
a_break_holds_what_stands_before_it = refl

-- `ab` and a break, as a text followed by a break
abbrev loose : Tree
loose = two (text (length_of 0 2)) (text (length_of 1 0))

-- rows do not show that text: they are those of a break alone
rows_do_not_tell_it : tree_rows loose ≡ text_rows standard_table ([] ∷ [] ∷ [])
rows_do_not_tell_it = refl

it_is_heavier_than_they_tell : tree_weights loose ≡ 3 ∷ 0 ∷ []
it_is_heavier_than_they_tell = refl

the_lines_may_weigh_less : text_weights ([] ∷ [] ∷ []) ≡ 1 ∷ 0 ∷ []
the_lines_may_weigh_less = refl
