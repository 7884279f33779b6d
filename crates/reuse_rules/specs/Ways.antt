-- The price of a way through the kept lines of a text.
use Rattle.std.specs.Prelude.{◌≡◌, ℕ, suc, ◌+◌, ◌-◌, ◌==◌, if◌then◌else◌, List, [], ◌∷◌, drop, ⊤, refl}
use Rattle.text_lengths.specs.declared.Length.{Length}
use Rattle.text_lengths.specs.Length.{length_of, no_length}
use Rattle.bracket_tree_rules.specs.Tree.{Tree}
use Rattle.mark_rules.specs.declared.Mark.{Mark}
use Rattle.mark_rules.specs.declared.Mark.TheVariants.{Kept, New}
use Rattle.mark_rules.specs.Marks.{kept_run, clean_marks, edited_marks}
use Rattle.reuse_rules.specs.Prices.{Costs, calls, price, two_lines}

-- The price of the way through the old tree from a column of the line that the first of these marks is kept from, to
-- the end of the run of lines with consecutive numbers.
abbrev pub run_price : Costs → Tree → ℕ → ℕ → List Mark → ℕ
run_price costs old line column marks = price costs (length_of line column) (length_of (line + kept_run marks) 0) no_length old

-- the price of the ways through each run of kept lines; a line that is kept as line `next` continues the run before it
abbrev pub runs_price : Costs → Tree → ℕ → List Mark → ℕ
runs_price costs old next [] = 0
runs_price costs old next (New ∷ marks) = runs_price costs old 0 marks
runs_price costs old next (Kept i ∷ marks) =
    (if i == next then 0 else run_price costs old (i - 1) 0 (Kept i ∷ marks)) + runs_price costs old (suc i) marks

-- the price from a column of the first of these lines on
abbrev pub lines_price : Costs → Tree → ℕ → List Mark → ℕ
lines_price costs old column [] = 0
lines_price costs old column (New ∷ marks) = runs_price costs old 0 marks
lines_price costs old column (Kept i ∷ marks) = run_price costs old (i - 1) column (Kept i ∷ marks) + runs_price costs old (suc i) marks

-- the price from a place of the current text on
abbrev pub way_price : Costs → Tree → List Mark → Length → ℕ
way_price costs old marks p = lines_price costs old p.columns (drop p.lines marks)

-- ---- lines that are asked for

-- the line numbers are consecutive
abbrev pub IsOneRun : List ℕ → Type 0
IsOneRun [] = ⊤
IsOneRun (n ∷ []) = ⊤
IsOneRun (n ∷ next ∷ lines) = (next ≡ suc n) × IsOneRun (next ∷ lines)

-- ---- worked examples: `(ab`, a break and `c)`

where_all_is_kept_the_tree_is_one_node : way_price calls two_lines (clean_marks 2) no_length ≡ 2
where_all_is_kept_the_tree_is_one_node = refl

before_a_new_second_line : way_price calls two_lines (edited_marks 2 1 1 (clean_marks 2)) no_length ≡ 7
before_a_new_second_line = refl

behind_a_new_first_line : way_price calls two_lines (edited_marks 1 1 1 (clean_marks 2)) no_length ≡ 5
behind_a_new_first_line = refl
