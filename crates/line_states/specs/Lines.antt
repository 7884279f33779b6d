-- A text whose lines are asked for, and the numbers of its new lines.
use Rattle.std.specs.Prelude.{◌≡◌, ◌++◌, ℕ, suc, ◌+◌, ◌-◌, List, [], ◌∷◌, length, slice_index_or}
use Rattle.mark_rules.specs.declared.Mark.{Mark}
use Rattle.mark_rules.specs.declared.Mark.TheVariants.{Kept, New}

-- the weight of each line: the number of its units, and 1 more for its break if another line follows
abbrev pub text_weights : List (List ℕ) → List ℕ
text_weights [] = []
text_weights (x ∷ []) = length x ∷ []
text_weights (x ∷ y ∷ lines) = (length x + 1) ∷ text_weights (y ∷ lines)

-- the numbers of the new lines, if the first line has number `n`
abbrev pub new_from : ℕ → List Mark → List ℕ
new_from n [] = []
new_from n (New ∷ marks) = n ∷ new_from (suc n) marks
new_from n (Kept i ∷ marks) = new_from (suc n) marks

-- the numbers of the new lines, counted from 1, in increasing order
abbrev pub new_lines : List Mark → List ℕ
new_lines marks = new_from 1 marks

-- ---- lines that are asked for

-- the contents of a text's lines, and the numbers of the lines asked for so far, in order
pub record LinesState : Type 0 where
  pub contents : List (List ℕ)
  pub asked : List ℕ

-- the content of line n, counted from 1
abbrev pub content_at : ℕ → List (List ℕ) → List ℕ
content_at n contents = slice_index_or contents (n - 1) []

-- the lines asked for are a prefix of `lines`
abbrev pub IsFrontOf : List ℕ → List ℕ → Type 0
IsFrontOf lines asked = (left : List ℕ) × (asked ++ left ≡ lines)

-- the lines asked for since `old` are a prefix of `lines`
abbrev pub AsksFront : List ℕ → List ℕ → List ℕ → Type 0
AsksFront lines old new = IsFrontOf (old ++ lines) new
