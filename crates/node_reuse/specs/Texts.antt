-- The lines of a current text: bounds for their weight, and which of them are read.
use Rattle.std.specs.Prelude.{ℕ, ◌+◌, ◌-◌, ◌≤◌, List, [], ◌∷◌, slice_index, slice_index_or}
use Rattle.text_lengths.specs.Length.{length_of}
use Rattle.bracket_rules.specs.declared.Token.{Token}
use Rattle.hiding_rules.specs.declared.LineState.TheVariants.{Code}
use Rattle.hiding_rules.specs.Hidden.{Scanner, hidden_scan}
use Rattle.hiding_rules.specs.States.{line_states}
use Rattle.line_states.specs.Lines.{content_at}
use Rattle.bracket_rules.specs.Rows.{Row}
use Rattle.bracket_tree_rules.specs.Tree.{Tree, tree_rows}
use Rattle.bracket_tree_rules.specs.Weights.{tree_weights, AreCovered}
use Rattle.mark_rules.specs.declared.Mark.{Mark}
use Rattle.reuse_rules.specs.Reuse.{IsKeptAs}
use Rattle.bracket_tree_rules.specs.Leaves.{line_weight}

-- the end of the last of these brackets of a line, or this column if there are none
abbrev pub brackets_end : ℕ → List Token → ℕ
brackets_end column [] = column
brackets_end column (t ∷ ts) = brackets_end (t.at + t.len) ts

-- the weight of each line if its break includes the text after its last bracket, as far as the rows show
abbrev pub row_weights : List Row → List ℕ
row_weights [] = []
row_weights (r ∷ []) = r.columns ∷ []
row_weights (r ∷ s ∷ rows) = (brackets_end 0 r.brackets + 1) ∷ row_weights (s ∷ rows)

-- each break in the tree includes the text of its line after the last bracket, so that no separate text is before it
abbrev pub IsTight : Tree → Type 0
IsTight t = AreCovered (tree_weights t) (row_weights (tree_rows t))

-- if line j is kept from an old line, both counted from 0, the old one weighs at most the bound for line j
abbrev pub IsLightBy : Tree → List Mark → List ℕ → Type 0
IsLightBy old marks weights = (j line : ℕ) → IsKeptAs marks (length_of j 0) line → line_weight old line ≤ slice_index weights j

-- the tokens of line n of a text, counted from 1, scanned in the state in which the line before it ended
abbrev pub line_tokens : Scanner → List (List ℕ) → ℕ → List Token
line_tokens by contents n = (hidden_scan by (slice_index_or (line_states by contents) (n - 1) Code) (content_at n contents)).tokens
