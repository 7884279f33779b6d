-- The weight of a tree according to its rows: in a kept line the tree of an old text weighs at most what the current
-- rows show, and rows show at most the bounds for the lines of a text.
use Rattle.std.proofs.Common.{◌≡◌, ℕ, zero, suc, ◌+◌, ◌-◌, ◌<◌, ◌≤◌, true, List, [], ◌∷◌, length, drop, refl, ap, sym, ◌∙◌, subst, arith}
use Rattle.std.specs.Prelude.{slice_index, slice_index_or}
use Rattle.text_lengths.specs.declared.Length.{Length}
use Rattle.text_lengths.specs.Length.{length_of, no_length}
use Rattle.bracket_rules.specs.declared.Token.{Token}
use Rattle.bracket_rules.specs.Rows.{Row, next_line}
use Rattle.bracket_rules.specs.Table.{is_table, AreInLine}
use Rattle.hiding_rules.specs.declared.LineState.{LineState}
use Rattle.hiding_rules.specs.declared.LineState.TheVariants.{Code}
use Rattle.hiding_rules.specs.Hidden.{Scanner, hidden_scan}
use Rattle.hiding_rules.specs.States.{line_states}
use Rattle.hiding_rules.specs.Rows.{lines_by, broken, hidden_rows}
use Rattle.hiding_rules.proofs.InLine.{hidden_tokens_in_line}
use Rattle.hiding_rules.proofs.Rows.{length-states_from}
use Rattle.bracket_tree_rules.specs.Tree.{Tree, tree_length, tree_rows, IsTree}
use Rattle.bracket_tree_rules.specs.Weights.{tree_weights, AreCovered}
use Rattle.bracket_tree_rules.specs.Leaves.{Leaf, leaves, weight_from, weights_from, line_weight}
use Rattle.bracket_tree_rules.proofs.LineWeights.{AreCovered-at, length-tree_weights}
use Rattle.bracket_tree_rules.proofs.PartedLeaves.{lines_weigh}
use Rattle.mark_rules.specs.declared.Mark.{Mark}
use Rattle.mark_rules.specs.declared.Mark.TheVariants.{Kept, New}
use Rattle.reuse_rules.specs.Agreement.{Alike, Agrees}
use Rattle.line_states.specs.Lines.{text_weights}
use Rattle.node_reuse.specs.Texts.{brackets_end, row_weights, IsTight, IsLightBy}

-- ---- the weights of rows

pub length-row_weights : (rows : List Row) → length (row_weights rows) ≡ length rows
length-row_weights [] = refl
length-row_weights (r ∷ []) = refl
length-row_weights (r ∷ s ∷ rows) = ap suc (length-row_weights (s ∷ rows))

-- the weight of row i is that of the first of the rows from i on
row_weight-at : (rows : List Row) (i : ℕ) → slice_index (row_weights rows) i ≡ slice_index (row_weights (drop i rows)) 0
row_weight-at rows zero = refl
row_weight-at [] (suc i) = refl
row_weight-at (r ∷ []) (suc zero) = refl
row_weight-at (r ∷ []) (suc (suc i)) = refl
row_weight-at (r ∷ s ∷ rows) (suc i) = row_weight-at (s ∷ rows) i

alike_weight : (a b : List Row) → Alike 1 a b → slice_index (row_weights a) 0 ≡ slice_index (row_weights b) 0
alike_weight [] b h = elim h [ ]
alike_weight (r ∷ a) [] h = elim h [ ]
alike_weight (r ∷ []) (s ∷ []) h = ap (λ (x : Row). x.columns) h.0
alike_weight (r ∷ []) (s ∷ y ∷ b) h = elim h.1.0 [ ]
alike_weight (r ∷ x ∷ a) (s ∷ []) h = elim h.1.0 [ ]
alike_weight (r ∷ x ∷ a) (s ∷ y ∷ b) h = ap (λ (z : Row). brackets_end 0 z.brackets + 1) h.0

-- ---- lines of a tree

weights_from-at : (line lines j : ℕ) (ls : List Leaf) → j ≤ lines → slice_index (weights_from (length_of line 0) lines ls) j ≡ weight_from (length_of (line + j) 0) ls
weights_from-at line zero zero ls h = let at : line ≡ line + 0 = omega arith in ap (λ (n : ℕ). weight_from (length_of n 0) ls) at
weights_from-at line zero (suc j) ls h = absurd (omega arith)
weights_from-at line (suc lines) zero ls h = let at : line ≡ line + 0 = omega arith in ap (λ (n : ℕ). weight_from (length_of n 0) ls) at
weights_from-at line (suc lines) (suc j) ls h =
    let at : suc line + j ≡ line + suc j = omega arith in
    weights_from-at (suc line) lines j ls (omega arith) ∙ ap (λ (n : ℕ). weight_from (length_of n 0) ls) at

line_weighs : (t : Tree) (j : ℕ) → IsTree t → j ≤ (tree_length t).lines → slice_index (tree_weights t) j ≡ line_weight t j
line_weighs t j h k =
    let at : 0 + j ≡ j = omega arith in
    ap (λ (ws : List ℕ). slice_index ws j) (sym (lines_weigh t h)) ∙ weights_from-at 0 (tree_length t).lines j (leaves no_length t) k
    ∙ ap (λ (n : ℕ). line_weight t n) at

length-weights_from : (q : Length) (lines : ℕ) (ls : List Leaf) → length (weights_from q lines ls) ≡ suc lines
length-weights_from q zero ls = refl
length-weights_from q (suc lines) ls = ap suc (length-weights_from (next_line q) lines ls)

-- a line of a tree with tight breaks weighs at most what its row shows
tight_line : (t : Tree) (line : ℕ) → IsTree t → IsTight t → line < length (tree_rows t) → line_weight t line ≤ slice_index (row_weights (tree_rows t)) line
tight_line t line h tight inside =
    let counted = length-tree_weights t in
    let tall = ap length (lines_weigh t h) in
    let rows = length-weights_from no_length (tree_length t).lines (leaves no_length t) in
    let below : slice_index (tree_weights t) line ≤ slice_index (row_weights (tree_rows t)) line = AreCovered-at (tree_weights t) (row_weights (tree_rows t)) line tight in
    subst (λ (w : ℕ). w ≤ slice_index (row_weights (tree_rows t)) line) (line_weighs t line h (omega arith)) below

-- ---- kept lines

kept_inside : (marks : List Mark) (n i : ℕ) → slice_index_or marks n New ≡ Kept i → n < length marks
kept_inside [] n i e = absurd cc
kept_inside (m ∷ marks) zero i e = omega arith
kept_inside (m ∷ marks) (suc n) i e = omega (arith, kept_inside marks n i e)

alike_inside : (rows now : List Row) (i : ℕ) → Alike 1 (drop i rows) now → i < length rows
alike_inside [] now zero h = elim h [ ]
alike_inside [] now (suc i) h = elim h [ ]
alike_inside (r ∷ rows) now zero h = omega arith
alike_inside (r ∷ rows) now (suc i) h = omega (arith, alike_inside rows now i h)

pub light_where_agreed : (old : Tree) (marks : List Mark) (now : List Row) → IsTree old → IsTight old → Agrees (tree_rows old) marks now
    → IsLightBy old marks (row_weights now)
light_where_agreed old marks now h tight agrees j line e =
    let at : j + 1 - 1 ≡ j = omega arith in
    let inside : j < length marks = kept_inside marks j (line + 1) (ap (λ (n : ℕ). slice_index_or marks n New) (sym at) ∙ e) in
    let alike : Alike 1 (drop line (tree_rows old)) (drop j now) = agrees.kept j line inside e in
    let same : slice_index (row_weights (tree_rows old)) line ≡ slice_index (row_weights now) j =
    row_weight-at (tree_rows old) line ∙ alike_weight (drop line (tree_rows old)) (drop j now) alike ∙ sym (row_weight-at now j) in
    let below = tight_line old line h tight (alike_inside (tree_rows old) (drop j now) line alike) in
    omega arith

-- ---- lines of a text

brackets_end-within : (column columns : ℕ) (ts : List Token) → AreInLine column columns ts → brackets_end column ts ≤ columns
brackets_end-within column columns [] h = h
brackets_end-within column columns (t ∷ ts) h = brackets_end-within (t.at + t.len) columns ts h.3

line_within : (by : Scanner) (state : LineState) (x : List ℕ) → is_table by.table ≡ true → brackets_end 0 (hidden_scan by state x).tokens ≤ length x
line_within by state x is = brackets_end-within 0 (length x) (hidden_scan by state x).tokens (hidden_tokens_in_line by is state x)

lines_are_covered : (by : Scanner) (states : List LineState) (xs : List (List ℕ)) → is_table by.table ≡ true → length states ≡ length xs
    → AreCovered (row_weights (broken (lines_by by states xs))) (text_weights xs)
lines_are_covered by [] [] is same = tt
lines_are_covered by [] (x ∷ xs) is same = absurd (omega (arith, same))
lines_are_covered by (s ∷ states) [] is same = absurd (omega (arith, same))
lines_are_covered by (s ∷ []) (x ∷ []) is same = (omega arith, tt)
lines_are_covered by (s ∷ []) (x ∷ y ∷ xs) is same = absurd (omega (arith, same))
lines_are_covered by (s ∷ t ∷ states) (x ∷ []) is same = absurd (omega (arith, same))
lines_are_covered by (s ∷ t ∷ []) (x ∷ y ∷ []) is same = (omega (arith, line_within by s x is), lines_are_covered by (t ∷ []) (y ∷ []) is refl)
lines_are_covered by (s ∷ t ∷ []) (x ∷ y ∷ z ∷ xs) is same = absurd (omega (arith, same))
lines_are_covered by (s ∷ t ∷ u ∷ states) (x ∷ y ∷ []) is same = absurd (omega (arith, same))
lines_are_covered by (s ∷ t ∷ u ∷ states) (x ∷ y ∷ z ∷ xs) is same =
    (omega (arith, line_within by s x is), lines_are_covered by (t ∷ u ∷ states) (y ∷ z ∷ xs) is (omega (arith, same)))

pub rows_are_covered : (by : Scanner) (xs : List (List ℕ)) → is_table by.table ≡ true → AreCovered (row_weights (hidden_rows by xs)) (text_weights xs)
rows_are_covered by xs is = lines_are_covered by (line_states by xs) xs is (length-states_from by Code xs)
