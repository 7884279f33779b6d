-- The rows of brackets of a text are as long as the text.
use Rattle.std.proofs.Common.{◌≡◌, ℕ, suc, ◌-◌, List, [], ◌∷◌, length, map, refl, ap, ◌∙◌, arith}
use Rattle.std.proofs.lemmas.List.{length-map}
use Rattle.text_lengths.specs.declared.Length.{Length}
use Rattle.text_lengths.specs.Length.{length_of}
use Rattle.text_rules.specs.Lines.{Line, lines_of, last_content, length_of_lines, text_length}
use Rattle.bracket_rules.specs.TextRows.{rows_length}
use Rattle.hiding_rules.specs.declared.LineState.{LineState}
use Rattle.hiding_rules.specs.declared.LineState.TheVariants.{Code}
use Rattle.hiding_rules.specs.Hidden.{Scanner}
use Rattle.hiding_rules.specs.States.{line_states}
use Rattle.hiding_rules.specs.Rows.{lines_by, broken, hidden_rows}
use Rattle.hiding_rules.proofs.Rows.{length-states_from}
use Rattle.document_rules.specs.Brackets.{line_contents}

one_line_more : (columns count n : ℕ) → suc (count - 1) ≡ n → length_of (suc (count - 1)) columns ≡ length_of n columns
one_line_more columns count n e = ap (λ (k : ℕ). length_of k columns) e

rows_length-lines : (by : Scanner) (states : List LineState) (lines : List Line) → length states ≡ length lines
    → rows_length (broken (lines_by by states (map (λ line. line.content) lines))) ≡ length_of_lines lines
rows_length-lines by [] [] same = refl
rows_length-lines by [] (l ∷ lines) same = absurd (omega (arith, same))
rows_length-lines by (s ∷ states) [] same = absurd (omega (arith, same))
rows_length-lines by (s ∷ []) (l ∷ []) same = refl
rows_length-lines by (s ∷ []) (l ∷ m ∷ lines) same = absurd (omega (arith, same))
rows_length-lines by (s ∷ t ∷ states) (l ∷ []) same = absurd (omega (arith, same))
rows_length-lines by (s ∷ t ∷ []) (l ∷ m ∷ []) same = refl
rows_length-lines by (s ∷ t ∷ []) (l ∷ m ∷ n ∷ lines) same = absurd (omega (arith, same))
rows_length-lines by (s ∷ t ∷ u ∷ states) (l ∷ m ∷ []) same = absurd (omega (arith, same))
rows_length-lines by (s ∷ t ∷ u ∷ states) (l ∷ m ∷ n ∷ lines) same =
    ap (λ (rest : Length). length_of (suc rest.lines) rest.columns)
    (rows_length-lines by (t ∷ u ∷ states) (m ∷ n ∷ lines) (omega (arith, same)))
    ∙ one_line_more (length (last_content (n ∷ lines))) (length (m ∷ n ∷ lines)) (length (l ∷ m ∷ n ∷ lines) - 1) (omega arith)

-- the rows of a text are as long as it is
pub rows_length-text : (by : Scanner) (x : List ℕ) → rows_length (hidden_rows by (line_contents x)) ≡ text_length x
rows_length-text by x =
    rows_length-lines by (line_states by (line_contents x)) (lines_of x)
    (length-states_from by Code (line_contents x) ∙ length-map (lines_of x) (λ line. line.content))
