-- The rows of a text line by line.
use Rattle.std.proofs.Common.{◌≡◌, ℕ, zero, suc, ◌+◌, ◌<◌, List, [], ◌∷◌, length, drop, get_or, refl, ap, ◌∙◌, arith}
use Rattle.bracket_rules.specs.Rows.{Row}
use Rattle.bracket_rules.specs.TextRows.{empty_row}
use Rattle.hiding_rules.specs.declared.LineState.{LineState}
use Rattle.hiding_rules.specs.declared.LineState.TheVariants.{Code}
use Rattle.hiding_rules.specs.Hidden.{Scanner, hidden_scan}
use Rattle.hiding_rules.specs.States.{states_from, line_states}
use Rattle.hiding_rules.specs.Rows.{line_by, lines_by, broken, hidden_rows}

-- ---- rows whose lines have breaks

pub length-broken : (rows : List Row) → length (broken rows) ≡ length rows
length-broken [] = refl
length-broken (r ∷ []) = refl
length-broken (r ∷ s ∷ rows) = ap suc (length-broken (s ∷ rows))

pub drop-broken : (j : ℕ) (rows : List Row) → drop j (broken rows) ≡ broken (drop j rows)
drop-broken zero rows = refl
drop-broken (suc j) [] = refl
drop-broken (suc zero) (r ∷ []) = refl
drop-broken (suc (suc j)) (r ∷ []) = refl
drop-broken (suc j) (r ∷ s ∷ rows) = drop-broken j (s ∷ rows)

-- ---- lines

pub length-states_from : (by : Scanner) (state : LineState) (lines : List (List ℕ)) → length (states_from by state lines) ≡ length lines
length-states_from by state [] = refl
length-states_from by state (x ∷ lines) = ap suc (length-states_from by (hidden_scan by state x).state lines)

pub length-lines_by : (by : Scanner) (states : List LineState) (lines : List (List ℕ)) → length states ≡ length lines
    → length (lines_by by states lines) ≡ length lines
length-lines_by by [] [] same = refl
length-lines_by by [] (x ∷ lines) same = absurd (omega (arith, same))
length-lines_by by (s ∷ states) [] same = absurd (omega (arith, same))
length-lines_by by (s ∷ states) (x ∷ lines) same = ap suc (length-lines_by by states lines (omega (arith, same)))

-- row i is the row of line i with its own state
pub line_by-at : (by : Scanner) (states : List LineState) (lines : List (List ℕ)) (i : ℕ) → length states ≡ length lines → i < length lines
    → get_or (lines_by by states lines) i empty_row ≡ line_by by (get_or states i Code) (get_or lines i [])
line_by-at by [] [] i same within = absurd (omega arith)
line_by-at by [] (x ∷ lines) i same within = absurd (omega (arith, same))
line_by-at by (s ∷ states) [] i same within = absurd (omega arith)
line_by-at by (s ∷ states) (x ∷ lines) zero same within = refl
line_by-at by (s ∷ states) (x ∷ lines) (suc i) same within = line_by-at by states lines i (omega (arith, same)) (omega arith)

pub length-hidden_rows : (by : Scanner) (lines : List (List ℕ)) → length (hidden_rows by lines) ≡ length lines
length-hidden_rows by lines =
    length-broken (lines_by by (line_states by lines) lines) ∙ length-lines_by by (line_states by lines) lines (length-states_from by Code lines)
