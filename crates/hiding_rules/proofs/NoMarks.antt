-- Without marks nothing is hidden.
use Rattle.std.proofs.Common.{◌≡◌, ℕ, zero, suc, true, Option, Some, None, List, [], ◌∷◌, length, refl, ap, ◌∙◌, arith, eqb-true}
use Rattle.std.specs.Prelude.{replicate}
use Rattle.bracket_rules.specs.Rows.{Row, row}
use Rattle.bracket_rules.specs.TextRows.{text_rows}
use Rattle.bracket_rules.specs.Table.{Table, longest, units_after_first, tokens_from, tokens_of}
use Rattle.hiding_rules.specs.declared.LineState.TheVariants.{Code}
use Rattle.hiding_rules.specs.Marks.{Marks, marks, no_marks, is_none}
use Rattle.hiding_rules.specs.Hidden.{code, after, scanned, scanned_from, hidden_scan, plain_scanner}
use Rattle.hiding_rules.specs.States.{states_from, line_states}
use Rattle.hiding_rules.specs.Rows.{line_by, lines_by, broken, hidden_rows}

-- marks without any text or quote are equal to `no_marks`
pub none_are_no_marks : (m : Marks) → is_none m ≡ true → m ≡ no_marks
none_are_no_marks m none = of m.line m.block m.quotes none
  where
    of : (line : Option (List ℕ)) (block : Option (List ℕ × List ℕ)) (quotes : List ℕ)
        → is_none (marks line block quotes) ≡ true → marks line block quotes ≡ no_marks
    of None None [] none = refl
    of None None (q ∷ quotes) none = let same : length (q ∷ quotes) ≡ 0 = eqb-true _ _ none in absurd (omega (arith, same))
    of None (Some texts) quotes none = absurd cc
    of (Some text) block quotes none = absurd cc

unmarked_from : (table : Table) (at passed : ℕ) (units : List ℕ)
    → scanned_from (plain_scanner table) at passed code units ≡ scanned (tokens_from table at passed units) Code
unmarked_from table at passed [] = refl
unmarked_from table at (suc passed) (u ∷ units) = unmarked_from table (suc at) passed units
unmarked_from table at zero (u ∷ units) =
    let found = longest at 0 table (u ∷ units) in
    ap (after found) (unmarked_from table (suc at) (units_after_first found) units)

-- the tokens of a line are those of the table, and it ends in code
pub unmarked : (table : Table) (line : List ℕ) → hidden_scan (plain_scanner table) Code line ≡ scanned (tokens_of table line) Code
unmarked table line = unmarked_from table 0 0 line

-- all lines begin in code
pub unmarked_states : (table : Table) (lines : List (List ℕ)) → line_states (plain_scanner table) lines ≡ replicate (length lines) Code
unmarked_states table [] = refl
unmarked_states table (x ∷ lines) =
    let ends = ap (λ s. states_from (plain_scanner table) s.state lines) (unmarked table x) in
    ap (λ states. Code ∷ states) (ends ∙ unmarked_states table lines)

unmarked_line : (table : Table) (x : List ℕ) → line_by (plain_scanner table) Code x ≡ row (tokens_of table x) (length x)
unmarked_line table x = ap (λ s. row s.tokens (length x)) (unmarked table x)

unmarked_lines : (table : Table) (lines : List (List ℕ))
    → broken (lines_by (plain_scanner table) (replicate (length lines) Code) lines) ≡ text_rows table lines
unmarked_lines table [] = refl
unmarked_lines table (x ∷ []) = ap (λ r. r ∷ []) (unmarked_line table x)
unmarked_lines table (x ∷ y ∷ lines) =
    let others = lines_by (plain_scanner table) (replicate (length (y ∷ lines)) Code) (y ∷ lines) in
    ap (λ (r : Row). broken (r ∷ others)) (unmarked_line table x)
    ∙ ap (λ rows. row (tokens_of table x) 0 ∷ rows) (unmarked_lines table (y ∷ lines))

-- the rows of a text are those of the table
pub unmarked_rows : (table : Table) (lines : List (List ℕ)) → hidden_rows (plain_scanner table) lines ≡ text_rows table lines
unmarked_rows table lines =
    ap (λ states. broken (lines_by (plain_scanner table) states lines)) (unmarked_states table lines) ∙ unmarked_lines table lines
