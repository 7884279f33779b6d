-- Lines that are scanned one after another.
use Rattle.std.proofs.Common.{◌≡◌, ◌+◌, ◌≤◌, ℕ, true, List, [], ◌∷◌, ◌++◌, length, sum, arith}
use Rattle.std.proofs.lemmas.List.Sums.{sum_by-cons}
use Rattle.bracket_rules.specs.Table.{Table, is_table, AreInLine}
use Rattle.hiding_rules.specs.declared.LineState.{LineState}
use Rattle.hiding_rules.specs.Marks.{Marks}
use Rattle.hiding_rules.specs.Hidden.{scanner, hidden_scan}
use Rattle.hiding_rules.proofs.InLine.{hidden_tokens_in_line}
use Rattle.bracket_nodes.specs.declared.scanned.ScannedLine.{ScannedLine}
use Rattle.bracket_nodes.specs.ScannedLines.{AreLines, scanned_weights}

pub lines_snoc : (lines : List ScannedLine) (l : ScannedLine) → AreLines lines → AreInLine 0 l.columns l.tokens.items → AreLines (lines ++ l ∷ [])
lines_snoc [] l h in_line = (in_line, tt)
lines_snoc (k ∷ lines) l h in_line = (h.0, lines_snoc lines l h.1 in_line)

pub weights_snoc : (lines : List ScannedLine) (l : ScannedLine) → sum (scanned_weights (lines ++ l ∷ [])) ≤ sum (scanned_weights lines) + l.columns + 1
weights_snoc [] l = omega arith
weights_snoc (k ∷ []) l = omega arith
weights_snoc (k ∷ m ∷ lines) l =
    omega (
      arith,
      weights_snoc (m ∷ lines) l,
      sum_by-cons (λ (x : ℕ). x) (k.columns + 1) (scanned_weights ((m ∷ lines) ++ l ∷ [])),
      sum_by-cons (λ (x : ℕ). x) (k.columns + 1) (scanned_weights (m ∷ lines)),
    )

pub scan_in_line : (table : Table) (m : Marks) (state : LineState) (line : List ℕ) → is_table table ≡ true
    → AreInLine 0 (length line) (hidden_scan (scanner table m) state line).tokens
scan_in_line table m state line good = hidden_tokens_in_line (scanner table m) good state line

pub ruleset one_more = (lines_snoc, weights_snoc)
