-- Scanned lines have the rows of the text that was scanned.
use Rattle.std.proofs.Common.{◌≡◌, ℕ, ◌-◌, ◌<◌, true, List, [], ◌∷◌, length, refl, ap, sym, ◌∙◌, subst, arith}
use Rattle.bracket_rules.specs.declared.Token.{Token}
use Rattle.bracket_rules.specs.Table.{Table, is_table, token, tokens_of, AreInLine}
use Rattle.bracket_rules.specs.Rows.{Row, row}
use Rattle.bracket_rules.specs.TextRows.{text_rows}
use Rattle.bracket_rules.proofs.Tokens.{tokens_of-in_line}
use Rattle.bracket_nodes.specs.declared.scanned.ScannedLine.{ScannedLine}
use Rattle.bracket_nodes.specs.ScannedLines.{AreLines, AreScans, moved_back, rows_of, scanned_rows}
use Rattle.bracket_nodes.proofs.ScannedSteps.{HasRow-before, before_more}

pub moved_back-zero : (ts : List Token) → moved_back 0 ts ≡ ts
moved_back-zero [] = refl
moved_back-zero (t ∷ ts) =
    let at : t.at - 0 ≡ t.at = omega arith in
    let here : token (t.at - 0) t.len t.kind t.opening ≡ t = ap (λ (n : ℕ). token n t.len t.kind t.opening) at in
    let rest : moved_back 0 ts ≡ ts = moved_back-zero ts in
    cc

rows_of-text : (table : Table) (x : List ℕ) (xs : List (List ℕ)) (l : ScannedLine) (lines : List ScannedLine) → AreScans table (x ∷ xs) (l ∷ lines)
    → rows_of (l ∷ lines) ≡ text_rows table (x ∷ xs)
rows_of-text table x [] l [] h =
    let tokens : moved_back 0 l.tokens.items ≡ tokens_of table x = moved_back-zero l.tokens.items ∙ h.0 in
    let columns : l.columns - 0 ≡ length x = let same : l.columns ≡ length x = h.1 in omega arith in
    ap (λ (ts : List Token). row ts (l.columns - 0) ∷ []) tokens ∙ ap (λ (n : ℕ). row (tokens_of table x) n ∷ []) columns
rows_of-text table x [] l (m ∷ lines) h = elim h.2 [ ]
rows_of-text table x (y ∷ xs) l [] h = elim h.2 [ ]
rows_of-text table x (y ∷ xs) l (m ∷ lines) h =
    let tokens : moved_back 0 l.tokens.items ≡ tokens_of table x = moved_back-zero l.tokens.items ∙ h.0 in
    before_more 0 l.tokens.items l.columns (rows_of (m ∷ lines)) (HasRow-before 0 m.tokens.items m.columns (rows_of lines))
    ∙ ap (λ (ts : List Token). row ts 0 ∷ rows_of (m ∷ lines)) tokens
    ∙ ap (λ (rows : List Row). row (tokens_of table x) 0 ∷ rows) (rows_of-text table y xs m lines h.2)

pub scanned_rows-text : (table : Table) (xs : List (List ℕ)) (lines : List ScannedLine) → 0 < length xs → AreScans table xs lines
    → scanned_rows lines ≡ text_rows table xs
scanned_rows-text table [] lines some h = absurd (omega arith)
scanned_rows-text table (x ∷ xs) [] some h = elim h [ ]
scanned_rows-text table (x ∷ xs) (l ∷ lines) some h = rows_of-text table x xs l lines h

pub AreLines-from_scans : (table : Table) (xs : List (List ℕ)) (lines : List ScannedLine) → is_table table ≡ true → AreScans table xs lines → AreLines lines
AreLines-from_scans table [] [] t h = tt
AreLines-from_scans table [] (l ∷ lines) t h = elim h [ ]
AreLines-from_scans table (x ∷ xs) [] t h = elim h [ ]
AreLines-from_scans table (x ∷ xs) (l ∷ lines) t h = (
  subst (λ (n : ℕ). AreInLine 0 n l.tokens.items) (sym h.1)
      (subst (λ (ts : List Token). AreInLine 0 (length x) ts) (sym h.0) (tokens_of-in_line table x t)),
  AreLines-from_scans table xs lines t h.2,
)
