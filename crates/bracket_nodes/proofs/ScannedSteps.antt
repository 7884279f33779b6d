-- The steps of a text of scanned lines as a source.
use Rattle.std.proofs.Common.{◌≡◌, ℕ, ◌+◌, ◌-◌, ◌<◌, ◌≤◌, true, false, List, [], ◌∷◌, ◌++◌, length, get_or, take, drop, refl, ap, sym, ◌∙◌, arith, inl, inr}
use Rattle.std.proofs.lemmas.List.{take_rest}
use Rattle.bracket_rules.specs.declared.Token.{Token}
use Rattle.bracket_rules.specs.declared.TheConstants.{MOST_OPEN}
use Rattle.bracket_rules.specs.Table.{token, AreInLine}
use Rattle.bracket_rules.specs.Rows.{Row, row}
use Rattle.bracket_rules.specs.TextRows.{HasRow, empty_row, shifted, glue}
use Rattle.bracket_tree_rules.specs.Tree.{text, wide}
use Rattle.bracket_tree_rules.specs.Told.{Fits}
use Rattle.text_lengths.specs.Length.{length_of}
use Rattle.bracket_tree_rules.proofs.Glue.{empty_glue}
use Rattle.bracket_tree_rules.proofs.LineWeights.{AreCovered-same}
use Rattle.bracket_nodes.specs.declared.scanned.ScannedLine.{ScannedLine}
use Rattle.bracket_nodes.specs.Source.{GivesNode, GivesBracket}
use Rattle.bracket_nodes.specs.ScannedLines.{moved_back, rows_before, rows_of, with_break, scanned_weights, ahead_of}

-- ---- lines

pub line_end : (column columns : ℕ) (ts : List Token) → AreInLine column columns ts → column ≤ columns
line_end column columns [] h = h
line_end column columns (t ∷ ts) h =
    let rest = line_end (t.at + t.len) columns ts h.3 in
    let first : column ≤ t.at = h.0 in
    omega arith

pub AreInLine-from : (c d n : ℕ) (ts : List Token) → c ≤ d → AreInLine d n ts → AreInLine c n ts
AreInLine-from c d n [] h k = omega arith
AreInLine-from c d n (t ∷ ts) h k = let first : d ≤ t.at = k.0 in (omega arith, k.1, k.2, k.3)

pub shifted-moved_back : (c d n : ℕ) (ts : List Token) → c ≤ d → AreInLine d n ts → shifted (d - c) (moved_back d ts) ≡ moved_back c ts
shifted-moved_back c d n [] h k = refl
shifted-moved_back c d n (t ∷ ts) h k =
    let first : d ≤ t.at = k.0 in
    let at : (d - c) + (t.at - d) ≡ t.at - c = omega arith in
    let here : token ((d - c) + (t.at - d)) t.len t.kind t.opening ≡ token (t.at - c) t.len t.kind t.opening =
    ap (λ (m : ℕ). token m t.len t.kind t.opening) at in
    let later : d ≤ t.at + t.len = omega arith in
    let rest : shifted (d - c) (moved_back d ts) ≡ moved_back c ts =
    shifted-moved_back c d n ts h (AreInLine-from d (t.at + t.len) n ts later k.3) in
    cc

pub HasRow-before : (c : ℕ) (ts : List Token) (n : ℕ) (rest : List Row) → HasRow (rows_before c ts n rest)
HasRow-before c ts n [] = tt
HasRow-before c ts n (r ∷ rest) = tt

-- a line that is not the last one ends with its last bracket
pub before_more : (c : ℕ) (ts : List Token) (n : ℕ) (rest : List Row) → HasRow rest → rows_before c ts n rest ≡ row (moved_back c ts) 0 ∷ rest
before_more c ts n [] h = elim h [ ]
before_more c ts n (r ∷ rest) h = refl

pub break_rows : (c n : ℕ) (rest : List Row) → HasRow rest → rows_before c [] n rest ≡ glue (empty_row ∷ empty_row ∷ []) rest
break_rows c n [] h = elim h [ ]
break_rows c n (r ∷ rest) h = ap (λ (y : List Row). empty_row ∷ y) (sym (empty_glue (r ∷ rest) tt))

same_row : (x y : List Token) (m n : ℕ) → x ≡ y → m ≡ n → row x m ≡ row y n
same_row x y m n p q = ap (λ (z : List Token). row z m) p ∙ ap (row y) q

-- the rows from column c on are brackets up to column d, followed by the rows from there on
pub cut : (c d n : ℕ) (front ts all : List Token) (rest : List Row) → c ≤ d → d ≤ n
    → moved_back c all ≡ front ++ shifted (d - c) (moved_back d ts)
    → rows_before c all n rest ≡ glue (row front (d - c) ∷ []) (rows_before d ts n rest)
cut c d n front ts all [] h k e =
    let columns : n - c ≡ (d - c) + (n - d) = omega arith in
    ap (λ (r : Row). r ∷ []) (same_row (moved_back c all) (front ++ shifted (d - c) (moved_back d ts)) (n - c) ((d - c) + (n - d)) e columns)
cut c d n front ts all (r ∷ rest) h k e = ap (λ (x : List Token). row x 0 ∷ r ∷ rest) e

-- the token that starts at column c, and those after it
pub token_parts : (c n : ℕ) (t : Token) (ts : List Token) → t.at ≡ c → AreInLine (c + t.len) n ts
    → moved_back c (t ∷ ts) ≡ token 0 t.len t.kind t.opening ∷ shifted ((c + t.len) - c) (moved_back (c + t.len) ts)
token_parts c n t ts e k =
    let start : t.at - c ≡ 0 = omega arith in
    ap (λ (m : ℕ). token m t.len t.kind t.opening ∷ moved_back c ts) start
    ∙ ap (λ (x : List Token). token 0 t.len t.kind t.opening ∷ x) (sym (shifted-moved_back c (c + t.len) n ts (omega arith) k))

-- ---- what the source gives

pub fits_text : (kinds level lines columns : ℕ) → level ≤ MOST_OPEN → Fits kinds level (text (length_of lines columns))
fits_text kinds level lines columns h = record {
  closed = refl;
  uncapped = refl;
  apart = λ k m. let clash : false ≡ true = m in cc;
  room = omega arith;
}

weight_cut : (c d n : ℕ) (lines : List ScannedLine) → c ≤ d → d ≤ n → (d - c) + with_break (n - d) lines ≤ with_break (n - c) lines
weight_cut c d n [] h k = omega arith
weight_cut c d n (l ∷ lines) h k = omega arith

pub weight_start : (n : ℕ) (lines : List ScannedLine) → with_break (n - 0) lines ≡ with_break n lines
weight_start n [] = omega arith
weight_start n (l ∷ lines) = omega arith

pub gives_gap : (c d n kinds level : ℕ) (ts : List Token) (lines : List ScannedLine) → level ≤ MOST_OPEN → c < d → AreInLine d n ts
    → GivesNode (ahead_of c ts n lines) (ahead_of d ts n lines) kinds level (text (wide (d - c)))
gives_gap c d n kinds level ts lines room h k =
    let below : c ≤ d = omega arith in
    let within = line_end d n ts k in
    let weight = weight_cut c d n lines below within in
    record {
      tree = inl (refl, omega arith);
      some = refl;
      fits = fits_text kinds level 0 (d - c) room;
      spells = cut c d n [] ts ts (rows_of lines) below within (sym (shifted-moved_back c d n ts below k));
      weighs = (omega arith, AreCovered-same (scanned_weights lines));
      rest = HasRow-before d ts n (rows_of lines);
    }

pub gives_bracket : (c n : ℕ) (t : Token) (ts : List Token) (lines : List ScannedLine) → t.at ≤ c → AreInLine c n (t ∷ ts)
    → GivesBracket (ahead_of c (t ∷ ts) n lines) (ahead_of (c + t.len) ts n lines) t.kind t.len t.opening
gives_bracket c n t ts lines h k =
    let first : c ≤ t.at = k.0 in
    let here : t.at ≡ c = omega arith in
    let line : AreInLine (c + t.len) n ts = rw (← here) k.3 in
    let within = line_end (c + t.len) n ts line in
    let below : c ≤ c + t.len = omega arith in
    let width : (c + t.len) - c ≡ t.len = omega arith in
    let weight = weight_cut c (c + t.len) n lines below within in
    record {
      has_kind = k.2;
      wide = k.1;
      spells =
          cut c (c + t.len) n (token 0 t.len t.kind t.opening ∷ []) ts (t ∷ ts) (rows_of lines) below within (token_parts c n t ts here line)
          ∙ ap (λ (m : ℕ). glue (row (token 0 t.len t.kind t.opening ∷ []) m ∷ []) (rows_before (c + t.len) ts n (rows_of lines))) width;
      weighs = (omega arith, AreCovered-same (scanned_weights lines));
      rest = HasRow-before (c + t.len) ts n (rows_of lines);
    }

pub gives_break : (c n kinds level : ℕ) (l : ScannedLine) (lines : List ScannedLine) → level ≤ MOST_OPEN
    → GivesNode (ahead_of c [] n (l ∷ lines)) (ahead_of 0 l.tokens.items l.columns lines) kinds level (text (length_of 1 0))
gives_break c n kinds level l lines room =
    let rest : List Row = rows_of (l ∷ lines) in
    let some : HasRow rest = HasRow-before 0 l.tokens.items l.columns (rows_of lines) in
    record {
      tree = inr (refl, refl);
      some = refl;
      fits = fits_text kinds level 1 0 room;
      spells = break_rows c n rest some;
      weighs = (omega arith, (omega (arith, weight_start l.columns lines), AreCovered-same (scanned_weights lines)));
      rest = some;
    }

-- ---- the next token, and the lines after the next

pub split_first : {X : Type 0} (xs : List X) (d : X) → 1 ≤ length xs → xs ≡ get_or xs 0 d ∷ drop 1 xs
split_first [] d h = absurd (omega arith)
split_first (x ∷ xs) d h = refl

pub at_token : (c n : ℕ) (t : Token) (ts : List Token) → AreInLine c n (t ∷ ts) → AreInLine t.at n (t ∷ ts)
at_token c n t ts h = (omega arith, h.1, h.2, h.3)

pub token_fits : (c n : ℕ) (t : Token) (ts : List Token) → t.at ≤ c → AreInLine c n (t ∷ ts) → c + t.len ≤ n
token_fits c n t ts h k = let first : c ≤ t.at = k.0 in let rest = line_end (t.at + t.len) n ts k.3 in omega arith

-- at the start of the first line no weight has been taken yet
pub whole_weights : (lines : List ScannedLine) (l : ScannedLine) → 0 < length lines → l ≡ get_or lines 0 l
    → with_break (l.columns - 0) (take (length lines - 1) (drop 1 lines)) ∷ scanned_weights (take (length lines - 1) (drop 1 lines)) ≡ scanned_weights lines
whole_weights [] l h e = absurd (omega arith)
whole_weights (m ∷ lines) l h e =
    let after : take (length (m ∷ lines) - 1) lines ≡ lines = take_rest (m ∷ lines) 1 in
    ap (λ (x : List ScannedLine). with_break (l.columns - 0) x ∷ scanned_weights x) after
    ∙ ap (λ (n : ℕ). n ∷ scanned_weights lines) (weight_start l.columns lines)
    ∙ ap (λ (x : ScannedLine). with_break x.columns lines ∷ scanned_weights lines) e
