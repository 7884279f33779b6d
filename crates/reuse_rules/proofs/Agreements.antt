-- Parts taken from an old text are in the current text, as far as its lines are kept.
use Rattle.std.proofs.Common.{◌≡◌, ℕ, zero, suc, ◌-◌, ◌<◌, ◌≤◌, List, [], ◌∷◌, refl, ap, sym, ◌∙◌, subst, arith}
use Rattle.bracket_rules.specs.declared.Token.{Token}
use Rattle.bracket_rules.specs.Rows.{Row, row}
use Rattle.bracket_rules.specs.TextRows.{HasRow, empty_row, joined_row, glue, rows_length}
use Rattle.bracket_tree_rules.specs.Places.{AreBefore, IsBounded, lines_touched, touched}
use Rattle.bracket_tree_rules.proofs.Glue.{HasRow-glue, empty_glue}
use Rattle.reuse_rules.specs.Agreement.{Alike, GoOnAlike}

-- ---- rows of a kept run

GoOnAlike-joined : (r s : Row) (a b : List Row) → GoOnAlike a b → joined_row r s a ≡ joined_row r s b
GoOnAlike-joined r s [] [] h = refl
GoOnAlike-joined r s [] (y ∷ b) h = elim h [ ]
GoOnAlike-joined r s (x ∷ a) [] h = elim h [ ]
GoOnAlike-joined r s (x ∷ a) (y ∷ b) h = refl

HasRow-alike : (a b : List Row) → GoOnAlike a b → HasRow a → HasRow b
HasRow-alike [] b g h = elim h [ ]
HasRow-alike (x ∷ a) [] g h = elim g [ ]
HasRow-alike (x ∷ a) (y ∷ b) g h = tt

-- the rest of the current text after the taken rows
pub record LeftAfter (n : ℕ) (rows rest now : List Row) : Type 0 where
  pub left : List Row
  pub spells : now ≡ glue rows left
  pub has_row : HasRow left
  pub alike : Alike n rest left

no_brackets : (ts : List Token) → AreBefore 0 ts → ts ≡ []
no_brackets [] h = refl
no_brackets (t ∷ ts) h = absurd (let none : t.at < 0 = h.0 in omega arith)

-- the last row, if it has no columns
last_empty : (r : Row) → AreBefore r.columns r.brackets → r.columns ≡ 0 → r ≡ empty_row
last_empty r h e =
    let none : r.brackets ≡ [] = no_brackets r.brackets (subst (λ (n : ℕ). AreBefore n r.brackets) e h) in
    ap (λ (n : ℕ). row r.brackets n) e ∙ ap (λ (ts : List Token). row ts 0) none

taken_row : (n : ℕ) (ts : List Token) (c : ℕ) (rest now : List Row) → AreBefore c ts → HasRow rest → HasRow now
    → lines_touched 0 c ≤ n → Alike n (glue (row ts c ∷ []) rest) now → LeftAfter n (row ts c ∷ []) rest now
taken_row n ts zero rest now b h k t a =
    let is_empty : row ts 0 ≡ empty_row = last_empty (row ts 0) b refl in
    let same : glue (row ts 0 ∷ []) rest ≡ rest = ap (λ (x : Row). glue (x ∷ []) rest) is_empty ∙ empty_glue rest h in
    record {
      left = now;
      spells = sym (ap (λ (x : Row). glue (x ∷ []) now) is_empty ∙ empty_glue now k);
      has_row = k;
      alike = subst (λ (x : List Row). Alike n x now) same a;
    }
taken_row zero ts (suc c) rest now b h k t a = absurd (omega arith)
taken_row (suc n) ts (suc c) [] now b h k t a = elim h [ ]
taken_row (suc n) ts (suc c) (s ∷ rest) [] b h k t a = elim k [ ]
taken_row (suc n) ts (suc c) (s ∷ rest) (x ∷ now) b h k t a = record {
  left = s ∷ now;
  spells = ap (λ (y : Row). y ∷ now) (sym a.0 ∙ GoOnAlike-joined (row ts (suc c)) s rest now a.1.0);
  has_row = tt;
  alike = (refl, a.1);
}

touched-suc : (lines columns : ℕ) → lines_touched (suc lines) columns ≡ suc (lines_touched lines columns)
touched-suc lines zero = refl
touched-suc lines (suc columns) = refl

-- The first rows of an old text are also the first rows of the current text if each line that they touch is alike, and
-- the rest is alike as far as the lines were.
pub taken_again : (n : ℕ) (rows rest now : List Row) → HasRow rows → IsBounded rows → HasRow rest → HasRow now
    → touched (rows_length rows) ≤ n → Alike n (glue rows rest) now → LeftAfter (n - (rows_length rows).lines) rows rest now
taken_again n [] rest now f b h k t a = elim f [ ]
taken_again n (r ∷ []) rest now f b h k t a =
    let none : n ≡ n - 0 = omega arith in
    subst (λ (m : ℕ). LeftAfter m (r ∷ []) rest now) none (taken_row n r.brackets r.columns rest now b h k t a)
taken_again zero (r ∷ x ∷ rows) rest now f b h k t a = absurd (let more = touched-suc (rows_length (x ∷ rows)).lines (rows_length (x ∷ rows)).columns in omega arith)
taken_again (suc n) (r ∷ x ∷ rows) rest [] f b h k t a = elim k [ ]
taken_again (suc n) (r ∷ x ∷ rows) rest (y ∷ now) f b h k t a =
    let within : touched (rows_length (x ∷ rows)) ≤ n =
    let more = touched-suc (rows_length (x ∷ rows)).lines (rows_length (x ∷ rows)).columns in omega arith in
    let more = taken_again n (x ∷ rows) rest now tt b h
    (HasRow-alike (glue (x ∷ rows) rest) now a.1.0 (HasRow-glue (x ∷ rows) rest tt)) within a.1.1 in
    let fewer : n - (rows_length (x ∷ rows)).lines ≡ suc n - suc (rows_length (x ∷ rows)).lines = omega arith in
    record {
      left = more.left;
      spells = ap (λ (z : Row). z ∷ now) (sym a.0) ∙ ap (λ (z : List Row). r ∷ z) more.spells;
      has_row = more.has_row;
      alike = subst (λ (m : ℕ). Alike m rest more.left) fewer more.alike;
    }
