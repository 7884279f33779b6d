-- Glueing rows is an associative operation with a unit; lengths add up, and the brackets follow one another.
use Rattle.std.proofs.Common.{◌≡◌, ℕ, zero, suc, ◌+◌, Bool, true, false, Option, Some, None, List, [], ◌∷◌, ◌++◌, refl, ap, sym, ◌∙◌, arith, append_assoc, add_assoc, add-zero, zero-add}
use Rattle.std.proofs.lemmas.List.{append-nil}
use Rattle.std.proofs.lemmas.Grind.{common_steps}
use Rattle.text_lengths.specs.declared.Length.{Length}
use Rattle.text_lengths.specs.Length.{length_of, length_plus}
use Rattle.text_lengths.proofs.Lengths.{same_length, none_plus, length_plus_assoc}
use Rattle.bracket_rules.specs.declared.Token.{Token}
use Rattle.bracket_rules.specs.Table.{token}
use Rattle.bracket_rules.specs.Parse.{Bracket, bracket}
use Rattle.bracket_rules.specs.Rows.{Row, row, bracket_at, brackets_at, next_line, placed}
use Rattle.bracket_rules.specs.TextRows.{HasRow, empty_row, shifted, joined_row, glue, rows_length}
use Rattle.bracket_tree_rules.specs.Tree.{Tree, text, pair, stray, capped, nothing, two, three, wide, width_of, tree_length, tree_tokens, tree_rows, gap_rows, bracket_row, closing_rows, closing_brackets, inside_start, inside_end}

-- ---- brackets further on

shifted-zero : (ts : List Token) → shifted 0 ts ≡ ts
shifted-zero [] = refl
shifted-zero (t ∷ ts) =
    let here : token (0 + t.at) t.len t.kind t.opening ≡ t =
    ap (λ (n : ℕ). token n t.len t.kind t.opening) (zero-add t.at) in
    let rest : shifted 0 ts ≡ ts = shifted-zero ts in
    cc

shifted-append : (n : ℕ) (ts us : List Token) → shifted n (ts ++ us) ≡ shifted n ts ++ shifted n us
shifted-append n [] us = refl
shifted-append n (t ∷ ts) us = let rest : shifted n (ts ++ us) ≡ shifted n ts ++ shifted n us = shifted-append n ts us in cc

shifted-shifted : (m n : ℕ) (ts : List Token) → shifted m (shifted n ts) ≡ shifted (m + n) ts
shifted-shifted m n [] = refl
shifted-shifted m n (t ∷ ts) =
    let here : token (m + (n + t.at)) t.len t.kind t.opening ≡ token ((m + n) + t.at) t.len t.kind t.opening =
    ap (λ (k : ℕ). token k t.len t.kind t.opening) (sym (add_assoc m n t.at)) in
    let rest : shifted m (shifted n ts) ≡ shifted (m + n) ts = shifted-shifted m n ts in
    cc

-- ---- the unit

pub HasRow-glue : (a b : List Row) → HasRow a → HasRow (glue a b)
HasRow-glue [] b h = elim h [ ]
HasRow-glue (r ∷ []) [] h = tt
HasRow-glue (r ∷ []) (s ∷ b) h = tt
HasRow-glue (r ∷ x ∷ a) b h = tt

same_row : (r : Row) → (ts : List Token) (n : ℕ) → ts ≡ r.brackets → n ≡ r.columns → row ts n ≡ r
same_row r ts n p q =
    let with_brackets : List Token → Row = λ x. row x n in
    ap with_brackets p ∙ ap (row r.brackets) q

empty_after : (r : Row) → joined_row r empty_row [] ≡ r
empty_after r = same_row r _ _ (append-nil r.brackets) (add-zero r.columns)

empty_before : (s : Row) (b : List Row) → joined_row empty_row s b ≡ s
empty_before s [] = same_row s _ _ (shifted-zero s.brackets) (zero-add s.columns)
empty_before s (x ∷ b) = same_row s _ _ (shifted-zero s.brackets) refl

pub glue_empty : (a : List Row) → HasRow a → glue a (empty_row ∷ []) ≡ a
glue_empty [] h = elim h [ ]
glue_empty (r ∷ []) h = ap (λ (x : Row). x ∷ []) (empty_after r)
glue_empty (r ∷ x ∷ a) h = ap (λ (y : List Row). r ∷ y) (glue_empty (x ∷ a) tt)

pub empty_glue : (a : List Row) → HasRow a → glue (empty_row ∷ []) a ≡ a
empty_glue [] h = elim h [ ]
empty_glue (s ∷ b) h = ap (λ (x : Row). x ∷ b) (empty_before s b)

-- ---- associativity

joined_row-joined : (r s u : Row) (b : List Row) → joined_row (joined_row r s []) u b ≡ joined_row r (joined_row s u b) b
joined_row-joined r s u [] =
    same_row (joined_row r (joined_row s u []) []) _ _
    (append_assoc r.brackets (shifted r.columns s.brackets) (shifted (r.columns + s.columns) u.brackets)
    ∙ ap (λ (x : List Token). r.brackets ++ (shifted r.columns s.brackets ++ x)) (sym (shifted-shifted r.columns s.columns u.brackets))
    ∙ ap (λ (x : List Token). r.brackets ++ x) (sym (shifted-append r.columns s.brackets (shifted s.columns u.brackets))))
    (add_assoc r.columns s.columns u.columns)
joined_row-joined r s u (x ∷ b) =
    same_row (joined_row r (joined_row s u (x ∷ b)) (x ∷ b)) _ _
    (append_assoc r.brackets (shifted r.columns s.brackets) (shifted (r.columns + s.columns) u.brackets)
    ∙ ap (λ (x : List Token). r.brackets ++ (shifted r.columns s.brackets ++ x)) (sym (shifted-shifted r.columns s.columns u.brackets))
    ∙ ap (λ (x : List Token). r.brackets ++ x) (sym (shifted-append r.columns s.brackets (shifted s.columns u.brackets))))
    refl

glue-under : (r : Row) (m c : List Row) → HasRow m → glue (r ∷ m) c ≡ r ∷ glue m c
glue-under r [] c h = elim h [ ]
glue-under r (x ∷ m) c h = refl

joined_row-more : (r s : Row) (m n : List Row) → HasRow m → HasRow n → joined_row r s m ≡ joined_row r s n
joined_row-more r s [] n h k = elim h [ ]
joined_row-more r s (x ∷ m) [] h k = elim k [ ]
joined_row-more r s (x ∷ m) (y ∷ n) h k = refl

pub glue_assoc : (a b c : List Row) → glue (glue a b) c ≡ glue a (glue b c)
glue_assoc [] b c = refl
glue_assoc (r ∷ []) [] c = refl
glue_assoc (r ∷ []) (s ∷ []) [] = refl
glue_assoc (r ∷ []) (s ∷ []) (u ∷ c) = ap (λ (x : Row). x ∷ c) (joined_row-joined r s u c)
glue_assoc (r ∷ []) (s ∷ y ∷ b) c =
    ap (λ (x : Row). x ∷ glue (y ∷ b) c)
    (joined_row-more r s (y ∷ b) (glue (y ∷ b) c) tt (HasRow-glue (y ∷ b) c tt))
glue_assoc (r ∷ x ∷ a) b c =
    glue-under r (glue (x ∷ a) b) c (HasRow-glue (x ∷ a) b tt) ∙ ap (λ (y : List Row). r ∷ y) (glue_assoc (x ∷ a) b c)

-- ---- lengths

rows_length-more : (r : Row) (m : List Row) → HasRow m → rows_length (r ∷ m) ≡ length_of (suc (rows_length m).lines) (rows_length m).columns
rows_length-more r [] h = elim h [ ]
rows_length-more r (x ∷ m) h = refl

pub rows_length-glue : (a b : List Row) → HasRow b → rows_length (glue a b) ≡ length_plus (rows_length a) (rows_length b)
rows_length-glue [] b h = sym (none_plus (rows_length b))
rows_length-glue (r ∷ []) [] h = elim h [ ]
rows_length-glue (r ∷ []) (s ∷ []) h = refl
rows_length-glue (r ∷ []) (s ∷ x ∷ b) h = same_length _ _ (grind (arith, common_steps)) (grind (arith, common_steps))
rows_length-glue (r ∷ x ∷ a) b h =
    let rest = rows_length-glue (x ∷ a) b h in
    let more = rows_length-more r (glue (x ∷ a) b) (HasRow-glue (x ∷ a) b tt) in
    let lines : (rows_length (glue (x ∷ a) b)).lines ≡ (length_plus (rows_length (x ∷ a)) (rows_length b)).lines = ap (λ (l : Length). l.lines) rest in
    let columns : (rows_length (glue (x ∷ a) b)).columns ≡ (length_plus (rows_length (x ∷ a)) (rows_length b)).columns = ap (λ (l : Length). l.columns) rest in
    more ∙ same_length _ _ (grind (arith, common_steps)) (grind (arith, common_steps))

-- ---- brackets at their places

brackets_at-append : (p : Length) (ts us : List Token) → brackets_at p (ts ++ us) ≡ brackets_at p ts ++ brackets_at p us
brackets_at-append p [] us = refl
brackets_at-append p (t ∷ ts) us =
    let rest : brackets_at p (ts ++ us) ≡ brackets_at p ts ++ brackets_at p us = brackets_at-append p ts us in cc

brackets_at-shifted : (p : Length) (n : ℕ) (ts : List Token) → brackets_at p (shifted n ts) ≡ brackets_at (length_of p.lines (p.columns + n)) ts
brackets_at-shifted p n [] = refl
brackets_at-shifted p n (t ∷ ts) =
    let here : bracket_at p (token (n + t.at) t.len t.kind t.opening) ≡ bracket_at (length_of p.lines (p.columns + n)) t =
    ap (λ (k : ℕ). bracket (length_of p.lines k) t.len t.kind t.opening) (sym (add_assoc p.columns n t.at)) in
    let rest : brackets_at p (shifted n ts) ≡ brackets_at (length_of p.lines (p.columns + n)) ts = brackets_at-shifted p n ts in
    cc

placed-joined : (p : Length) (r s : Row) (b : List Row)
    → brackets_at p (joined_row r s b).brackets ≡ brackets_at p r.brackets ++ brackets_at (length_of p.lines (p.columns + r.columns)) s.brackets
placed-joined p r s [] =
    brackets_at-append p r.brackets (shifted r.columns s.brackets)
    ∙ ap (λ (x : List Bracket). brackets_at p r.brackets ++ x) (brackets_at-shifted p r.columns s.brackets)
placed-joined p r s (x ∷ b) =
    brackets_at-append p r.brackets (shifted r.columns s.brackets)
    ∙ ap (λ (x : List Bracket). brackets_at p r.brackets ++ x) (brackets_at-shifted p r.columns s.brackets)

pub placed-glue : (p : Length) (a b : List Row) → HasRow a → placed p (glue a b) ≡ placed p a ++ placed (length_plus p (rows_length a)) b
placed-glue p [] b h = elim h [ ]
placed-glue p (r ∷ []) [] h = sym (append-nil _)
placed-glue p (r ∷ []) (s ∷ b) h =
    let there : length_plus p (length_of 0 r.columns) ≡ length_of p.lines (p.columns + r.columns) =
    same_length _ _ (grind arith) (grind arith) in
    let before = brackets_at p r.brackets in
    let after = brackets_at (length_of p.lines (p.columns + r.columns)) s.brackets in
    let rest = placed (next_line p) b in
    ap (λ (x : List Bracket). x ++ rest) (placed-joined p r s b)
    ∙ append_assoc before after rest
    ∙ ap (λ (x : List Bracket). before ++ x) (sym (ap (λ (q : Length). placed q (s ∷ b)) there))
    ∙ ap (λ (x : List Bracket). x ++ placed (length_plus p (length_of 0 r.columns)) (s ∷ b)) (sym (append-nil before))
placed-glue p (r ∷ x ∷ a) b h =
    let rest = placed-glue (next_line p) (x ∷ a) b tt in
    let there : length_plus (next_line p) (rows_length (x ∷ a)) ≡ length_plus p (rows_length (r ∷ x ∷ a)) =
    same_length _ _ (grind (arith, common_steps)) (grind (arith, common_steps)) in
    ap (λ (y : List Bracket). brackets_at p r.brackets ++ y) (rest ∙ ap (λ (q : Length). placed (next_line p) (x ∷ a) ++ placed q b) there)
    ∙ sym (append_assoc (brackets_at p r.brackets) (placed (next_line p) (x ∷ a)) (placed (length_plus p (rows_length (r ∷ x ∷ a))) b))

-- ---- the rows of a tree

HasRow-gap_rows : (lines columns : ℕ) → HasRow (gap_rows lines columns)
HasRow-gap_rows zero columns = tt
HasRow-gap_rows (suc lines) columns = tt

HasRow-closing_rows : (kind : ℕ) (c : Option ℕ) → HasRow (closing_rows kind c)
HasRow-closing_rows kind None = tt
HasRow-closing_rows kind (Some w) = tt

pub HasRow-tree_rows : (t : Tree) → HasRow (tree_rows t)
HasRow-tree_rows (text l) = HasRow-gap_rows l.lines l.columns
HasRow-tree_rows (pair k o i c) = HasRow-glue (glue (bracket_row k o true) (tree_rows i)) (closing_rows k c) (HasRow-glue (bracket_row k o true) (tree_rows i) tt)
HasRow-tree_rows (stray k w) = tt
HasRow-tree_rows (capped k w) = tt
HasRow-tree_rows nothing = tt
HasRow-tree_rows (two a b) = HasRow-glue (tree_rows a) (tree_rows b) (HasRow-tree_rows a)
HasRow-tree_rows (three a b c) = HasRow-glue (glue (tree_rows a) (tree_rows b)) (tree_rows c) (HasRow-glue (tree_rows a) (tree_rows b) (HasRow-tree_rows a))

rows_length-gap : (lines columns : ℕ) → rows_length (gap_rows lines columns) ≡ length_of lines columns
rows_length-gap zero columns = refl
rows_length-gap (suc lines) columns =
    rows_length-more empty_row (gap_rows lines columns) (HasRow-gap_rows lines columns)
    ∙ ap (λ (l : Length). length_of (suc l.lines) l.columns) (rows_length-gap lines columns)

rows_length-closing : (kind : ℕ) (c : Option ℕ) → rows_length (closing_rows kind c) ≡ wide (width_of c)
rows_length-closing kind None = refl
rows_length-closing kind (Some w) = refl

pub rows_length-tree : (t : Tree) → rows_length (tree_rows t) ≡ tree_length t
rows_length-tree (text l) = rows_length-gap l.lines l.columns
rows_length-tree (pair k o i c) =
    let inner = rows_length-glue (bracket_row k o true) (tree_rows i) (HasRow-tree_rows i) in
    let outer = rows_length-glue (glue (bracket_row k o true) (tree_rows i)) (closing_rows k c) (HasRow-closing_rows k c) in
    let inside = rows_length-tree i in
    let closing = rows_length-closing k c in
    cc
rows_length-tree (stray k w) = refl
rows_length-tree (capped k w) = refl
rows_length-tree nothing = refl
rows_length-tree (two a b) =
    let both = rows_length-glue (tree_rows a) (tree_rows b) (HasRow-tree_rows b) in
    let first = rows_length-tree a in
    let second = rows_length-tree b in
    cc
rows_length-tree (three a b c) =
    let both = rows_length-glue (tree_rows a) (tree_rows b) (HasRow-tree_rows b) in
    let all = rows_length-glue (glue (tree_rows a) (tree_rows b)) (tree_rows c) (HasRow-tree_rows c) in
    let first = rows_length-tree a in
    let second = rows_length-tree b in
    let third = rows_length-tree c in
    cc

placed-gap : (p : Length) (lines columns : ℕ) → placed p (gap_rows lines columns) ≡ []
placed-gap p zero columns = refl
placed-gap p (suc lines) columns = placed-gap (next_line p) lines columns

pub placed-bracket : (p : Length) (k w : ℕ) (opening : Bool) → placed p (bracket_row k w opening) ≡ bracket p w k opening ∷ []
placed-bracket p k w opening =
    ap (λ (n : ℕ). bracket (length_of p.lines n) w k opening ∷ []) (add-zero p.columns)

placed-closing : (p : Length) (k : ℕ) (c : Option ℕ) → placed p (closing_rows k c) ≡ closing_brackets p k c
placed-closing p k None = refl
placed-closing p k (Some w) = placed-bracket p k w false

pub placed-tree : (p : Length) (t : Tree) → placed p (tree_rows t) ≡ tree_tokens p t
placed-tree p (text l) = placed-gap p l.lines l.columns
placed-tree p (pair k o i c) =
    let inner = placed-glue p (bracket_row k o true) (tree_rows i) tt in
    let outer = placed-glue p (glue (bracket_row k o true) (tree_rows i)) (closing_rows k c) (HasRow-glue (bracket_row k o true) (tree_rows i) tt) in
    let first = placed-bracket p k o true in
    let inside = placed-tree (inside_start p o) i in
    let closing = placed-closing (inside_end p o i) k c in
    let in_length = rows_length-glue (bracket_row k o true) (tree_rows i) (HasRow-tree_rows i) in
    let i_length = rows_length-tree i in
    let place = length_plus_assoc p (wide o) (tree_length i) in
    cc
placed-tree p (stray k w) = placed-bracket p k w false
placed-tree p (capped k w) = placed-bracket p k w true
placed-tree p nothing = refl
placed-tree p (two a b) =
    let both = placed-glue p (tree_rows a) (tree_rows b) (HasRow-tree_rows a) in
    let first = placed-tree p a in
    let second = placed-tree (length_plus p (tree_length a)) b in
    let a_length = rows_length-tree a in
    cc
placed-tree p (three a b c) =
    let both = placed-glue p (tree_rows a) (tree_rows b) (HasRow-tree_rows a) in
    let all = placed-glue p (glue (tree_rows a) (tree_rows b)) (tree_rows c) (HasRow-glue (tree_rows a) (tree_rows b) (HasRow-tree_rows a)) in
    let first = placed-tree p a in
    let second = placed-tree (length_plus p (tree_length a)) b in
    let third = placed-tree (length_plus (length_plus p (tree_length a)) (tree_length b)) c in
    let a_length = rows_length-tree a in
    let b_length = rows_length-tree b in
    let ab_length = rows_length-glue (tree_rows a) (tree_rows b) (HasRow-tree_rows b) in
    let place = length_plus_assoc p (tree_length a) (tree_length b) in
    let order = append_assoc (tree_tokens p a) (tree_tokens (length_plus p (tree_length a)) b) (tree_tokens (length_plus (length_plus p (tree_length a)) (tree_length b)) c) in
    cc
