-- A node or bracket of a tree takes its rows from its place on, and where it ends the next one begins or the tree ends.
use Rattle.std.proofs.Common.{◌≡◌, ℕ, zero, suc, ◌+◌, ◌-◌, ◌<◌, ◌≤◌, ◌⊎◌, Bool, true, false, Option, Some, None, List, [], ◌∷◌, ◌++◌, drop, refl, ap, sym, ◌∙◌, subst, arith, inl, inr}
use Rattle.std.proofs.lemmas.Bool.{lt-ltb, le-ltb, cases_lt}
use Rattle.text_lengths.specs.declared.Length.{Length}
use Rattle.text_lengths.specs.Length.{length_of, no_length, length_plus}
use Rattle.text_lengths.proofs.Lengths.{same_length, none_plus, plus_none, length_plus_assoc}
use Rattle.bracket_rules.specs.declared.Token.{Token}
use Rattle.bracket_rules.specs.Table.{token}
use Rattle.bracket_rules.specs.Parse.{Bracket, bracket}
use Rattle.bracket_rules.specs.Rows.{Row, row}
use Rattle.bracket_rules.specs.TextRows.{HasRow, empty_row, shifted, joined_row, glue, rows_length}
use Rattle.bracket_tree_rules.specs.Tree.{Tree, text, pair, stray, capped, nothing, two, three, wide, tree_length, tree_tokens, tree_rows, gap_rows, bracket_row, closing_rows, closing_brackets, inside_start, inside_end, IsTree, IsWidth}
use Rattle.bracket_tree_rules.specs.Places.{IsHere, HasNode, IsAmong, HasBracket, IsEdge, at_text, at_bracket, at_end, later_brackets, from_column, rows_from, AreBefore, IsBounded}
use Rattle.bracket_tree_rules.proofs.Glue.{HasRow-glue, glue_empty, empty_glue, glue_assoc, rows_length-glue, HasRow-tree_rows, rows_length-tree}

-- ---- rows from a place on

later-earlier : (column : ℕ) (ts us : List Token) → AreBefore column ts → later_brackets column (ts ++ us) ≡ later_brackets column us
later-earlier column [] us h = refl
later-earlier column (t ∷ ts) us h = rw (lt-ltb t.at column h.0) (later-earlier column ts us h.1)

later-shifted : (column : ℕ) (ts : List Token) → later_brackets column (shifted column ts) ≡ ts
later-shifted column [] = refl
later-shifted column (t ∷ ts) =
    let back : column + t.at - column ≡ t.at = omega arith in
    rw (le-ltb (column + t.at) column (omega arith), later-shifted column ts)
    (ap (λ (n : ℕ). token n t.len t.kind t.opening ∷ ts) back)

same_row : (r : Row) (ts : List Token) (n : ℕ) → ts ≡ r.brackets → n ≡ r.columns → row ts n ≡ r
same_row r ts n p q =
    let with_brackets : List Token → Row = λ x. row x n in
    ap with_brackets p ∙ ap (row r.brackets) q

from-joined : (r s : Row) (rest : List Row) → AreBefore r.columns r.brackets
    → from_column r.columns (joined_row r s rest ∷ rest) ≡ s ∷ rest
from-joined r s [] h =
    ap (λ (x : Row). x ∷ []) (same_row s _ _
    (later-earlier r.columns r.brackets (shifted r.columns s.brackets) h ∙ later-shifted r.columns s.brackets)
    (omega arith))
from-joined r s (x ∷ rest) h =
    ap (λ (y : Row). y ∷ x ∷ rest) (same_row s _ _
    (later-earlier r.columns r.brackets (shifted r.columns s.brackets) h ∙ later-shifted r.columns s.brackets)
    refl)

lines-under : (r x : Row) (rows : List Row) → (rows_length (r ∷ x ∷ rows)).lines ≡ suc (rows_length (x ∷ rows)).lines
lines-under r x rows = refl

from-under : (r : Row) (m : List Row) (n column : ℕ) → from_column column (drop (suc n) (r ∷ m)) ≡ from_column column (drop n m)
from-under r m n column = refl

-- after the rows before a place come the rows from that place on
pub rows_from-glue : (before rest : List Row) → HasRow before → HasRow rest → IsBounded before
    → rows_from (rows_length before) (glue before rest) ≡ rest
rows_from-glue [] rest h k b = elim h [ ]
rows_from-glue (r ∷ []) [] h k b = elim k [ ]
rows_from-glue (r ∷ []) (s ∷ rest) h k b = from-joined r s rest b
rows_from-glue (r ∷ x ∷ before) rest h k b = rows_from-glue (x ∷ before) rest tt k b

-- ---- what stands before is bounded

AreBefore-append : (column : ℕ) (ts us : List Token) → AreBefore column ts → AreBefore column us → AreBefore column (ts ++ us)
AreBefore-append column [] us h k = k
AreBefore-append column (t ∷ ts) us h k = (h.0, AreBefore-append column ts us h.1 k)

AreBefore-more : (column more : ℕ) (ts : List Token) → AreBefore column ts → AreBefore (column + more) ts
AreBefore-more column more [] h = tt
AreBefore-more column more (t ∷ ts) h = (let first : t.at < column = h.0 in omega arith, AreBefore-more column more ts h.1)

AreBefore-shifted : (columns column : ℕ) (ts : List Token) → AreBefore column ts → AreBefore (columns + column) (shifted columns ts)
AreBefore-shifted columns column [] h = tt
AreBefore-shifted columns column (t ∷ ts) h = (let first : t.at < column = h.0 in omega arith, AreBefore-shifted columns column ts h.1)

IsBounded-under : (r : Row) (m : List Row) → HasRow m → IsBounded m → IsBounded (r ∷ m)
IsBounded-under r [] h b = elim h [ ]
IsBounded-under r (x ∷ m) h b = b

pub IsBounded-glue : (a b : List Row) → IsBounded a → IsBounded b → IsBounded (glue a b)
IsBounded-glue [] b h k = k
IsBounded-glue (r ∷ []) [] h k = h
IsBounded-glue (r ∷ []) (s ∷ []) h k =
    AreBefore-append (r.columns + s.columns) r.brackets (shifted r.columns s.brackets)
    (AreBefore-more r.columns s.columns r.brackets h) (AreBefore-shifted r.columns s.columns s.brackets k)
IsBounded-glue (r ∷ []) (s ∷ x ∷ b) h k = k
IsBounded-glue (r ∷ x ∷ a) b h k = IsBounded-under r (glue (x ∷ a) b) (HasRow-glue (x ∷ a) b tt) (IsBounded-glue (x ∷ a) b h k)

IsBounded-gap : (lines columns : ℕ) → IsBounded (gap_rows lines columns)
IsBounded-gap zero columns = tt
IsBounded-gap (suc zero) columns = tt
IsBounded-gap (suc (suc lines)) columns = IsBounded-gap (suc lines) columns

pub IsBounded-bracket : (k w : ℕ) (opening : Bool) → 0 < w → IsBounded (bracket_row k w opening)
IsBounded-bracket k w opening h = (h, tt)

IsBounded-closing : (k : ℕ) (c : Option ℕ) → IsWidth c → IsBounded (closing_rows k c)
IsBounded-closing k None h = tt
IsBounded-closing k (Some w) h = IsBounded-bracket k w false h

pub IsBounded-tree : (t : Tree) → IsTree t → IsBounded (tree_rows t)
IsBounded-tree (text l) h = IsBounded-gap l.lines l.columns
IsBounded-tree (pair k o i c) h =
    IsBounded-glue (glue (bracket_row k o true) (tree_rows i)) (closing_rows k c)
    (IsBounded-glue (bracket_row k o true) (tree_rows i) (IsBounded-bracket k o true h.0.opening) (IsBounded-tree i h.1))
    (IsBounded-closing k c h.0.closing)
IsBounded-tree (stray k w) h = IsBounded-bracket k w false h.wide
IsBounded-tree (capped k w) h = IsBounded-bracket k w true h.wide
IsBounded-tree nothing h = tt
IsBounded-tree (two a b) h = IsBounded-glue (tree_rows a) (tree_rows b) (IsBounded-tree a h.1.0) (IsBounded-tree b h.1.1)
IsBounded-tree (three a b c) h =
    IsBounded-glue (glue (tree_rows a) (tree_rows b)) (tree_rows c)
    (IsBounded-glue (tree_rows a) (tree_rows b) (IsBounded-tree a h.1.0) (IsBounded-tree b h.1.1.0))
    (IsBounded-tree c h.1.1.1)

-- ---- rows that stand among others

-- these rows are at place q in the whole, which begins at place p
record Stands (whole : List Row) (p q : Length) (rows : List Row) : Type 0 where
  before : List Row
  after : List Row
  spells : whole ≡ glue before (glue rows after)
  place : length_plus p (rows_length before) ≡ q
  has_before : HasRow before
  has_after : HasRow after
  bounded : IsBounded before

stand_alone : (p : Length) (rows : List Row) → HasRow rows → Stands rows p p rows
stand_alone p rows h = record {
  before = empty_row ∷ [];
  after = empty_row ∷ [];
  spells = sym (empty_glue (glue rows (empty_row ∷ [])) (HasRow-glue rows (empty_row ∷ []) h) ∙ glue_empty rows h);
  place = plus_none p;
  has_before = tt;
  has_after = tt;
  bounded = tt;
}

-- with more rows after the whole
stand_before : (whole more : List Row) (p q : Length) (rows : List Row) → Stands whole p q rows → Stands (glue whole more) p q rows
stand_before whole more p q rows s = record {
  before = s.before;
  after = glue s.after more;
  spells = ap (λ (x : List Row). glue x more) s.spells ∙ glue_assoc s.before (glue rows s.after) more
      ∙ ap (glue s.before) (glue_assoc rows s.after more);
  place = s.place;
  has_before = s.has_before;
  has_after = HasRow-glue s.after more s.has_after;
  bounded = s.bounded;
}

-- with more rows before the whole
stand_behind : (more whole : List Row) (p p' q : Length) (rows : List Row) → HasRow more → IsBounded more → length_plus p (rows_length more) ≡ p'
    → Stands whole p' q rows → Stands (glue more whole) p q rows
stand_behind more whole p p' q rows h b e s = record {
  before = glue more s.before;
  after = s.after;
  spells = ap (glue more) s.spells ∙ sym (glue_assoc more s.before (glue rows s.after));
  place = ap (length_plus p) (rows_length-glue more s.before s.has_before) ∙ sym (length_plus_assoc p (rows_length more) (rows_length s.before))
      ∙ ap (λ (x : Length). length_plus x (rows_length s.before)) e ∙ s.place;
  has_before = HasRow-glue more s.before h;
  has_after = s.has_after;
  bounded = IsBounded-glue more s.before b s.bounded;
}

-- ---- what stands in a tree takes rows of it

here_stands : (p : Length) (t : Tree) (q : Length) (n : Tree) → IsHere p t q n → Stands (tree_rows t) p q (tree_rows n)
here_stands p t q n h =
    subst (λ (x : Length). Stands (tree_rows t) p x (tree_rows n)) (sym h.place)
    (subst (λ (x : Tree). Stands (tree_rows t) p p (tree_rows x)) (sym h.node) (stand_alone p (tree_rows t) (HasRow-tree_rows t)))

behind_tree : (a : Tree) (whole : List Row) (p q : Length) (rows : List Row) → IsTree a
    → Stands whole (length_plus p (tree_length a)) q rows → Stands (glue (tree_rows a) whole) p q rows
behind_tree a whole p q rows h s =
    stand_behind (tree_rows a) whole p (length_plus p (tree_length a)) q rows (HasRow-tree_rows a) (IsBounded-tree a h)
    (ap (length_plus p) (rows_length-tree a)) s

inside_pair : (k o : ℕ) (i : Tree) (c : Option ℕ) (p q : Length) (rows : List Row) → IsTree (pair k o i c)
    → Stands (tree_rows i) (inside_start p o) q rows → Stands (tree_rows (pair k o i c)) p q rows
inside_pair k o i c p q rows h s =
    stand_before (glue (bracket_row k o true) (tree_rows i)) (closing_rows k c) p q rows
    (stand_behind (bracket_row k o true) (tree_rows i) p (inside_start p o) q rows tt (IsBounded-bracket k o true h.0.opening) refl s)

-- the third of three parts
in_third : (a b c : Tree) (p q : Length) (rows : List Row) → IsTree (three a b c)
    → Stands (tree_rows c) (length_plus (length_plus p (tree_length a)) (tree_length b)) q rows → Stands (tree_rows (three a b c)) p q rows
in_third a b c p q rows h s =
    subst (λ (x : List Row). Stands x p q rows) (sym (glue_assoc (tree_rows a) (tree_rows b) (tree_rows c)))
    (behind_tree a (glue (tree_rows b) (tree_rows c)) p q rows h.1.0
    (behind_tree b (tree_rows c) (length_plus p (tree_length a)) q rows h.1.1.0 s))

node_stands : (p : Length) (t : Tree) (q : Length) (n : Tree) → IsTree t → HasNode p t q n → Stands (tree_rows t) p q (tree_rows n)
node_stands p (text l) q n h here = here_stands p (text l) q n here
node_stands p (pair k o i c) q n h (inl here) = here_stands p (pair k o i c) q n here
node_stands p (pair k o i c) q n h (inr in_it) = inside_pair k o i c p q (tree_rows n) h (node_stands (inside_start p o) i q n h.1 in_it)
node_stands p (stray k w) q n h here = here_stands p (stray k w) q n here
node_stands p (capped k w) q n h here = here_stands p (capped k w) q n here
node_stands p nothing q n h here = here_stands p nothing q n here
node_stands p (two a b) q n h (inl here) = here_stands p (two a b) q n here
node_stands p (two a b) q n h (inr (inl in_a)) = stand_before (tree_rows a) (tree_rows b) p q (tree_rows n) (node_stands p a q n h.1.0 in_a)
node_stands p (two a b) q n h (inr (inr in_b)) =
    behind_tree a (tree_rows b) p q (tree_rows n) h.1.0 (node_stands (length_plus p (tree_length a)) b q n h.1.1 in_b)
node_stands p (three a b c) q n h (inl here) = here_stands p (three a b c) q n here
node_stands p (three a b c) q n h (inr (inl in_a)) =
    stand_before (glue (tree_rows a) (tree_rows b)) (tree_rows c) p q (tree_rows n)
    (stand_before (tree_rows a) (tree_rows b) p q (tree_rows n) (node_stands p a q n h.1.0 in_a))
node_stands p (three a b c) q n h (inr (inr (inl in_b))) =
    stand_before (glue (tree_rows a) (tree_rows b)) (tree_rows c) p q (tree_rows n)
    (behind_tree a (tree_rows b) p q (tree_rows n) h.1.0 (node_stands (length_plus p (tree_length a)) b q n h.1.1.0 in_b))
node_stands p (three a b c) q n h (inr (inr (inr in_c))) =
    in_third a b c p q (tree_rows n) h (node_stands (length_plus (length_plus p (tree_length a)) (tree_length b)) c q n h.1.1.1 in_c)

pub IsAmong-append : (b : Bracket) (xs ys : List Bracket) → IsAmong b (xs ++ ys) → IsAmong b xs ⊎ IsAmong b ys
IsAmong-append b [] ys h = inr h
IsAmong-append b (x ∷ xs) ys (inl first) = inl (inl first)
IsAmong-append b (x ∷ xs) ys (inr later) = elim (IsAmong-append b xs ys later) [ inl in_xs ↦ inl (inr in_xs) | inr in_ys ↦ inr in_ys ]

row_of : Bracket → List Row
row_of b = bracket_row b.kind b.len b.opening

lone_stands : (b : Bracket) (p : Length) (w k : ℕ) (opening : Bool) → b ≡ bracket p w k opening
    → Stands (bracket_row k w opening) p b.place (row_of b)
unfolding row_of
lone_stands b p w k opening e =
    subst (λ (x : Bracket). Stands (bracket_row k w opening) p x.place (row_of x)) (sym e) (stand_alone p (bracket_row k w opening) tt)

one_stands : (b : Bracket) (p : Length) (w k : ℕ) (opening : Bool) → IsAmong b (bracket p w k opening ∷ [])
    → Stands (bracket_row k w opening) p b.place (row_of b)
one_stands b p w k opening (inl e) = lone_stands b p w k opening e
one_stands b p w k opening (inr none) = elim none [ ]

closing_stands : (b : Bracket) (p : Length) (k : ℕ) (c : Option ℕ) → IsAmong b (closing_brackets p k c)
    → Stands (closing_rows k c) p b.place (row_of b)
closing_stands b p k None h = elim h [ ]
closing_stands b p k (Some w) h = one_stands b p w k false h

-- after the opening bracket and the content
at_closing : (k o : ℕ) (i : Tree) (c : Option ℕ) (p q : Length) (rows : List Row) → IsTree (pair k o i c)
    → Stands (closing_rows k c) (inside_end p o i) q rows → Stands (tree_rows (pair k o i c)) p q rows
at_closing k o i c p q rows h s =
    let front = glue (bracket_row k o true) (tree_rows i) in
    stand_behind front (closing_rows k c) p (inside_end p o i) q rows (HasRow-glue (bracket_row k o true) (tree_rows i) tt)
    (IsBounded-glue (bracket_row k o true) (tree_rows i) (IsBounded-bracket k o true h.0.opening) (IsBounded-tree i h.1))
    (ap (length_plus p) (rows_length-glue (bracket_row k o true) (tree_rows i) (HasRow-tree_rows i) ∙ ap (length_plus (wide o)) (rows_length-tree i))
    ∙ sym (length_plus_assoc p (wide o) (tree_length i))) s

at_opening : (k o : ℕ) (i : Tree) (c : Option ℕ) (p q : Length) (rows : List Row)
    → Stands (bracket_row k o true) p q rows → Stands (tree_rows (pair k o i c)) p q rows
at_opening k o i c p q rows s =
    stand_before (glue (bracket_row k o true) (tree_rows i)) (closing_rows k c) p q rows (stand_before (bracket_row k o true) (tree_rows i) p q rows s)

bracket_stands : (p : Length) (t : Tree) (b : Bracket) → IsTree t → HasBracket p t b → Stands (tree_rows t) p b.place (row_of b)
bracket_stands p (text l) b h none = elim none [ ]
bracket_stands p (pair k o i c) b h (inl e) = at_opening k o i c p b.place (row_of b) (lone_stands b p o k true e)
bracket_stands p (pair k o i c) b h (inr later) =
    elim (IsAmong-append b (tree_tokens (inside_start p o) i) (closing_brackets (inside_end p o i) k c) later) [
      | inl in_it ↦ inside_pair k o i c p b.place (row_of b) h (bracket_stands (inside_start p o) i b h.1 in_it)
      | inr last ↦ at_closing k o i c p b.place (row_of b) h (closing_stands b (inside_end p o i) k c last)
    ]
bracket_stands p (stray k w) b h there = one_stands b p w k false there
bracket_stands p (capped k w) b h there = one_stands b p w k true there
bracket_stands p nothing b h none = elim none [ ]
bracket_stands p (two x y) b h there =
    elim (IsAmong-append b (tree_tokens p x) (tree_tokens (length_plus p (tree_length x)) y) there) [
      | inl in_x ↦ stand_before (tree_rows x) (tree_rows y) p b.place (row_of b) (bracket_stands p x b h.1.0 in_x)
      | inr in_y ↦ behind_tree x (tree_rows y) p b.place (row_of b) h.1.0 (bracket_stands (length_plus p (tree_length x)) y b h.1.1 in_y)
    ]
bracket_stands p (three x y z) b h there =
    let q = length_plus p (tree_length x) in
    let r = length_plus q (tree_length y) in
    elim (IsAmong-append b (tree_tokens p x) (tree_tokens q y ++ tree_tokens r z) there) [
      | inl in_x ↦ stand_before (glue (tree_rows x) (tree_rows y)) (tree_rows z) p b.place (row_of b)
          (stand_before (tree_rows x) (tree_rows y) p b.place (row_of b) (bracket_stands p x b h.1.0 in_x))
      | inr later ↦ elim (IsAmong-append b (tree_tokens q y) (tree_tokens r z) later) [
        | inl in_y ↦ stand_before (glue (tree_rows x) (tree_rows y)) (tree_rows z) p b.place (row_of b)
            (behind_tree x (tree_rows y) p b.place (row_of b) h.1.0 (bracket_stands q y b h.1.1.0 in_y))
        | inr in_z ↦ in_third x y z p b.place (row_of b) h (bracket_stands r z b h.1.1.1 in_z)
      ]
    ]

-- ---- the rows from a place on, where something stands there

-- from place q on the whole has these rows, followed by the rows from their end on
pub record Begins (whole : List Row) (q : Length) (rows : List Row) : Type 0 where
  pub here : rows_from q whole ≡ glue rows (rows_from (length_plus q (rows_length rows)) whole)
  pub rest : HasRow (rows_from (length_plus q (rows_length rows)) whole)

Stands-begins : (whole : List Row) (q : Length) (rows : List Row) → HasRow rows → IsBounded rows → Stands whole no_length q rows → Begins whole q rows
Stands-begins whole q rows h b s =
    let at : rows_length s.before ≡ q = sym (none_plus (rows_length s.before)) ∙ s.place in
    let front = glue s.before rows in
    let front_length : rows_length front ≡ length_plus q (rows_length rows) =
    rows_length-glue s.before rows h ∙ ap (λ (l : Length). length_plus l (rows_length rows)) at in
    let first : rows_from q whole ≡ glue rows s.after =
    ap (λ (l : Length). rows_from l whole) (sym at) ∙ ap (rows_from (rows_length s.before)) s.spells
    ∙ rows_from-glue s.before (glue rows s.after) s.has_before (HasRow-glue rows s.after h) s.bounded in
    let second : rows_from (length_plus q (rows_length rows)) whole ≡ s.after =
    ap (λ (l : Length). rows_from l whole) (sym front_length)
    ∙ ap (rows_from (rows_length front)) (s.spells ∙ sym (glue_assoc s.before rows s.after))
    ∙ rows_from-glue front s.after (HasRow-glue s.before rows s.has_before) s.has_after (IsBounded-glue s.before rows s.bounded b) in
    record { here = first ∙ ap (glue rows) (sym second); rest = subst HasRow (sym second) s.has_after }

-- every node of a tree is a tree
pub IsTree-node : (p : Length) (t : Tree) (q : Length) (n : Tree) → IsTree t → HasNode p t q n → IsTree n
IsTree-node p (text l) q n h here = subst IsTree (sym here.node) h
IsTree-node p (pair k o i c) q n h (inl here) = subst IsTree (sym here.node) h
IsTree-node p (pair k o i c) q n h (inr in_it) = IsTree-node (inside_start p o) i q n h.1 in_it
IsTree-node p (stray k w) q n h here = subst IsTree (sym here.node) h
IsTree-node p (capped k w) q n h here = subst IsTree (sym here.node) h
IsTree-node p nothing q n h here = subst IsTree (sym here.node) h
IsTree-node p (two a b) q n h (inl here) = subst IsTree (sym here.node) h
IsTree-node p (two a b) q n h (inr (inl in_a)) = IsTree-node p a q n h.1.0 in_a
IsTree-node p (two a b) q n h (inr (inr in_b)) = IsTree-node (length_plus p (tree_length a)) b q n h.1.1 in_b
IsTree-node p (three a b c) q n h (inl here) = subst IsTree (sym here.node) h
IsTree-node p (three a b c) q n h (inr (inl in_a)) = IsTree-node p a q n h.1.0 in_a
IsTree-node p (three a b c) q n h (inr (inr (inl in_b))) = IsTree-node (length_plus p (tree_length a)) b q n h.1.1.0 in_b
IsTree-node p (three a b c) q n h (inr (inr (inr in_c))) =
    IsTree-node (length_plus (length_plus p (tree_length a)) (tree_length b)) c q n h.1.1.1 in_c

pub node_begins : (t : Tree) (q : Length) (n : Tree) → IsTree t → HasNode no_length t q n → Begins (tree_rows t) q (tree_rows n)
node_begins t q n h there =
    Stands-begins (tree_rows t) q (tree_rows n) (HasRow-tree_rows n) (IsBounded-tree n (IsTree-node no_length t q n h there))
    (node_stands no_length t q n h there)

pub bracket_begins : (t : Tree) (b : Bracket) → IsTree t → HasBracket no_length t b → 0 < b.len → Begins (tree_rows t) b.place (bracket_row b.kind b.len b.opening)
unfolding row_of
bracket_begins t b h there wide =
    Stands-begins (tree_rows t) b.place (bracket_row b.kind b.len b.opening) tt (IsBounded-bracket b.kind b.len b.opening wide)
    (bracket_stands no_length t b h there)

-- ---- edges

pub IsAmong-left : (b : Bracket) (xs ys : List Bracket) → IsAmong b xs → IsAmong b (xs ++ ys)
IsAmong-left b [] ys h = elim h [ ]
IsAmong-left b (x ∷ xs) ys (inl first) = inl first
IsAmong-left b (x ∷ xs) ys (inr later) = inr (IsAmong-left b xs ys later)

pub IsAmong-right : (b : Bracket) (xs ys : List Bracket) → IsAmong b ys → IsAmong b (xs ++ ys)
IsAmong-right b [] ys h = h
IsAmong-right b (x ∷ xs) ys h = inr (IsAmong-right b xs ys h)

-- an edge of a part is an edge of the whole, if the end of the part is
edge_then : (p : Length) (t part : Tree) (at q : Length) → ((l : Length) → HasNode at part q (text l) → HasNode p t q (text l))
    → ((b : Bracket) → HasBracket at part b → HasBracket p t b) → IsEdge p t (length_plus at (tree_length part)) → IsEdge at part q → IsEdge p t q
edge_then p t part at q nodes brackets next (at_text l n) = at_text l (nodes l n)
edge_then p t part at q nodes brackets next (at_bracket b h e) = at_bracket b (brackets b h) e
edge_then p t part at q nodes brackets next (at_end e) = subst (IsEdge p t) (sym e) next

edge_in_pair : (k o : ℕ) (i : Tree) (c : Option ℕ) (p q : Length) → IsEdge (inside_start p o) i q → IsEdge p (pair k o i c) q
edge_in_pair k o i c p q e =
    edge_then p (pair k o i c) i (inside_start p o) q (λ l n. inr n)
    (λ b h. inr (IsAmong-left b (tree_tokens (inside_start p o) i) (closing_brackets (inside_end p o i) k c) h))
    (at_its_end c) e
  where
    at_its_end : (c : Option ℕ) → IsEdge p (pair k o i c) (inside_end p o i)
    at_its_end None = at_end (sym (ap (length_plus p) (plus_none (length_plus (wide o) (tree_length i))) ∙ sym (length_plus_assoc p (wide o) (tree_length i))))
    at_its_end (Some w) =
        at_bracket (bracket (inside_end p o i) w k false)
        (inr (IsAmong-right (bracket (inside_end p o i) w k false) (tree_tokens (inside_start p o) i) (closing_brackets (inside_end p o i) k (Some w)) (inl refl))) refl

edge_in_second : (a b : Tree) (p q : Length) → IsEdge (length_plus p (tree_length a)) b q → IsEdge p (two a b) q
edge_in_second a b p q e =
    edge_then p (two a b) b (length_plus p (tree_length a)) q (λ l n. inr (inr n))
    (λ x h. IsAmong-right x (tree_tokens p a) (tree_tokens (length_plus p (tree_length a)) b) h)
    (at_end (length_plus_assoc p (tree_length a) (tree_length b))) e

edge_in_first : (a b : Tree) (p q : Length) → IsEdge (length_plus p (tree_length a)) b (length_plus p (tree_length a)) → IsEdge p a q → IsEdge p (two a b) q
edge_in_first a b p q next e =
    edge_then p (two a b) a p q (λ l n. inr (inl n))
    (λ x h. IsAmong-left x (tree_tokens p a) (tree_tokens (length_plus p (tree_length a)) b) h)
    (edge_in_second a b p (length_plus p (tree_length a)) next) e

edge_in_last : (a b c : Tree) (p q : Length) → IsEdge (length_plus (length_plus p (tree_length a)) (tree_length b)) c q → IsEdge p (three a b c) q
edge_in_last a b c p q e =
    let r = length_plus p (tree_length a) in
    let s = length_plus r (tree_length b) in
    edge_then p (three a b c) c s q (λ l n. inr (inr (inr n)))
    (λ x h. IsAmong-right x (tree_tokens p a) (tree_tokens r b ++ tree_tokens s c) (IsAmong-right x (tree_tokens r b) (tree_tokens s c) h))
    (at_end (ap (λ (l : Length). length_plus l (tree_length c)) (length_plus_assoc p (tree_length a) (tree_length b))
    ∙ length_plus_assoc p (length_plus (tree_length a) (tree_length b)) (tree_length c))) e

edge_in_middle : (a b c : Tree) (p q : Length)
    → IsEdge (length_plus (length_plus p (tree_length a)) (tree_length b)) c (length_plus (length_plus p (tree_length a)) (tree_length b))
    → IsEdge (length_plus p (tree_length a)) b q → IsEdge p (three a b c) q
edge_in_middle a b c p q next e =
    let r = length_plus p (tree_length a) in
    let s = length_plus r (tree_length b) in
    edge_then p (three a b c) b r q (λ l n. inr (inr (inl n)))
    (λ x h. IsAmong-right x (tree_tokens p a) (tree_tokens r b ++ tree_tokens s c) (IsAmong-left x (tree_tokens r b) (tree_tokens s c) h))
    (edge_in_last a b c p s next) e

edge_in_front : (a b c : Tree) (p q : Length)
    → IsEdge (length_plus (length_plus p (tree_length a)) (tree_length b)) c (length_plus (length_plus p (tree_length a)) (tree_length b))
    → IsEdge (length_plus p (tree_length a)) b (length_plus p (tree_length a)) → IsEdge p a q → IsEdge p (three a b c) q
edge_in_front a b c p q last next e =
    let r = length_plus p (tree_length a) in
    let s = length_plus r (tree_length b) in
    edge_then p (three a b c) a p q (λ l n. inr (inl n))
    (λ x h. IsAmong-left x (tree_tokens p a) (tree_tokens r b ++ tree_tokens s c) h)
    (edge_in_middle a b c p r last next) e

pub edge_at_start : (p : Length) (t : Tree) → IsEdge p t p
edge_at_start p (text l) = at_text l (record { node = refl; place = refl })
edge_at_start p (pair k o i c) = at_bracket (bracket p o k true) (inl refl) refl
edge_at_start p (stray k w) = at_bracket (bracket p w k false) (inl refl) refl
edge_at_start p (capped k w) = at_bracket (bracket p w k true) (inl refl) refl
edge_at_start p nothing = at_end (sym (plus_none p))
edge_at_start p (two a b) = edge_in_first a b p p (edge_at_start (length_plus p (tree_length a)) b) (edge_at_start p a)
edge_at_start p (three a b c) =
    edge_in_front a b c p p (edge_at_start (length_plus (length_plus p (tree_length a)) (tree_length b)) c)
    (edge_at_start (length_plus p (tree_length a)) b) (edge_at_start p a)

-- the end of the tree itself is an edge
edge_at_end : (p : Length) (t : Tree) (q : Length) (n : Tree) → IsHere p t q n → IsEdge p t (length_plus q (tree_length n))
edge_at_end p t q n h = at_end (ap (λ (x : Length). length_plus x (tree_length n)) h.place ∙ ap (λ (x : Tree). length_plus p (tree_length x)) h.node)

-- the end of a node is an edge: the next text or bracket starts there, or the tree ends
pub edge_after_node : (p : Length) (t : Tree) (q : Length) (n : Tree) → HasNode p t q n → IsEdge p t (length_plus q (tree_length n))
edge_after_node p (text l) q n here = edge_at_end p (text l) q n here
edge_after_node p (pair k o i c) q n (inl here) = edge_at_end p (pair k o i c) q n here
edge_after_node p (pair k o i c) q n (inr in_it) =
    edge_in_pair k o i c p (length_plus q (tree_length n)) (edge_after_node (inside_start p o) i q n in_it)
edge_after_node p (stray k w) q n here = edge_at_end p (stray k w) q n here
edge_after_node p (capped k w) q n here = edge_at_end p (capped k w) q n here
edge_after_node p nothing q n here = edge_at_end p nothing q n here
edge_after_node p (two a b) q n (inl here) = edge_at_end p (two a b) q n here
edge_after_node p (two a b) q n (inr (inl in_a)) =
    edge_in_first a b p (length_plus q (tree_length n)) (edge_at_start (length_plus p (tree_length a)) b) (edge_after_node p a q n in_a)
edge_after_node p (two a b) q n (inr (inr in_b)) =
    edge_in_second a b p (length_plus q (tree_length n)) (edge_after_node (length_plus p (tree_length a)) b q n in_b)
edge_after_node p (three a b c) q n (inl here) = edge_at_end p (three a b c) q n here
edge_after_node p (three a b c) q n (inr (inl in_a)) =
    edge_in_front a b c p (length_plus q (tree_length n)) (edge_at_start (length_plus (length_plus p (tree_length a)) (tree_length b)) c)
    (edge_at_start (length_plus p (tree_length a)) b) (edge_after_node p a q n in_a)
edge_after_node p (three a b c) q n (inr (inr (inl in_b))) =
    edge_in_middle a b c p (length_plus q (tree_length n)) (edge_at_start (length_plus (length_plus p (tree_length a)) (tree_length b)) c)
    (edge_after_node (length_plus p (tree_length a)) b q n in_b)
edge_after_node p (three a b c) q n (inr (inr (inr in_c))) =
    edge_in_last a b c p (length_plus q (tree_length n)) (edge_after_node (length_plus (length_plus p (tree_length a)) (tree_length b)) c q n in_c)

edge_after_lone : (b : Bracket) (p : Length) (w k : ℕ) (opening : Bool) (t : Tree) → tree_length t ≡ wide w → IsAmong b (bracket p w k opening ∷ [])
    → IsEdge p t (length_plus b.place (wide b.len))
edge_after_lone b p w k opening t e (inl first) =
    at_end (ap (λ (x : Bracket). length_plus x.place (wide x.len)) first ∙ ap (length_plus p) (sym e))
edge_after_lone b p w k opening t e (inr none) = elim none [ ]

edge_after_closing : (b : Bracket) (p : Length) (k o : ℕ) (i : Tree) (c : Option ℕ) → IsAmong b (closing_brackets (inside_end p o i) k c)
    → IsEdge p (pair k o i c) (length_plus b.place (wide b.len))
edge_after_closing b p k o i None h = elim h [ ]
edge_after_closing b p k o i (Some w) (inr none) = elim none [ ]
edge_after_closing b p k o i (Some w) (inl first) =
    at_end (ap (λ (x : Bracket). length_plus x.place (wide x.len)) first
    ∙ ap (λ (x : Length). length_plus x (wide w)) (length_plus_assoc p (wide o) (tree_length i))
    ∙ length_plus_assoc p (length_plus (wide o) (tree_length i)) (wide w))

-- so is the end of a bracket
pub edge_after_bracket : (p : Length) (t : Tree) (b : Bracket) → HasBracket p t b → IsEdge p t (length_plus b.place (wide b.len))
edge_after_bracket p (text l) b none = elim none [ ]
edge_after_bracket p (pair k o i c) b (inl first) =
    subst (IsEdge p (pair k o i c)) (sym (ap (λ (x : Bracket). length_plus x.place (wide x.len)) first))
    (edge_in_pair k o i c p (inside_start p o) (edge_at_start (inside_start p o) i))
edge_after_bracket p (pair k o i c) b (inr later) =
    elim (IsAmong-append b (tree_tokens (inside_start p o) i) (closing_brackets (inside_end p o i) k c) later) [
      | inl in_it ↦ edge_in_pair k o i c p (length_plus b.place (wide b.len)) (edge_after_bracket (inside_start p o) i b in_it)
      | inr last ↦ edge_after_closing b p k o i c last
    ]
edge_after_bracket p (stray k w) b h = edge_after_lone b p w k false (stray k w) refl h
edge_after_bracket p (capped k w) b h = edge_after_lone b p w k true (capped k w) refl h
edge_after_bracket p nothing b none = elim none [ ]
edge_after_bracket p (two x y) b h =
    let q = length_plus b.place (wide b.len) in
    elim (IsAmong-append b (tree_tokens p x) (tree_tokens (length_plus p (tree_length x)) y) h) [
      | inl in_x ↦ edge_in_first x y p q (edge_at_start (length_plus p (tree_length x)) y) (edge_after_bracket p x b in_x)
      | inr in_y ↦ edge_in_second x y p q (edge_after_bracket (length_plus p (tree_length x)) y b in_y)
    ]
edge_after_bracket p (three x y z) b h =
    let q = length_plus b.place (wide b.len) in
    let r = length_plus p (tree_length x) in
    let s = length_plus r (tree_length y) in
    elim (IsAmong-append b (tree_tokens p x) (tree_tokens r y ++ tree_tokens s z) h) [
      | inl in_x ↦ edge_in_front x y z p q (edge_at_start s z) (edge_at_start r y) (edge_after_bracket p x b in_x)
      | inr later ↦ elim (IsAmong-append b (tree_tokens r y) (tree_tokens s z) later) [
        | inl in_y ↦ edge_in_middle x y z p q (edge_at_start s z) (edge_after_bracket r y b in_y)
        | inr in_z ↦ edge_in_last x y z p q (edge_after_bracket s z b in_z)
      ]
    ]

-- lines start at edges: no text continues after a break
pub edge_at_line : (p : Length) (t : Tree) (line : ℕ) → IsTree t → p.lines < line → line ≤ p.lines + (tree_length t).lines → IsEdge p t (length_of line 0)
edge_at_line p (text l) line (inl in_line) h k = absurd (let none : l.lines ≡ 0 = in_line.0 in omega arith)
edge_at_line p (text l) line (inr break) h k =
    let one : l.lines ≡ 1 = break.0 in
    let same : length_of (p.lines + 1) 0 ≡ length_plus p l = ap (length_plus p) (sym (same_length l (length_of 1 0) break.0 break.1)) in
    at_end (ap (λ (n : ℕ). length_of n 0) (omega arith) ∙ same)
edge_at_line p (pair k o i c) line t h g =
    edge_in_pair k o i c p (length_of line 0) (edge_at_line (inside_start p o) i line t.1 (omega arith) (omega arith))
edge_at_line p (stray k w) line t h g = absurd (omega arith)
edge_at_line p (capped k w) line t h g = absurd (omega arith)
edge_at_line p nothing line t h g = absurd (omega arith)
edge_at_line p (two a b) line t h g =
    elim (cases_lt (p.lines + (tree_length a).lines) line) [
      | inl behind ↦ edge_in_second a b p (length_of line 0) (edge_at_line (length_plus p (tree_length a)) b line t.1.1 behind (omega arith))
      | inr within ↦ edge_in_first a b p (length_of line 0) (edge_at_start (length_plus p (tree_length a)) b) (edge_at_line p a line t.1.0 h within)
    ]
edge_at_line p (three a b c) line t h g =
    let r = length_plus p (tree_length a) in
    let s = length_plus r (tree_length b) in
    elim (cases_lt (p.lines + (tree_length a).lines) line) [
      | inl behind ↦ elim (cases_lt (p.lines + (tree_length a).lines + (tree_length b).lines) line) [
        | inl last ↦ edge_in_last a b c p (length_of line 0) (edge_at_line s c line t.1.1.1 last (omega arith))
        | inr in_b ↦ edge_in_middle a b c p (length_of line 0) (edge_at_start s c) (edge_at_line r b line t.1.1.0 behind in_b)
      ]
      | inr within ↦ edge_in_front a b c p (length_of line 0) (edge_at_start s c) (edge_at_start r b) (edge_at_line p a line t.1.0 h within)
    ]
