-- The steps of a reader that follows an old text.
use Rattle.std.proofs.Common.{◌≡◌, ℕ, zero, suc, ◌+◌, ◌-◌, ◌<◌, ◌≤◌, ◌⊎◌, inl, inr, Bool, true, false, List, [], ◌∷◌, length, drop, refl, ap, sym, ◌∙◌, subst, arith}
use Rattle.std.specs.Prelude.{slice_index_or}
use Rattle.std.proofs.lemmas.List.{length-drop, drop-drop, get_or-drop}
use Rattle.std.proofs.lemmas.Bool.{le-ltb, lt-ltb}
use Rattle.text_lengths.specs.declared.Length.{Length}
use Rattle.text_lengths.specs.Length.{length_of, no_length, length_plus}
use Rattle.text_lengths.proofs.Lengths.{same_length}
use Rattle.bracket_rules.specs.declared.Token.{Token}
use Rattle.bracket_rules.specs.Table.{token}
use Rattle.bracket_rules.specs.Rows.{Row, row}
use Rattle.bracket_rules.specs.TextRows.{HasRow, empty_row, glue, rows_length}
use Rattle.bracket_rules.specs.declared.TheConstants.{MOST_OPEN}
use Rattle.bracket_rules.specs.Parse.{Bracket}
use Rattle.bracket_tree_rules.specs.Tree.{Tree, text, tree_rows, bracket_row, tree_length, IsTree, IsGap}
use Rattle.bracket_tree_rules.specs.Places.{IsEdge, HasBracket, IsBounded, later_brackets, from_column, rows_from, HasNode, MayBeTaken, lines_touched, touched}
use Rattle.bracket_tree_rules.proofs.Glue.{HasRow-glue, glue_empty, empty_glue, glue_assoc, rows_length-glue, HasRow-tree_rows, rows_length-tree}
use Rattle.bracket_tree_rules.proofs.Places.{rows_from-glue, IsBounded-glue, IsBounded-bracket, IsBounded-tree, IsTree-node, Begins, node_begins, bracket_begins, edge_at_start, edge_at_line, edge_after_node, edge_after_bracket}
use Rattle.mark_rules.specs.declared.Mark.{Mark}
use Rattle.mark_rules.specs.declared.Mark.TheVariants.{Kept, New}
use Rattle.mark_rules.specs.Marks.{mark_at, kept_run}
use Rattle.reuse_rules.specs.Agreement.{Alike, Agrees}
use Rattle.reuse_rules.specs.Reuse.{IsKeptAs}
use Rattle.reuse_rules.specs.Following.{Reached, Follows}
use Rattle.reuse_rules.proofs.Agreements.{taken_again}
use Rattle.reuse_rules.proofs.KeptRuns.{kept_run_alike, kept_run_mark, kept_run_rest}

-- ---- what was read, and what is ahead

pub Reached-start : (now : List Row) → HasRow now → Reached now no_length now
Reached-start now h = record {
  done = empty_row ∷ [];
  spells = sym (empty_glue now h);
  place = refl;
  has_done = tt;
  has_ahead = h;
  bounded = tt;
}

pub Reached-next : (now : List Row) (p : Length) (rows rest : List Row) → HasRow rows → HasRow rest → IsBounded rows → Reached now p (glue rows rest)
    → Reached now (length_plus p (rows_length rows)) rest
Reached-next now p rows rest h k b r = record {
  done = glue r.done rows;
  spells = r.spells ∙ sym (glue_assoc r.done rows rest);
  place = rows_length-glue r.done rows h ∙ ap (λ (l : Length). length_plus l (rows_length rows)) r.place;
  has_done = HasRow-glue r.done rows r.has_done;
  has_ahead = k;
  bounded = IsBounded-glue r.done rows r.bounded b;
}

pub Reached-rows : (now : List Row) (p : Length) (ahead : List Row) → Reached now p ahead → rows_from p now ≡ ahead
Reached-rows now p ahead r =
    ap (λ (l : Length). rows_from l now) (sym r.place) ∙ ap (rows_from (rows_length r.done)) r.spells
    ∙ rows_from-glue r.done ahead r.has_done r.has_ahead r.bounded

later-zero : (ts : List Token) → later_brackets 0 ts ≡ ts
later-zero [] = refl
later-zero (t ∷ ts) = rw (le-ltb t.at 0 (omega arith), later-zero ts) (ap (λ (n : ℕ). token n t.len t.kind t.opening ∷ ts) (omega arith))

from_line : (rows : List Row) → from_column 0 rows ≡ rows
from_line [] = refl
from_line (r ∷ []) =
    ap (λ (ts : List Token). row ts (r.columns - 0) ∷ []) (later-zero r.brackets) ∙ ap (λ (n : ℕ). row r.brackets n ∷ []) (omega arith)
from_line (r ∷ x ∷ rows) = ap (λ (ts : List Token). row ts r.columns ∷ x ∷ rows) (later-zero r.brackets)

-- at the start of a line the rows ahead are those of the line and of all after it
pub Reached-line : (now : List Row) (line : ℕ) (ahead : List Row) → Reached now (length_of line 0) ahead → drop line now ≡ ahead
Reached-line now line ahead r = sym (from_line (drop line now)) ∙ Reached-rows now (length_of line 0) ahead r

-- ---- a kept line is entered

has_more : (k : ℕ) (a b : List Row) → Alike (suc k) a b → 0 < length a
has_more k [] b h = elim h [ ]
has_more k (r ∷ a) b h = omega arith

is_kept : Mark → Bool
is_kept (Kept i) = true
is_kept New = false

kept_first : (marks : List Mark) (i : ℕ) → slice_index_or marks 0 New ≡ Kept i → 0 < kept_run marks
unfolding is_kept
kept_first [] i e = let clash : false ≡ true = ap is_kept e in cc
kept_first (New ∷ marks) i e = let clash : false ≡ true = ap is_kept e in cc
kept_first (Kept j ∷ marks) i e = omega arith

kept_run_some : (marks : List Mark) (j i : ℕ) → mark_at (j + 1) marks ≡ Kept i → 0 < kept_run (drop j marks)
kept_run_some marks j i e =
    kept_first (drop j marks) i (get_or-drop j marks 0 New ∙ ap (λ (n : ℕ). slice_index_or marks n New) (omega arith) ∙ e)

alike_first : (k : ℕ) (a b : List Row) → 0 < k → Alike k a b → 0 < length a
alike_first zero a b h g = absurd (omega arith)
alike_first (suc k) a b h g = has_more k a b g

rows_count : (rows : List Row) → HasRow rows → length rows ≡ suc (rows_length rows).lines
rows_count [] h = elim h [ ]
rows_count (r ∷ []) h = refl
rows_count (r ∷ x ∷ rows) h = ap suc (rows_count (x ∷ rows) tt)

-- if a current line is kept, a reader at its start follows the old text there
pub Follows-line : (old : Tree) (marks : List Mark) (now : List Row) (p : Length) (ahead : List Row) (line : ℕ) → IsTree old
    → Agrees (tree_rows old) marks now → p.columns ≡ 0 → Reached now p ahead → IsKeptAs marks p line → Follows old marks p ahead line
Follows-line old marks now p ahead line t a c r e =
    let at : p ≡ length_of p.lines 0 = same_length p (length_of p.lines 0) refl c in
    let reached : drop p.lines now ≡ ahead = Reached-line now p.lines ahead (subst (λ (q : Length). Reached now q ahead) at r) in
    let run = kept_run (drop p.lines marks) in
    let alike : Alike run (drop line (tree_rows old)) (drop p.lines now) = kept_run_alike (tree_rows old) marks now line p.lines a e in
    let old_line : rows_from (length_of line p.columns) (tree_rows old) ≡ drop line (tree_rows old) =
    ap (λ (n : ℕ). from_column n (drop line (tree_rows old))) c ∙ from_line (drop line (tree_rows old)) in
    let some : 0 < length (drop line (tree_rows old)) = alike_first run (drop line (tree_rows old)) (drop p.lines now) (kept_run_some marks p.lines (line + 1) e) alike in
    let counted = length-drop line (tree_rows old) in
    let rows = rows_count (tree_rows old) (HasRow-tree_rows old) in
    let lines : (rows_length (tree_rows old)).lines ≡ (tree_length old).lines = ap (λ (l : Length). l.lines) (rows_length-tree old) in
    record {
      kept = e;
      alike = subst (λ (x : List Row). Alike run x ahead) (sym old_line) (subst (λ (x : List Row). Alike run (drop line (tree_rows old)) x) reached alike);
      edge = subst (λ (n : ℕ). IsEdge no_length old (length_of line n)) (sym c) (edge_of line (omega arith));
    }
  where
    edge_of : (n : ℕ) → n ≤ (tree_length old).lines → IsEdge no_length old (length_of n 0)
    edge_of zero h = edge_at_start no_length old
    edge_of (suc n) h = edge_at_line no_length old (suc n) t (omega arith) (omega arith)

-- ---- what stands in the old text is taken

-- After a taken part: what is left, and whether the reader continues in the run or is at the start of a line.
pub record Took (old : Tree) (marks : List Mark) (now : List Row) (p : Length) (ahead : List Row) (line : ℕ) (rows : List Row) : Type 0 where
  pub left : List Row
  pub spells : ahead ≡ glue rows left
  pub has_left : HasRow left
  pub reached : Reached now (length_plus p (rows_length rows)) left
  pub goes_on : (rows_length rows).lines < kept_run (drop p.lines marks)
      → Follows old marks (length_plus p (rows_length rows)) left (line + (rows_length rows).lines)
  pub new_line : kept_run (drop p.lines marks) ≤ (rows_length rows).lines → (length_plus p (rows_length rows)).columns ≡ 0

at_line_end : (lines columns k : ℕ) → lines_touched lines columns ≤ k → k ≤ lines → columns ≡ 0
at_line_end lines zero k h g = refl
at_line_end lines (suc columns) k h g = absurd (omega arith)

columns_zero : (p l : Length) → 0 < l.lines → l.columns ≡ 0 → (length_plus p l).columns ≡ 0
columns_zero p l h e = rw (lt-ltb 0 l.lines h) e

took : (old : Tree) (marks : List Mark) (now : List Row) (p : Length) (ahead : List Row) (line : ℕ) (rows : List Row)
    → HasRow rows → IsBounded rows → Reached now p ahead → Follows old marks p ahead line
    → touched (rows_length rows) ≤ kept_run (drop p.lines marks) → Begins (tree_rows old) (length_of line p.columns) rows
    → IsEdge no_length old (length_plus (length_of line p.columns) (rows_length rows)) → Took old marks now p ahead line rows
took old marks now p ahead line rows f b r w t g e =
    let run = kept_run (drop p.lines marks) in
    let l = rows_length rows in
    let q = length_of line p.columns in
    let some : 0 < run = kept_run_some marks p.lines (line + 1) w.kept in
    let again = taken_again run rows (rows_from (length_plus q l) (tree_rows old)) ahead f b g.rest r.has_ahead t
    (subst (λ (x : List Row). Alike run x ahead) g.here w.alike) in
    record {
      left = again.left;
      spells = again.spells;
      has_left = again.has_row;
      reached = Reached-next now p rows again.left f again.has_row b (subst (Reached now p) again.spells r);
      goes_on = λ h.
          let rest : kept_run (drop (p.lines + l.lines) marks) ≡ run - l.lines =
          ap kept_run (sym (drop-drop l.lines p.lines marks)) ∙ kept_run_rest (drop p.lines marks) l.lines h in
          record {
            kept = ap (λ (n : ℕ). mark_at n marks) (omega arith) ∙ kept_run_mark marks line p.lines l.lines w.kept h ∙ ap Kept (omega arith);
            alike = subst (λ (n : ℕ). Alike n (rows_from (length_plus q l) (tree_rows old)) again.left) (sym rest) again.alike;
            edge = e;
          };
      new_line = λ h. columns_zero p l (omega arith) (at_line_end l.lines l.columns run t h);
    }

-- a node that may be taken is in the current text
pub node_taken : (old : Tree) (marks : List Mark) (now : List Row) (p : Length) (ahead : List Row) (line : ℕ) (kinds level : ℕ) (n : Tree)
    → IsTree old → Reached now p ahead → Follows old marks p ahead line → HasNode no_length old (length_of line p.columns) n
    → MayBeTaken (kept_run (drop p.lines marks)) kinds level n → Took old marks now p ahead line (tree_rows n)
node_taken old marks now p ahead line kinds level n t r w h m =
    let q = length_of line p.columns in
    let long : tree_length n ≡ rows_length (tree_rows n) = sym (rows_length-tree n) in
    took old marks now p ahead line (tree_rows n) (HasRow-tree_rows n) (IsBounded-tree n (IsTree-node no_length old q n t h)) r w
    (subst (λ (l : Length). touched l ≤ kept_run (drop p.lines marks)) long m.within) (node_begins old q n t h)
    (subst (λ (l : Length). IsEdge no_length old (length_plus q l)) long (edge_after_node no_length old q n h))

-- an old bracket is in the current text
pub bracket_taken : (old : Tree) (marks : List Mark) (now : List Row) (p : Length) (ahead : List Row) (line : ℕ) (b : Bracket)
    → IsTree old → Reached now p ahead → Follows old marks p ahead line → HasBracket no_length old b → b.place ≡ length_of line p.columns → 0 < b.len
    → Took old marks now p ahead line (bracket_row b.kind b.len b.opening)
bracket_taken old marks now p ahead line b t r w h e wide =
    let some : 0 < kept_run (drop p.lines marks) = kept_run_some marks p.lines (line + 1) w.kept in
    took old marks now p ahead line (bracket_row b.kind b.len b.opening) tt (IsBounded-bracket b.kind b.len b.opening wide) r w
    (one_line b.len (kept_run (drop p.lines marks)) wide some)
    (subst (λ (q : Length). Begins (tree_rows old) q (bracket_row b.kind b.len b.opening)) e (bracket_begins old b t h wide))
    (subst (λ (q : Length). IsEdge no_length old (length_plus q (length_of 0 b.len))) e (edge_after_bracket no_length old b h))
  where
    one_line : (len k : ℕ) → 0 < len → 0 < k → touched (length_of 0 len) ≤ k
    one_line zero k h g = absurd (omega arith)
    one_line (suc len) k h g = omega arith

only_empty : (k : ℕ) (ahead : List Row) → 0 < k → Alike k (empty_row ∷ []) ahead → ahead ≡ empty_row ∷ []
only_empty zero ahead h a = absurd (omega arith)
only_empty (suc k) [] h a = elim a [ ]
only_empty (suc k) (s ∷ []) h a = ap (λ (x : Row). x ∷ []) (sym a.0)
only_empty (suc k) (s ∷ x ∷ ahead) h a = elim a.1.0 [ ]

-- at the end of the old tree the current text ends
pub ends_alike : (old : Tree) (marks : List Mark) (p : Length) (ahead : List Row) (line : ℕ) → IsTree old → Follows old marks p ahead line
    → length_of line p.columns ≡ tree_length old → ahead ≡ empty_row ∷ []
ends_alike old marks p ahead line t w e =
    let run = kept_run (drop p.lines marks) in
    let at_end : length_of line p.columns ≡ rows_length (tree_rows old) = e ∙ sym (rows_length-tree old) in
    let nothing_left : rows_from (length_of line p.columns) (tree_rows old) ≡ empty_row ∷ [] =
    ap (λ (l : Length). rows_from l (tree_rows old)) at_end
    ∙ ap (rows_from (rows_length (tree_rows old))) (sym (glue_empty (tree_rows old) (HasRow-tree_rows old)))
    ∙ rows_from-glue (tree_rows old) (empty_row ∷ []) (HasRow-tree_rows old) tt (IsBounded-tree old t) in
    only_empty run ahead (kept_run_some marks p.lines (line + 1) w.kept) (subst (λ (x : List Row). Alike run x ahead) nothing_left w.alike)

-- a text of the old tree may always be taken: it lies within its line
pub text_may_be_taken : (old : Tree) (marks : List Mark) (p : Length) (ahead : List Row) (line kinds level : ℕ) (l : Length) → IsTree old
    → Follows old marks p ahead line → HasNode no_length old (length_of line p.columns) (text l) → level ≤ MOST_OPEN
    → MayBeTaken (kept_run (drop p.lines marks)) kinds level (text l)
text_may_be_taken old marks p ahead line kinds level l t w h o =
    let some : 0 < kept_run (drop p.lines marks) = kept_run_some marks p.lines (line + 1) w.kept in
    let gap : IsGap l = IsTree-node no_length old (length_of line p.columns) (text l) t h in
    record {
      some = refl;
      within = in_line l.lines l.columns (kept_run (drop p.lines marks)) gap some;
      fits = record { closed = refl; uncapped = refl; apart = λ k e. cc; room = omega arith };
    }
  where
    in_line : (lines columns k : ℕ) → ((lines ≡ 0) × (0 < columns)) ⊎ ((lines ≡ 1) × (columns ≡ 0)) → 0 < k → lines_touched lines columns ≤ k
    in_line lines zero k (inl h) g = absurd (let more : 0 < 0 = h.1 in omega arith)
    in_line lines (suc columns) k (inl h) g = let none : lines ≡ 0 = h.0 in omega arith
    in_line lines zero k (inr h) g = let one : lines ≡ 1 = h.0 in omega arith
    in_line lines (suc columns) k (inr h) g = absurd (let none : suc columns ≡ 0 = h.1 in omega arith)
