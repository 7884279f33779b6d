-- The steps of a reader in a line that is kept.
use Rattle.std.proofs.Common.{◌≡◌, ℕ, zero, suc, ◌+◌, ◌-◌, ◌<◌, ◌≤◌, List, [], ◌∷◌, length, drop, refl, ap, sym, ◌∙◌, subst, arith, drop-cons}
use Rattle.std.specs.Prelude.{slice_index}
use Rattle.std.proofs.lemmas.Bool.{lt-ltb}
use Rattle.text_lengths.specs.declared.Length.{Length}
use Rattle.text_lengths.specs.Length.{length_of, no_length, length_plus}
use Rattle.text_lengths.proofs.Lengths.{same_length}
use Rattle.bracket_rules.specs.Rows.{Row}
use Rattle.bracket_rules.specs.TextRows.{HasRow, empty_row, glue, rows_length}
use Rattle.bracket_tree_rules.specs.Tree.{Tree, tree_rows, tree_length}
use Rattle.bracket_tree_rules.specs.Weights.{glue_weights, tree_weights, AreCovered}
use Rattle.bracket_tree_rules.specs.Places.{HasNode, MayBeTaken, rows_from, lines_touched}
use Rattle.bracket_tree_rules.proofs.Glue.{rows_length-tree, glue_empty}
use Rattle.bracket_tree_rules.proofs.Places.{IsTree-node}
use Rattle.bracket_tree_rules.proofs.LineWeights.{HasWeight-tree, glue_weights-assoc}
use Rattle.bracket_nodes.specs.Source.{GivesNode}
use Rattle.mark_rules.specs.declared.Mark.{Mark}
use Rattle.mark_rules.specs.declared.Mark.TheVariants.{Kept}
use Rattle.mark_rules.specs.Marks.{mark_at, kept_run}
use Rattle.reuse_rules.specs.Reuse.{IsKeptAs}
use Rattle.reuse_rules.specs.Following.{Reached, Follows}
use Rattle.reuse_rules.proofs.Followings.{Took, node_taken, Reached-rows}
use Rattle.reuse_rules.proofs.KeptRuns.{kept_run_mark}
use Rattle.bracket_tree_rules.specs.Leaves.{leaves, weight_from, weights_from, weight_left}
use Rattle.node_reuse.specs.Texts.{IsLightBy}
use Rattle.node_reuse.specs.Reading.{IsFollowing}
use Rattle.node_reuse.specs.Ahead.{ahead_at, fresh_left}
use Rattle.bracket_tree_rules.proofs.PartedLeaves.{node_weighs}
use Rattle.node_reuse.proofs.KeptCovers.{AreLight, cover_kept, cover_turned}

-- ---- where a reader is among the rows

lines_in_glue : (a b : List Row) → HasRow b → (rows_length a).lines < length (glue a b)
lines_in_glue [] [] h = elim h [ ]
lines_in_glue [] (s ∷ b) h = omega arith
lines_in_glue (r ∷ []) [] h = elim h [ ]
lines_in_glue (r ∷ []) (s ∷ b) h = omega arith
lines_in_glue (r ∷ x ∷ a) b h = omega (arith, lines_in_glue (x ∷ a) b h)

pub reached_within : (now : List Row) (p : Length) (ahead : List Row) → Reached now p ahead → p.lines < length now
reached_within now p ahead r =
    let lines : (rows_length r.done).lines ≡ p.lines = ap (λ (l : Length). l.lines) r.place in
    let rows : length now ≡ length (glue r.done ahead) = ap length r.spells in
    omega (arith, lines_in_glue r.done ahead r.has_ahead)

pub rows_count : (rows : List Row) → HasRow rows → length rows ≡ suc (rows_length rows).lines
rows_count [] h = elim h [ ]
rows_count (r ∷ []) h = refl
rows_count (r ∷ x ∷ rows) h = ap suc (rows_count (x ∷ rows) tt)

-- if nothing is ahead, the reader is in the last line
pub reached_end : (now : List Row) (p : Length) → Reached now p (empty_row ∷ []) → length now ≡ suc p.lines
reached_end now p r =
    let lines : (rows_length r.done).lines ≡ p.lines = ap (λ (l : Length). l.lines) r.place in
    let rows : length now ≡ length r.done = ap length (r.spells ∙ glue_empty r.done r.has_done) in
    omega (arith, rows_count r.done r.has_done)

-- ---- what kept lines may weigh

-- all lines of the run are within the bounds
light_run : (old : Tree) (marks : List Mark) (weights : List ℕ) (p : Length) (line k : ℕ) → IsLightBy old marks weights → IsKeptAs marks p line
    → k < kept_run (drop p.lines marks) → AreLight weights (leaves no_length old) (length_of line p.columns) p.lines k
light_run old marks weights p line k light kept h l i a b e =
    let m = l - line in
    let mark : mark_at (p.lines + m + 1) marks ≡ Kept (line + m + 1) = kept_run_mark marks line p.lines m kept (omega arith) in
    let at : mark_at (i + 1) marks ≡ Kept (l + 1) = ap (λ (n : ℕ). mark_at n marks) (omega arith) ∙ mark ∙ ap Kept (omega arith) in
    light i l at

-- ---- a node

-- after rows of length l, which were taken from the old text
pub record TookAt (old : Tree) (marks : List Mark) (now : List Row) (p : Length) (line : ℕ) (rows : List Row) (l : Length) : Type 0 where
  pub spells : rows_from p now ≡ glue rows (rows_from (length_plus p l) now)
  pub has_rest : HasRow (rows_from (length_plus p l) now)
  pub reached : Reached now (length_plus p l) (rows_from (length_plus p l) now)
  pub goes_on : l.lines < kept_run (drop p.lines marks)
      → Follows old marks (length_plus p l) (rows_from (length_plus p l) now) (line + l.lines)

pub took_at : (old : Tree) (marks : List Mark) (now : List Row) (p : Length) (line : ℕ) (rows : List Row) (l : Length) → rows_length rows ≡ l
    → Took old marks now p (rows_from p now) line rows → TookAt old marks now p line rows l
took_at old marks now p line rows l e t =
    let m = rows_length rows in
    let left : t.left ≡ rows_from (length_plus p m) now = sym (Reached-rows now (length_plus p m) t.left t.reached) in
    let whole : TookAt old marks now p line rows m = record {
      spells = t.spells ∙ ap (glue rows) left;
      has_rest = subst HasRow left t.has_left;
      reached = subst (Reached now (length_plus p m)) left t.reached;
      goes_on = λ h. subst (λ (x : List Row). Follows old marks (length_plus p m) x (line + m.lines)) left (t.goes_on h);
    } in
    subst (TookAt old marks now p line rows) e whole

abbrev pub OldNode : Tree → List Mark → Length → ℕ → ℕ → ℕ → Tree → Type 0
OldNode old marks p line kinds level n =
    HasNode no_length old (length_of line p.columns) n × MayBeTaken (kept_run (drop p.lines marks)) kinds level n

pub node_took : (old : Tree) (marks : List Mark) (now : List Row) (weights : List ℕ) (p : Length) (line kinds level : ℕ) (n : Tree)
    → IsFollowing old marks now weights p line → OldNode old marks p line kinds level n → TookAt old marks now p line (tree_rows n) (tree_length n)
node_took old marks now weights p line kinds level n f h =
    took_at old marks now p line (tree_rows n) (tree_length n) (rows_length-tree n)
    (node_taken old marks now p (rows_from p now) line kinds level n f.tree f.reached f.follows h.0 h.1)

-- after a node that ends in the run the reader continues in it
pub node_goes_on : (old : Tree) (marks : List Mark) (now : List Row) (weights : List ℕ) (p : Length) (line kinds level : ℕ) (n : Tree)
    → IsFollowing old marks now weights p line → OldNode old marks p line kinds level n → (tree_length n).lines < kept_run (drop p.lines marks)
    → IsFollowing old marks now weights (length_plus p (tree_length n)) (line + (tree_length n).lines)
node_goes_on old marks now weights p line kinds level n f h k =
    let t : TookAt old marks now p line (tree_rows n) (tree_length n) = node_took old marks now weights p line kinds level n f h in
    record { tree = f.tree; light = f.light; count = f.count; reached = t.reached; follows = t.goes_on k }

zero_before : (a d : List ℕ) (x : ℕ) → glue_weights a (x ∷ d) ≡ glue_weights (glue_weights a (x ∷ [])) (0 ∷ d)
zero_before a d x =
    ap (λ (n : ℕ). glue_weights a (n ∷ d)) (omega arith) ∙ sym (glue_weights-assoc a (x ∷ []) (0 ∷ d))

old_end : (line : ℕ) (p l : Length) → length_plus (length_of line p.columns) l ≡ length_of (line + l.lines) (length_plus p l).columns
old_end line p l = refl

-- the weight left after a node that ends in the run
pub node_given : (old : Tree) (marks : List Mark) (now : List Row) (weights : List ℕ) (p : Length) (line kinds level : ℕ) (n : Tree)
    → IsFollowing old marks now weights p line → OldNode old marks p line kinds level n → (tree_length n).lines < kept_run (drop p.lines marks)
    → GivesNode (ahead_at now weights p (weight_left old (length_of line p.columns)))
    (ahead_at now weights (length_plus p (tree_length n))
    (weight_left old (length_of (line + (tree_length n).lines) (length_plus p (tree_length n)).columns))) kinds level n
node_given old marks now weights p line kinds level n f h k =
    let q = length_of line p.columns in
    let m = (tree_length n).lines in
    let x = weight_left old (length_plus q (tree_length n)) in
    let rest = drop (suc (p.lines + m)) weights in
    let t : TookAt old marks now p line (tree_rows n) (tree_length n) = node_took old marks now weights p line kinds level n f h in
    let within : p.lines + m < length weights =
    omega (arith, f.count, reached_within now (length_plus p (tree_length n)) (rows_from (length_plus p (tree_length n)) now) t.reached) in
    let covered : AreCovered (glue_weights (weights_from q m (leaves no_length old)) (0 ∷ rest)) (weight_left old q ∷ drop (suc p.lines) weights) =
    cover_kept weights (leaves no_length old) m q p.lines within (light_run old marks weights p line m f.light f.follows.kept k) in
    let same : glue_weights (tree_weights n) (x ∷ rest) ≡ glue_weights (weights_from q m (leaves no_length old)) (0 ∷ rest) =
    zero_before (tree_weights n) rest x ∙ ap (λ (a : List ℕ). glue_weights a (0 ∷ rest)) (sym (node_weighs old q n f.tree h.0)) in
    record {
      tree = IsTree-node no_length old q n f.tree h.0;
      some = h.1.some;
      fits = h.1.fits;
      spells = t.spells;
      weighs = subst (λ (a : List ℕ). AreCovered a (weight_left old q ∷ drop (suc p.lines) weights)) (sym same) covered;
      rest = t.has_rest;
    }

run_within : (lines columns run : ℕ) → lines_touched lines columns ≤ run → columns ≡ 0 → lines ≤ run
run_within lines zero run h e = h
run_within lines (suc columns) run h e = absurd (omega arith)

-- after a text that ends with a break the column is 0
pub columns_zero : (p l : Length) → 0 < l.lines → l.columns ≡ 0 → (length_plus p l).columns ≡ 0
columns_zero p l h e = rw (lt-ltb 0 l.lines h) e

-- the weight left after a node that ends at the start of a line, which is not entered
pub node_turned : (old : Tree) (marks : List Mark) (now : List Row) (weights : List ℕ) (p : Length) (line kinds level k : ℕ) (n : Tree)
    → IsFollowing old marks now weights p line → OldNode old marks p line kinds level n → (tree_length n).lines ≡ suc k → (tree_length n).columns ≡ 0
    → GivesNode (ahead_at now weights p (weight_left old (length_of line p.columns)))
    (ahead_at now weights (length_plus p (tree_length n)) (fresh_left weights (length_plus p (tree_length n)))) kinds level n
node_turned old marks now weights p line kinds level k n f h e c =
    let q = length_of line p.columns in
    let l = tree_length n in
    let r = length_plus p l in
    let x = weight_left old (length_plus q l) in
    let t : TookAt old marks now p line (tree_rows n) l = node_took old marks now weights p line kinds level n f h in
    let within : suc (p.lines + k) < length weights = omega (arith, f.count, reached_within now r (rows_from r now) t.reached) in
    let run : l.lines ≤ kept_run (drop p.lines marks) = run_within l.lines l.columns (kept_run (drop p.lines marks)) h.1.within c in
    let weighed : glue_weights (tree_weights n) (x ∷ []) ≡ weights_from q (suc k) (leaves no_length old) =
    sym (node_weighs old q n f.tree h.0) ∙ ap (λ (m : ℕ). weights_from q m (leaves no_length old)) e in
    let place : length_plus q l ≡ length_of (line + suc k) 0 =
    same_length (length_plus q l) (length_of (line + suc k) 0) (omega arith) (columns_zero q l (omega arith) c) in
    let last : x ≡ weight_from (length_of (line + suc k) 0) (leaves no_length old) = ap (weight_left old) place in
    let covered : AreCovered (glue_weights (tree_weights n) (drop (suc (p.lines + k)) weights)) (weight_left old q ∷ drop (suc p.lines) weights) =
    cover_turned weights (leaves no_length old) k q p.lines (tree_weights n) x (HasWeight-tree n) weighed last within
    (light_run old marks weights p line k f.light f.follows.kept (omega arith)) in
    let columns : r.columns ≡ 0 = columns_zero p l (omega arith) c in
    let line_at : suc (p.lines + k) ≡ r.lines = omega arith in
    let next : drop (suc (p.lines + k)) weights ≡ fresh_left weights r ∷ drop (suc r.lines) weights =
    drop-cons weights (suc (p.lines + k)) 0 within
    ∙ ap (λ (m : ℕ). slice_index weights m ∷ drop (suc m) weights) line_at
    ∙ ap (λ (m : ℕ). m ∷ drop (suc r.lines) weights) (omega arith) in
    record {
      tree = IsTree-node no_length old q n f.tree h.0;
      some = h.1.some;
      fits = h.1.fits;
      spells = t.spells;
      weighs = subst (λ (a : List ℕ). AreCovered (glue_weights (tree_weights n) a) (weight_left old q ∷ drop (suc p.lines) weights)) next covered;
      rest = t.has_rest;
    }
