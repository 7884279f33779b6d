-- A reader that enters a line whose content was scanned, moves to the next line, or reaches the end.
use Rattle.std.proofs.Common.{◌≡◌, ℕ, zero, suc, ◌+◌, ◌-◌, ◌<◌, ◌≤◌, true, List, [], ◌∷◌, length, get_or, drop, refl, ap, sym, ◌∙◌, subst, arith, inr, drop-cons}
use Rattle.std.specs.Prelude.{slice_index}
use Rattle.std.proofs.lemmas.List.{length-drop, nil_from_length}
use Rattle.text_lengths.specs.declared.Length.{Length}
use Rattle.text_lengths.specs.Length.{length_of}
use Rattle.bracket_rules.specs.declared.Token.{Token}
use Rattle.bracket_rules.specs.declared.TheConstants.{MOST_OPEN}
use Rattle.bracket_rules.specs.Table.{is_table, AreInLine}
use Rattle.bracket_rules.specs.Rows.{Row, row}
use Rattle.bracket_rules.specs.TextRows.{HasRow, empty_row, glue}
use Rattle.hiding_rules.specs.declared.LineState.TheVariants.{Code}
use Rattle.hiding_rules.specs.Hidden.{Scanner, hidden_scan}
use Rattle.hiding_rules.specs.States.{line_states}
use Rattle.hiding_rules.specs.Rows.{line_by, lines_by, broken, hidden_rows}
use Rattle.hiding_rules.proofs.InLine.{hidden_tokens_in_line}
use Rattle.hiding_rules.proofs.Rows.{length-broken, length-states_from, length-lines_by, line_by-at}
use Rattle.bracket_tree_rules.specs.Tree.{text}
use Rattle.bracket_tree_rules.specs.Weights.{glue_weights, AreCovered}
use Rattle.bracket_tree_rules.specs.Places.{rows_from}
use Rattle.bracket_tree_rules.proofs.LineWeights.{AreCovered-same}
use Rattle.bracket_nodes.specs.Source.{GivesNode, IsOver}
use Rattle.bracket_nodes.specs.ScannedLines.{moved_back, rows_before}
use Rattle.reuse_rules.specs.Following.{Reached}
use Rattle.reuse_rules.proofs.Followings.{Reached-rows, Reached-line}
use Rattle.node_reuse.specs.Texts.{brackets_end, row_weights}
use Rattle.node_reuse.specs.Ahead.{ahead_at, fresh_left, weight_before, IsFresh}
use Rattle.bracket_nodes.proofs.ScannedSteps.{before_more, break_rows, fits_text}
use Rattle.bracket_nodes.proofs.Scans.{moved_back-zero}
use Rattle.node_reuse.proofs.FreshSteps.{rows_at, break_next}

-- ---- the line's break

some_row : (rows : List Row) → 0 < length rows → HasRow rows
some_row [] h = absurd (omega arith)
some_row (r ∷ rows) h = tt

-- if rows follow, the weight is the brackets' end and one for the break
some_break : (c n : ℕ) (ts : List Token) (rows : List Row) → 0 < length rows → weight_before c ts n rows ≡ brackets_end c ts + 1
some_break c n ts [] h = absurd (omega arith)
some_break c n ts (r ∷ rows) h = refl

covered_break : (weights : List ℕ) (i left : ℕ) → suc i < length weights → 1 ≤ left
    → AreCovered (glue_weights (1 ∷ 0 ∷ []) ((slice_index weights (suc i) - 0) ∷ drop (suc (suc i)) weights)) (left ∷ drop (suc i) weights)
covered_break weights i left h k =
    let next : drop (suc i) weights ≡ slice_index weights (suc i) ∷ drop (suc (suc i)) weights = drop-cons weights (suc i) 0 h in
    subst (λ (x : List ℕ). AreCovered (1 ∷ (0 + (slice_index weights (suc i) - 0)) ∷ drop (suc (suc i)) weights) (left ∷ x)) (sym next)
    (k, (omega arith, AreCovered-same (drop (suc (suc i)) weights)))

pub break_given : (now : List Row) (weights : List ℕ) (p : Length) (n kinds level : ℕ) → level ≤ MOST_OPEN → IsFresh now weights p [] n
    → length weights ≡ length now → suc p.lines < length now
    → GivesNode (ahead_at now weights p (fresh_left weights p))
    (ahead_at now weights (length_of (suc p.lines) 0) (fresh_left weights (length_of (suc p.lines) 0))) kinds level (text (length_of 1 0))
break_given now weights p n kinds level room f same more =
    let rest = drop (suc p.lines) now in
    let some : 0 < length rest = omega (arith, length-drop (suc p.lines) now) in
    let weight : slice_index weights p.lines ≡ p.columns + 1 = f.weight ∙ some_break p.columns n [] rest some in
    let left : 1 ≤ slice_index weights p.lines - p.columns = omega arith in
    let after : rows_from (length_of (suc p.lines) 0) now ≡ rest = Reached-rows now (length_of (suc p.lines) 0) rest (break_next now weights p n f more) in
    record {
      tree = inr (refl, refl);
      some = refl;
      fits = fits_text kinds level 1 0 room;
      spells =
          rows_at now weights p [] n f ∙ break_rows p.columns n rest (some_row rest some) ∙ ap (glue (empty_row ∷ empty_row ∷ [])) (sym after);
      weighs = covered_break weights p.lines (slice_index weights p.lines - p.columns) (omega arith) left;
      rest = subst HasRow (sym after) (some_row rest some);
    }

-- ---- the end

-- nothing is left of the last line
pub fresh_over : (now : List Row) (weights : List ℕ) (p : Length) (n left : ℕ) → IsFresh now weights p [] n → length weights ≡ length now
    → length now ≤ suc p.lines → n ≤ p.columns → IsOver (ahead_at now weights p left)
fresh_over now weights p n left f same last end =
    let none : drop (suc p.lines) now ≡ [] = nil_from_length (drop (suc p.lines) now) (omega (arith, length-drop (suc p.lines) now)) in
    let columns : n - p.columns ≡ 0 = omega arith in
    record {
      empty =
          rows_at now weights p [] n f ∙ ap (rows_before p.columns [] n) none ∙ ap (λ (m : ℕ). row [] m ∷ []) columns;
      last = nil_from_length (drop (suc p.lines) weights) (omega (arith, length-drop (suc p.lines) weights));
      asked = refl;
    }

-- ---- a line is entered

-- the row of a line, and those that follow it
broken_row : (rows : List Row) (i : ℕ) → i < length rows
    → drop i (broken rows)
    ≡ rows_before 0 (get_or rows i empty_row).brackets (get_or rows i empty_row).columns (drop (suc i) (broken rows))
broken_row [] i h = absurd (omega arith)
broken_row (r ∷ []) zero h =
    let columns : r.columns ≡ r.columns - 0 = omega arith in
    ap (λ (ts : List Token). row ts r.columns ∷ []) (sym (moved_back-zero r.brackets))
    ∙ ap (λ (n : ℕ). row (moved_back 0 r.brackets) n ∷ []) columns
broken_row (r ∷ []) (suc i) h = absurd (omega arith)
broken_row (r ∷ s ∷ rows) zero h =
    ap (λ (ts : List Token). row ts 0 ∷ broken (s ∷ rows)) (sym (moved_back-zero r.brackets))
    ∙ sym (before_more 0 r.brackets r.columns (broken (s ∷ rows)) (some_row (broken (s ∷ rows)) (omega (arith, length-broken (s ∷ rows)))))
broken_row (r ∷ s ∷ rows) (suc i) h = broken_row (s ∷ rows) i (omega arith)

weight-more : (r : Row) (rows : List Row) → 0 < length rows → slice_index (row_weights (r ∷ rows)) 0 ≡ brackets_end 0 r.brackets + 1
weight-more r [] h = absurd (omega arith)
weight-more r (s ∷ rows) h = refl

weight-later : (r : Row) (rows : List Row) (i : ℕ) → 0 < length rows → slice_index (row_weights (r ∷ rows)) (suc i) ≡ slice_index (row_weights rows) i
weight-later r [] i h = absurd (omega arith)
weight-later r (s ∷ rows) i h = refl

broken_weight : (rows : List Row) (i : ℕ) → i < length rows
    → slice_index (row_weights (broken rows)) i
    ≡ weight_before 0 (get_or rows i empty_row).brackets (get_or rows i empty_row).columns (drop (suc i) (broken rows))
broken_weight [] i h = absurd (omega arith)
broken_weight (r ∷ []) zero h = refl
broken_weight (r ∷ []) (suc i) h = absurd (omega arith)
broken_weight (r ∷ s ∷ rows) zero h =
    let some : 0 < length (broken (s ∷ rows)) = omega (arith, length-broken (s ∷ rows)) in
    weight-more (row r.brackets 0) (broken (s ∷ rows)) some
    ∙ sym (some_break 0 r.columns r.brackets (broken (s ∷ rows)) some)
broken_weight (r ∷ s ∷ rows) (suc i) h =
    weight-later (row r.brackets 0) (broken (s ∷ rows)) i (omega (arith, length-broken (s ∷ rows)))
    ∙ broken_weight (s ∷ rows) i (omega arith)

-- the start of a line of these rows
row_start : (rows : List Row) (i : ℕ) → i < length rows
    → AreInLine 0 (get_or rows i empty_row).columns (get_or rows i empty_row).brackets
    → Reached (broken rows) (length_of i 0) (rows_from (length_of i 0) (broken rows))
    → IsFresh (broken rows) (row_weights (broken rows)) (length_of i 0) (get_or rows i empty_row).brackets (get_or rows i empty_row).columns
row_start rows i h in_line r =
    let ahead : drop i (broken rows) ≡ rows_from (length_of i 0) (broken rows) =
    Reached-line (broken rows) i (rows_from (length_of i 0) (broken rows)) r in
    record {
      reached = subst (Reached (broken rows) (length_of i 0)) (sym ahead ∙ broken_row rows i h) r;
      line = in_line;
      weight = broken_weight rows i h;
    }

-- the tokens of line i, from 0
abbrev pub tokens_at : Scanner → List (List ℕ) → ℕ → List Token
tokens_at by xs i = (hidden_scan by (get_or (line_states by xs) i Code) (get_or xs i [])).tokens

-- at the start of a line its tokens are those of its content
pub fresh_start : (by : Scanner) (xs : List (List ℕ)) (i : ℕ) → is_table by.table ≡ true → i < length xs
    → Reached (hidden_rows by xs) (length_of i 0) (rows_from (length_of i 0) (hidden_rows by xs))
    → IsFresh (hidden_rows by xs) (row_weights (hidden_rows by xs)) (length_of i 0) (tokens_at by xs i) (length (get_or xs i []))
fresh_start by xs i is h r =
    let states = line_states by xs in
    let rows = lines_by by states xs in
    let as_many = length-states_from by Code xs in
    let counted = length-lines_by by states xs as_many in
    let at : get_or rows i empty_row ≡ line_by by (get_or states i Code) (get_or xs i []) = line_by-at by states xs i as_many h in
    let in_line = subst (λ (x : Row). AreInLine 0 x.columns x.brackets) (sym at) (hidden_tokens_in_line by is (get_or states i Code) (get_or xs i [])) in
    subst (λ (x : Row). IsFresh (broken rows) (row_weights (broken rows)) (length_of i 0) x.brackets x.columns) at
    (row_start rows i (omega (arith, h, counted)) in_line r)
