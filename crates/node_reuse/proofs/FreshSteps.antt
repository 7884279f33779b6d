-- The steps of a reader in a line whose content was scanned.
use Rattle.std.proofs.Common.{◌≡◌, ℕ, suc, ◌+◌, ◌-◌, ◌<◌, ◌≤◌, List, [], ◌∷◌, ◌++◌, length, drop, refl, ap, sym, ◌∙◌, subst, arith, inl}
use Rattle.std.specs.Prelude.{slice_index, ⊤}
use Rattle.std.proofs.lemmas.List.{length-drop}
use Rattle.text_lengths.specs.declared.Length.{Length}
use Rattle.text_lengths.specs.Length.{length_of, length_plus}
use Rattle.text_lengths.proofs.Lengths.{same_length}
use Rattle.bracket_rules.specs.declared.Token.{Token}
use Rattle.bracket_rules.specs.declared.TheConstants.{MOST_OPEN}
use Rattle.bracket_rules.specs.Table.{token, AreInLine}
use Rattle.bracket_rules.specs.Rows.{Row, row}
use Rattle.bracket_rules.specs.TextRows.{HasRow, empty_row, shifted, glue}
use Rattle.bracket_tree_rules.specs.Tree.{text, wide, bracket_row}
use Rattle.bracket_tree_rules.specs.Places.{IsBounded, rows_from}
use Rattle.bracket_tree_rules.proofs.Glue.{empty_glue}
use Rattle.bracket_tree_rules.proofs.LineWeights.{AreCovered-same}
use Rattle.bracket_nodes.specs.Source.{GivesNode, GivesBracket}
use Rattle.bracket_nodes.specs.ScannedLines.{moved_back, rows_before}
use Rattle.bracket_nodes.proofs.ScannedSteps.{line_end, shifted-moved_back, HasRow-before, cut, token_parts, fits_text}
use Rattle.reuse_rules.specs.Following.{Reached}
use Rattle.reuse_rules.proofs.Followings.{Reached-next, Reached-rows}
use Rattle.node_reuse.specs.Texts.{brackets_end}
use Rattle.node_reuse.specs.Ahead.{ahead_at, fresh_left, weight_before, IsFresh}

-- ---- steps within the line

-- the reader after a part of the line
moved_on : (now : List Row) (weights : List ℕ) (p : Length) (d n : ℕ) (ts us : List Token) (front : List Token) → p.columns ≤ d
    → IsFresh now weights p ts n → IsBounded (row front (d - p.columns) ∷ []) → AreInLine d n us
    → moved_back p.columns ts ≡ front ++ shifted (d - p.columns) (moved_back d us)
    → weight_before p.columns ts n (drop (suc p.lines) now) ≡ weight_before d us n (drop (suc p.lines) now)
    → IsFresh now weights (length_of p.lines d) us n
moved_on now weights p d n ts us front h f b k e same =
    let rest = drop (suc p.lines) now in
    let within : d ≤ n = line_end d n us k in
    let parts : rows_before p.columns ts n rest ≡ glue (row front (d - p.columns) ∷ []) (rows_before d us n rest) =
    cut p.columns d n front us ts rest h within e in
    let place : length_plus p (length_of 0 (d - p.columns)) ≡ length_of p.lines d =
    same_length (length_plus p (length_of 0 (d - p.columns))) (length_of p.lines d) (omega arith) (omega arith) in
    record {
      reached =
          subst (λ (x : Length). Reached now x (rows_before d us n rest)) place
          (Reached-next now p (row front (d - p.columns) ∷ []) (rows_before d us n rest) tt (HasRow-before d us n rest) b
          (subst (Reached now p) parts f.reached));
      line = k;
      weight = f.weight ∙ same;
    }

pub rows_at : (now : List Row) (weights : List ℕ) (p : Length) (ts : List Token) (n : ℕ) → IsFresh now weights p ts n
    → rows_from p now ≡ rows_before p.columns ts n (drop (suc p.lines) now)
rows_at now weights p ts n f = Reached-rows now p (rows_before p.columns ts n (drop (suc p.lines) now)) f.reached

-- the columns read are deducted from those left
less_left : (w c d : ℕ) → c ≤ d → d ≤ w → (d - c) + (w - d) ≤ w - c
less_left w c d h k = omega arith

-- no column that the reader reaches exceeds the weight of the line
column_within : (now : List Row) (weights : List ℕ) (p : Length) (ts : List Token) (n : ℕ) → IsFresh now weights p ts n → p.columns ≤ slice_index weights p.lines
column_within now weights p ts n f =
    let w = f.weight in
    let within = before_within p.columns n ts (drop (suc p.lines) now) f.line in
    omega arith
  where
    end_within : (c n : ℕ) (ts : List Token) → AreInLine c n ts → c ≤ brackets_end c ts
    end_within c n [] h = omega arith
    end_within c n (t ∷ ts) h = let first : c ≤ t.at = h.0 in omega (arith, end_within (t.at + t.len) n ts h.3)

    before_within : (c n : ℕ) (ts : List Token) (rest : List Row) → AreInLine c n ts → c ≤ weight_before c ts n rest
    before_within c n ts [] h = line_end c n ts h
    before_within c n ts (r ∷ rest) h = omega (arith, end_within c n ts h)

-- the columns of a gap are read separately only before a bracket or in the last line
abbrev pub IsBeforeMore : List Token → List Row → Type 0
IsBeforeMore [] [] = ⊤
IsBeforeMore [] (r ∷ rest) = ⊥
IsBeforeMore (t ∷ ts) rest = ⊤

same_before : (c d n : ℕ) (ts : List Token) (rest : List Row) → IsBeforeMore ts rest → weight_before c ts n rest ≡ weight_before d ts n rest
same_before c d n [] [] m = refl
same_before c d n [] (r ∷ rest) m = elim m [ ]
same_before c d n (t ∷ ts) [] m = refl
same_before c d n (t ∷ ts) (r ∷ rest) m = refl

pub gap_next : (now : List Row) (weights : List ℕ) (p : Length) (d n : ℕ) (ts : List Token) → IsFresh now weights p ts n → p.columns < d → AreInLine d n ts
    → IsBeforeMore ts (drop (suc p.lines) now) → IsFresh now weights (length_of p.lines d) ts n
gap_next now weights p d n ts f h k more =
    let below : p.columns ≤ d = omega arith in
    moved_on now weights p d n ts ts [] below f tt k (sym (shifted-moved_back p.columns d n ts below k)) (same_before p.columns d n ts (drop (suc p.lines) now) more)

pub gap_given : (now : List Row) (weights : List ℕ) (p : Length) (d n kinds level : ℕ) (ts : List Token) → level ≤ MOST_OPEN → IsFresh now weights p ts n
    → p.columns < d → AreInLine d n ts → IsBeforeMore ts (drop (suc p.lines) now)
    → GivesNode (ahead_at now weights p (fresh_left weights p)) (ahead_at now weights (length_of p.lines d) (fresh_left weights (length_of p.lines d)))
    kinds level (text (wide (d - p.columns)))
gap_given now weights p d n kinds level ts room f h k more =
    let below : p.columns ≤ d = omega arith in
    let within : d ≤ n = line_end d n ts k in
    let rest = drop (suc p.lines) now in
    let g : IsFresh now weights (length_of p.lines d) ts n = gap_next now weights p d n ts f h k more in
    let parts : rows_before p.columns ts n rest ≡ glue (row [] (d - p.columns) ∷ []) (rows_before d ts n rest) =
    cut p.columns d n [] ts ts rest below within (sym (shifted-moved_back p.columns d n ts below k)) in
    let after : rows_from (length_of p.lines d) now ≡ rows_before d ts n rest = rows_at now weights (length_of p.lines d) ts n g in
    let weight = less_left (slice_index weights p.lines) p.columns d below (column_within now weights (length_of p.lines d) ts n g) in
    record {
      tree = inl (refl, omega arith);
      some = refl;
      fits = fits_text kinds level 0 (d - p.columns) room;
      spells = rows_at now weights p ts n f ∙ parts ∙ ap (glue (row [] (d - p.columns) ∷ [])) (sym after);
      weighs = (weight, AreCovered-same (drop (suc p.lines) weights));
      rest = subst HasRow (sym after) (HasRow-before d ts n rest);
    }

pub bracket_next : (now : List Row) (weights : List ℕ) (p : Length) (n : ℕ) (t : Token) (ts : List Token) → IsFresh now weights p (t ∷ ts) n → t.at ≤ p.columns
    → IsFresh now weights (length_of p.lines (p.columns + t.len)) ts n
bracket_next now weights p n t ts f h =
    let l : AreInLine p.columns n (t ∷ ts) = f.line in
    let first : p.columns ≤ t.at = l.0 in
    let some : 0 < t.len = l.1 in
    let here : t.at ≡ p.columns = omega arith in
    let line : AreInLine (p.columns + t.len) n ts = rw (← here) l.3 in
    moved_on now weights p (p.columns + t.len) n (t ∷ ts) ts (token 0 t.len t.kind t.opening ∷ []) (omega arith) f
    (omega arith, tt) line (token_parts p.columns n t ts here line) (same_behind (drop (suc p.lines) now) here)
  where
    same_behind : (rest : List Row) → t.at ≡ p.columns → weight_before p.columns (t ∷ ts) n rest ≡ weight_before (p.columns + t.len) ts n rest
    same_behind [] here = refl
    same_behind (r ∷ rest) here = ap (λ (c : ℕ). brackets_end (c + t.len) ts + 1) here

pub bracket_given : (now : List Row) (weights : List ℕ) (p : Length) (n : ℕ) (t : Token) (ts : List Token) → IsFresh now weights p (t ∷ ts) n → t.at ≤ p.columns
    → GivesBracket (ahead_at now weights p (fresh_left weights p))
    (ahead_at now weights (length_of p.lines (p.columns + t.len)) (fresh_left weights (length_of p.lines (p.columns + t.len)))) t.kind t.len t.opening
bracket_given now weights p n t ts f h =
    let l : AreInLine p.columns n (t ∷ ts) = f.line in
    let first : p.columns ≤ t.at = l.0 in
    let here : t.at ≡ p.columns = omega arith in
    let d = p.columns + t.len in
    let line : AreInLine d n ts = rw (← here) l.3 in
    let rest = drop (suc p.lines) now in
    let below : p.columns ≤ d = omega arith in
    let within : d ≤ n = line_end d n ts line in
    let width : d - p.columns ≡ t.len = omega arith in
    let g : IsFresh now weights (length_of p.lines d) ts n = bracket_next now weights p n t ts f h in
    let parts : rows_before p.columns (t ∷ ts) n rest ≡ glue (row (token 0 t.len t.kind t.opening ∷ []) (d - p.columns) ∷ []) (rows_before d ts n rest) =
    cut p.columns d n (token 0 t.len t.kind t.opening ∷ []) ts (t ∷ ts) rest below within (token_parts p.columns n t ts here line) in
    let after : rows_from (length_of p.lines d) now ≡ rows_before d ts n rest = rows_at now weights (length_of p.lines d) ts n g in
    let weight = less_left (slice_index weights p.lines) p.columns d below (column_within now weights (length_of p.lines d) ts n g) in
    record {
      has_kind = l.2;
      wide = l.1;
      spells =
          rows_at now weights p (t ∷ ts) n f ∙ parts
          ∙ ap (λ (m : ℕ). glue (row (token 0 t.len t.kind t.opening ∷ []) m ∷ []) (rows_before d ts n rest)) width
          ∙ ap (glue (bracket_row t.kind t.len t.opening)) (sym after);
      weighs = (omega arith, AreCovered-same (drop (suc p.lines) weights));
      rest = subst HasRow (sym after) (HasRow-before d ts n rest);
    }

-- ---- the line's break

-- a reader at the break moves to the start of the next line
pub break_next : (now : List Row) (weights : List ℕ) (p : Length) (n : ℕ) → IsFresh now weights p [] n → suc p.lines < length now
    → Reached now (length_of (suc p.lines) 0) (drop (suc p.lines) now)
break_next now weights p n f h = at_rest (drop (suc p.lines) now) f.reached (omega (arith, length-drop (suc p.lines) now))
  where
    at_rest : (rest : List Row) → Reached now p (rows_before p.columns [] n rest) → 0 < length rest → Reached now (length_of (suc p.lines) 0) rest
    at_rest [] r some = absurd (omega arith)
    at_rest (x ∷ rest) r some =
        let parts : empty_row ∷ x ∷ rest ≡ glue (empty_row ∷ empty_row ∷ []) (x ∷ rest) =
        ap (λ (y : List Row). empty_row ∷ y) (sym (empty_glue (x ∷ rest) tt)) in
        let place : length_plus p (length_of 1 0) ≡ length_of (suc p.lines) 0 =
        same_length (length_plus p (length_of 1 0)) (length_of (suc p.lines) 0) (omega arith) refl in
        subst (λ (y : Length). Reached now y (x ∷ rest)) place
        (Reached-next now p (empty_row ∷ empty_row ∷ []) (x ∷ rest) tt tt tt (subst (Reached now p) parts r))
