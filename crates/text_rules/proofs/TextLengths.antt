-- The length of a text unit by unit, and the length of two texts in sequence.
use Rattle.std.proofs.Common.{◌≡◌, ℕ, ◌+◌, ◌<◌, ◌==◌, Bool, true, false, ◌&&◌, ◌||◌, if◌then◌else◌, List, [], ◌∷◌, ◌++◌, length, refl, ap, sym, ◌∙◌, arith}
use Rattle.std.proofs.lemmas.Bool.{eqb-true, and_parts}
use Rattle.std.proofs.lemmas.Grind.{common_steps}
use Rattle.text_lengths.specs.declared.Length.{Length}
use Rattle.text_lengths.specs.Length.{length_of, no_length, length_plus}
use Rattle.text_lengths.proofs.Lengths.{same_length, none_plus, length_plus_assoc}
use Rattle.text_rules.specs.Lines.{Line, lines_of, line_feed, carriage_return, begins_with, in_first_line, in_first_break, length_of_lines, text_length}
use Rattle.text_rules.specs.Breaks.{ends_break, joins_pair}
use Rattle.text_rules.proofs.Breaks.{line_count_is, and_false}

-- the length that a unit adds: nothing if it joins the break after it, else one break or one column
abbrev added_by : Bool → Bool → Length
added_by joins breaks = if joins then no_length else (if breaks then length_of 1 0 else length_of 0 1)

step_length : (u : ℕ) (joins breaks : Bool) (lines : List Line) → 0 < length lines
    → length_of_lines (if joins then in_first_break u lines else (if breaks then record { content = []; break = u ∷ [] } ∷ lines else in_first_line u lines))
    ≡ length_plus (added_by joins breaks) (length_of_lines lines)
step_length u joins breaks [] some = absurd (omega arith)
step_length u true breaks (l ∷ []) some = sym (none_plus _)
step_length u true breaks (l ∷ m ∷ lines) some = sym (none_plus _)
step_length u false true (l ∷ lines) some = same_length _ _ (omega arith) (grind (arith, common_steps))
step_length u false false (l ∷ []) some = same_length _ _ (omega arith) (grind (arith, common_steps))
step_length u false false (l ∷ m ∷ lines) some = same_length _ _ (omega arith) (grind (arith, common_steps))

abbrev added_before : ℕ → List ℕ → Length
added_before u after = added_by (u == carriage_return && begins_with line_feed after) (u == carriage_return || u == line_feed)

text_length_step : (u : ℕ) (after : List ℕ) → text_length (u ∷ after) ≡ length_plus (added_before u after) (text_length after)
text_length_step u after =
    step_length u (u == carriage_return && begins_with line_feed after) (u == carriage_return || u == line_feed) (lines_of after)
    (omega (arith, line_count_is after))

-- ---- two texts

added_by_last : (cr lf joined : Bool) → (cr && joined) ≡ false → added_by (cr && joined) (cr || lf) ≡ added_by (cr && false) (cr || lf)
added_by_last cr lf joined e = rw (e, and_false cr) refl

added_in_front : (u : ℕ) (x y : List ℕ) → joins_pair (u ∷ x) y ≡ false → added_before u (x ++ y) ≡ added_before u x
added_in_front u [] y apart = added_by_last (u == carriage_return) (u == line_feed) (begins_with line_feed y) apart
added_in_front u (v ∷ x) y apart = refl

joins_pair_later : (u : ℕ) (x y : List ℕ) → joins_pair (u ∷ x) y ≡ false → joins_pair x y ≡ false
joins_pair_later u [] y apart = refl
joins_pair_later u (v ∷ x) y apart = apart

-- lengths add up, unless a CR LF lies across the border
pub text_length-append : (x y : List ℕ) → joins_pair x y ≡ false → text_length (x ++ y) ≡ length_plus (text_length x) (text_length y)
text_length-append [] y apart = sym (none_plus (text_length y))
text_length-append (u ∷ x) y apart =
    text_length_step u (x ++ y)
    ∙ ap (λ (a : Length). length_plus a (text_length (x ++ y))) (added_in_front u x y apart)
    ∙ ap (length_plus (added_before u x)) (text_length-append x y (joins_pair_later u x y apart))
    ∙ sym (length_plus_assoc (added_before u x) (text_length x) (text_length y))
    ∙ ap (λ (a : Length). length_plus a (text_length y)) (sym (text_length_step u x))

-- ---- lengths counted from the front

break_after : (lines columns : ℕ) (u : ℕ) (joins breaks : Bool) (t : Length) → (if joins then false else breaks) ≡ true
    → length_plus (length_of lines columns) (length_plus (added_by joins breaks) t) ≡ length_plus (length_of (lines + 1) 0) t
break_after lines columns u true breaks t e = absurd cc
break_after lines columns u false true t e = same_length _ _ (grind (arith, common_steps)) (grind (arith, common_steps))
break_after lines columns u false false t e = absurd cc

-- a unit that ends a break
pub counted_break : (lines columns u : ℕ) (after : List ℕ) → ends_break u after ≡ true
    → length_plus (length_of lines columns) (text_length (u ∷ after)) ≡ length_plus (length_of (lines + 1) 0) (text_length after)
counted_break lines columns u after e =
    ap (length_plus (length_of lines columns)) (text_length_step u after)
    ∙ break_after lines columns u (u == carriage_return && begins_with line_feed after) (u == carriage_return || u == line_feed) (text_length after) e

-- a text that begins with an LF has a break
lines_of_feed : (x : List ℕ) → begins_with line_feed x ≡ true → 0 < (text_length x).lines
lines_of_feed [] e = absurd cc
lines_of_feed (u ∷ after) e =
    let feed : u ≡ line_feed = eqb-true u line_feed e in
    let step : text_length (line_feed ∷ after) ≡ length_plus (length_of 1 0) (text_length after) = text_length_step line_feed after in
    let lines : (text_length (line_feed ∷ after)).lines ≡ 1 + (text_length after).lines = ap (λ (l : Length). l.lines) step in
    rw feed (omega arith)

column_after : (lines columns : ℕ) (joins breaks : Bool) (t : Length) → (joins ≡ true → 0 < t.lines) → (if joins then false else breaks) ≡ false
    → length_plus (length_of lines columns) (length_plus (added_by joins breaks) t) ≡ length_plus (length_of lines (columns + 1)) t
column_after lines columns true breaks t feed e =
    let some : 0 < t.lines = feed refl in
    ap (length_plus (length_of lines columns)) (none_plus t) ∙ same_length _ _ (grind (arith, common_steps)) (grind (arith, common_steps))
column_after lines columns false true t feed e = absurd cc
column_after lines columns false false t feed e = same_length _ _ (grind (arith, common_steps)) (grind (arith, common_steps))

-- a unit that ends no break; the column of a CR before an LF is dropped at the break
pub counted_column : (lines columns u : ℕ) (after : List ℕ) → ends_break u after ≡ false
    → length_plus (length_of lines columns) (text_length (u ∷ after)) ≡ length_plus (length_of lines (columns + 1)) (text_length after)
counted_column lines columns u after e =
    ap (length_plus (length_of lines columns)) (text_length_step u after)
    ∙ column_after lines columns (u == carriage_return && begins_with line_feed after) (u == carriage_return || u == line_feed) (text_length after)
    (λ joins. lines_of_feed after (and_parts _ _ joins).1) e
