-- The definitions of starts by the places at which breaks end.
use Rattle.std.proofs.Common.{◌≡◌, ℕ, ◌+◌, ◌<◌, ◌≤◌, true, false, List, [], ◌∷◌, ◌++◌, length, drop, get_or, refl, ap, sym, ◌∙◌, add-zero, add_assoc, append_assoc, arith}
use Rattle.std.proofs.lemmas.Bool.{le-leb}
use Rattle.std.proofs.lemmas.List.{drop_more, drop_all, get_or-drop}
use Rattle.text_lengths.specs.declared.Length.{Length}
use Rattle.text_lengths.specs.Length.{length_of, length_plus}
use Rattle.text_lengths.proofs.Lengths.{plus_none}
use Rattle.text_rules.specs.Lines.{text_length}
use Rattle.text_rules.proofs.TextLengths.{counted_break, counted_column}
use Rattle.line_starts.specs.Starts.{starts_of, break_count, break_ends_at}
use Rattle.text_rules.specs.Breaks.{break_ends, count_to, ends_break}
use Rattle.text_rules.proofs.Breaks.{starts_are, break_ends_moved, line_count_is, drop-count_to, count_to-drop, count_to_none}

pub starts_of_is : (x : List ℕ) → starts_of x ≡ 0 ∷ break_ends 0 x
starts_of_is x = starts_are x

pub break_count_is : (x : List ℕ) → break_count x ≡ length (break_ends 0 x)
break_count_is x = omega (arith, line_count_is x)

pub break_ends_at_is : (place : ℕ) (x : List ℕ) → break_ends_at place x ≡ break_ends place x
break_ends_at_is place x = rw (starts_of_is x) (sym (break_ends_moved place 0 x) ∙ ap (λ n. break_ends n x) (add-zero place))

module _ (at i : ℕ) (x : List ℕ) (inside : i < length x) where
  pub break_ends_at_end : ends_break (get_or x i 0) (drop (i + 1) x) ≡ true → break_ends at (drop i x) ≡ (at + 1) ∷ break_ends (at + 1) (drop (i + 1) x)
  break_ends_at_end e = rw (drop_more x i 0 inside, e)

  pub break_ends_at_other : ends_break (get_or x i 0) (drop (i + 1) x) ≡ false → break_ends at (drop i x) ≡ break_ends (at + 1) (drop (i + 1) x)
  break_ends_at_other e = rw (drop_more x i 0 inside, e)

-- how many breaks end up to a place, one unit further on
module _ (i : ℕ) (x : List ℕ) (inside : i < length x) where
  further : count_to i (break_ends 0 x) + count_to (i + 1) (break_ends i (drop i x)) ≡ count_to (i + 1) (break_ends 0 x)
  further =
      ap (λ s. count_to i (break_ends 0 x) + count_to (i + 1) s) (sym (drop-count_to 0 i i x (omega arith))) ∙ count_to-drop i (i + 1) (break_ends 0 x) (omega arith)

  pub count_at_end : ends_break (get_or x i 0) (drop (i + 1) x) ≡ true
      → (count_to (i + 1) (break_ends 0 x) ≡ count_to i (break_ends 0 x) + 1) × (get_or (break_ends 0 x) (count_to i (break_ends 0 x)) 0 ≡ i + 1)
  count_at_end e =
      let here : break_ends i (drop i x) ≡ (i + 1) ∷ break_ends (i + 1) (drop (i + 1) x) = break_ends_at_end i i x inside e in
      let none : count_to (i + 1) (break_ends (i + 1) (drop (i + 1) x)) ≡ 0 = count_to_none (i + 1) (i + 1) (drop (i + 1) x) (omega arith) in
      let one : count_to (i + 1) ((i + 1) ∷ break_ends (i + 1) (drop (i + 1) x)) ≡ 1 = rw (le-leb (i + 1) (i + 1) (omega arith), none) refl in
      let rest : drop (count_to i (break_ends 0 x)) (break_ends 0 x) ≡ (i + 1) ∷ break_ends (i + 1) (drop (i + 1) x) = drop-count_to 0 i i x (omega arith) ∙ here in
      let first : get_or (drop (count_to i (break_ends 0 x)) (break_ends 0 x)) 0 0 ≡ get_or (break_ends 0 x) (count_to i (break_ends 0 x) + 0) 0 =
      get_or-drop (count_to i (break_ends 0 x)) (break_ends 0 x) 0 0 in (
        omega (arith, further, ap (count_to (i + 1)) here, one),
        ap (λ n. get_or (break_ends 0 x) n 0) (sym (add-zero (count_to i (break_ends 0 x)))) ∙ sym first ∙ ap (λ s. get_or s 0 0) rest,
      )

  pub count_at_other : ends_break (get_or x i 0) (drop (i + 1) x) ≡ false → count_to (i + 1) (break_ends 0 x) ≡ count_to i (break_ends 0 x)
  count_at_other e =
      let none : count_to (i + 1) (break_ends (i + 1) (drop (i + 1) x)) ≡ 0 = count_to_none (i + 1) (i + 1) (drop (i + 1) x) (omega arith) in
      omega (arith, further, ap (count_to (i + 1)) (break_ends_at_other i i x inside e), none)

module _ (out whole : List ℕ) (start i : ℕ) (x : List ℕ) (inside : i < length x) where
  pub push_at_end : ends_break (get_or x i 0) (drop (i + 1) x) ≡ true → out ++ break_ends (start + i) (drop i x) ≡ whole
      → (out ++ (start + i + 1) ∷ []) ++ break_ends (start + (i + 1)) (drop (i + 1) x) ≡ whole
  push_at_end e so_far =
      append_assoc out ((start + i + 1) ∷ []) _
      ∙ ap (λ n. out ++ (start + i + 1) ∷ break_ends n (drop (i + 1) x)) (sym (add_assoc start i 1))
      ∙ ap (λ s. out ++ s) (sym (break_ends_at_end (start + i) i x inside e)) ∙ so_far

  pub push_at_other : ends_break (get_or x i 0) (drop (i + 1) x) ≡ false → out ++ break_ends (start + i) (drop i x) ≡ whole
      → out ++ break_ends (start + (i + 1)) (drop (i + 1) x) ≡ whole
  push_at_other e so_far =
      ap (λ n. out ++ break_ends n (drop (i + 1) x)) (sym (add_assoc start i 1))
      ∙ ap (λ s. out ++ s) (sym (break_ends_at_other (start + i) i x inside e)) ∙ so_far

-- 0, and then the place after each break
pub starts_after_0 : (new pushed old x : List ℕ) → pushed ≡ old ++ 0 ∷ [] → new ≡ pushed ++ break_ends_at 0 x → new ≡ old ++ starts_of x
starts_after_0 new pushed old x first rest = rw (rest, first, break_ends_at_is 0 x, starts_of_is x) (simp append_assoc)

-- ---- the length, counted up to a unit

module _ (lines columns i : ℕ) (x : List ℕ) (total : Length) (inside : i < length x)
    (so_far : length_plus (length_of lines columns) (text_length (drop i x)) ≡ total) where
  pub length_at_end : ends_break (get_or x i 0) (drop (i + 1) x) ≡ true
      → length_plus (length_of (lines + 1) 0) (text_length (drop (i + 1) x)) ≡ total
  length_at_end e =
      sym (counted_break lines columns (get_or x i 0) (drop (i + 1) x) e)
      ∙ ap (λ (s : List ℕ). length_plus (length_of lines columns) (text_length s)) (sym (drop_more x i 0 inside)) ∙ so_far

  pub length_at_other : ends_break (get_or x i 0) (drop (i + 1) x) ≡ false
      → length_plus (length_of lines (columns + 1)) (text_length (drop (i + 1) x)) ≡ total
  length_at_other e =
      sym (counted_column lines columns (get_or x i 0) (drop (i + 1) x) e)
      ∙ ap (λ (s : List ℕ). length_plus (length_of lines columns) (text_length s)) (sym (drop_more x i 0 inside)) ∙ so_far

-- ... up to the end
pub length_of_all : (lines columns i : ℕ) (x : List ℕ) → length x ≤ i
    → length_plus (length_of lines columns) (text_length (drop i x)) ≡ text_length x → length_of lines columns ≡ text_length x
length_of_all lines columns i x past so_far =
    sym (plus_none (length_of lines columns))
    ∙ ap (λ (s : List ℕ). length_plus (length_of lines columns) (text_length s)) (sym (drop_all i x past)) ∙ so_far
