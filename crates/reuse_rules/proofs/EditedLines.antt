-- Rows agree with an old text also after an edit, under the marks that the edit leaves.
use Rattle.std.proofs.Common.{◌≡◌, ℕ, zero, suc, ◌+◌, ◌-◌, ◌<◌, ◌≤◌, ◌⊎◌, inl, inr, Bool, true, false, List, [], ◌∷◌, ◌++◌, length, take, drop, refl, ap, sym, ◌∙◌, subst, append_assoc, arith}
use Rattle.std.specs.Prelude.{slice_index_or, replicate}
use Rattle.std.proofs.lemmas.Bool.{cases_lt}
use Rattle.std.proofs.lemmas.List.{length-drop, length-take, length-append, length-replicate, drop-drop, get_or-drop, get_or-take, get_or_append_left, get_or-append_right}
use Rattle.bracket_rules.specs.Rows.{Row}
use Rattle.bracket_rules.specs.TextRows.{empty_row}
use Rattle.hiding_rules.specs.Rows.{broken}
use Rattle.hiding_rules.proofs.Rows.{length-broken, drop-broken}
use Rattle.mark_rules.specs.declared.Mark.{Mark}
use Rattle.mark_rules.specs.declared.Mark.TheVariants.{Kept, New}
use Rattle.mark_rules.specs.Marks.{mark_at, kept_marks, clean_marks, edited_marks}
use Rattle.mark_rules.proofs.MarkLaws.{length-kept_marks, Rises-edited, Rises-clean}
use Rattle.reuse_rules.specs.Agreement.{Alike, GoOnAlike, BeginsAlike, Agrees}
use Rattle.reuse_rules.specs.Edits.{IsEdited}

-- ---- rows of lines

-- the row of a line that is not the last does not depend on what follows
alike_before : (old : List Row) (x y y' : Row) (lines lines' : List Row)
    → Alike 1 old (broken (x ∷ y ∷ lines)) → Alike 1 old (broken (x ∷ y' ∷ lines'))
alike_before [] x y y' lines lines' h = elim h [ ]
alike_before (r ∷ []) x y y' [] lines' h = elim h.1.0 [ ]
alike_before (r ∷ []) x y y' (z ∷ lines) lines' h = elim h.1.0 [ ]
alike_before (r ∷ s ∷ old) x y y' lines [] h = (h.0, (tt, tt))
alike_before (r ∷ s ∷ old) x y y' lines (z ∷ lines') h = (h.0, (tt, tt))

-- ---- marks of lines

is_kept : Mark → Bool
is_kept (Kept i) = true
is_kept New = false

mark_before : (a j : ℕ) (marks rest : List Mark) → j < a → a ≤ length marks → slice_index_or (take a marks ++ rest) j New ≡ slice_index_or marks j New
mark_before a j marks rest h k =
    let counted = length-take a marks in
    get_or_append_left (take a marks) rest New j (omega arith) ∙ get_or-take a marks j New h

mark_behind : (a j : ℕ) (marks rest : List Mark) → a ≤ length marks → a ≤ j → slice_index_or (take a marks ++ rest) j New ≡ slice_index_or rest (j - a) New
mark_behind a j marks rest k h =
    let counted = length-take a marks in
    get_or-append_right (take a marks) rest a j New (omega arith) h

no_kept_mark : (new m : ℕ) (rest : List Mark) (i : ℕ) → m < new → slice_index_or (replicate new New ++ rest) m New ≡ Kept i → ⊥
unfolding is_kept
no_kept_mark zero m rest i h e = absurd (omega arith)
no_kept_mark (suc new) zero rest i h e = let clash : false ≡ true = ap is_kept e in cc
no_kept_mark (suc new) (suc m) rest i h e = no_kept_mark new m rest i (omega arith) e

behind_new : (new m : ℕ) (rest : List Mark) → new ≤ m → slice_index_or (replicate new New ++ rest) m New ≡ slice_index_or rest (m - new) New
behind_new new m rest h = get_or-append_right (replicate new New) rest new m New (length-replicate new New) h

-- ---- the law

begins_edited : (a n m : ℕ) (marks : List Mark) → 1 ≤ m → a ≤ length marks → BeginsAlike marks
    → BeginsAlike (take a marks ++ (replicate m New ++ drop (a + n) marks))
begins_edited zero n zero marks h k b = absurd (omega arith)
begins_edited zero n (suc m) marks h k b = tt
begins_edited (suc a) n m [] h k b = absurd (omega arith)
begins_edited (suc a) n m (New ∷ marks) h k b = tt
begins_edited (suc a) n m (Kept i ∷ marks) h k b = b

-- a line before the edited ones is unchanged, and more lines follow in both texts
alike_in_front : (old : List Row) (a j n m : ℕ) (before after : List Row) → j < a → 1 ≤ n → 1 ≤ m
    → a + n ≤ length before → a + m ≤ length after → take a after ≡ take a before
    → Alike 1 old (broken (drop j before)) → Alike 1 old (broken (drop j after))
alike_in_front old zero j n m before after h k l f g e d = absurd (omega arith)
alike_in_front old (suc a) j n m [] after h k l f g e d = absurd (omega arith)
alike_in_front old (suc a) j n m (x ∷ before) [] h k l f g e d = absurd (omega arith)
alike_in_front old (suc a) (suc j) n m (x ∷ before) (y ∷ after) h k l f g e d =
    alike_in_front old a j n m before after (omega arith) k l (omega arith) (omega arith) (ap (drop 1) e) d
alike_in_front old (suc a) zero n m (x ∷ []) (y ∷ after) h k l f g e d = absurd (omega arith)
alike_in_front old (suc a) zero n m (x ∷ z ∷ before) (y ∷ []) h k l f g e d = absurd (omega arith)
alike_in_front old (suc a) zero n m (x ∷ z ∷ before) (y ∷ w ∷ after) h k l f g e d =
    let same : y ≡ x = ap (λ (lines : List Row). slice_index_or lines 0 empty_row) e in
    subst (λ (u : Row). Alike 1 old (broken (u ∷ w ∷ after))) (sym same) (alike_before old x z w before after d)

module _ (old : List Row) (first n m : ℕ) (marks : List Mark) (before after : List Row)
    (edit : IsEdited first n m before after) (agrees : Agrees old marks (broken before)) where
  as_many : length marks ≡ length before
  as_many = agrees.count ∙ length-broken before

  marks_behind : List Mark
  marks_behind = replicate m New ++ drop (first - 1 + n) marks

  parts : edited_marks first n m marks ≡ take (first - 1) marks ++ (replicate m New ++ drop (first - 1 + n) marks)
  parts = append_assoc (take (first - 1) marks) (replicate m New) (drop (first - 1 + n) marks)

  at_mark : (j i : ℕ) → mark_at (j + 1) (edited_marks first n m marks) ≡ Kept (i + 1)
      → slice_index_or (take (first - 1) marks ++ marks_behind) j New ≡ Kept (i + 1)
  unfolding marks_behind
  at_mark j i e =
      let here : j ≡ j + 1 - 1 = omega arith in
      ap (λ (ms : List Mark). slice_index_or ms j New) (sym parts) ∙ ap (λ (k : ℕ). slice_index_or (edited_marks first n m marks) k New) here ∙ e

  inside : first - 1 + n ≤ length marks
  inside = let counted = as_many in let within : first - 1 + n ≤ length before = edit.within in omega arith

  length-edited : length (edited_marks first n m marks) ≡ first - 1 + m + (length marks - (first - 1 + n))
  length-edited =
      let front = length-take (first - 1) marks in
      let middle : length (replicate m New) ≡ m = length-replicate m New in
      let rest = length-drop (first - 1 + n) marks in
      let behind = length-append (replicate m New) (drop (first - 1 + n) marks) in
      let all = length-append (take (first - 1) marks) (replicate m New ++ drop (first - 1 + n) marks) in
      let room = inside in
      ap length parts ∙ omega arith

  -- rows of lines whose rests are equal
  same_rows : (old' : List Row) (j k : ℕ) (xs ys : List Row) → drop j xs ≡ drop k ys
      → Alike 1 old' (drop k (broken ys)) → Alike 1 old' (drop j (broken xs))
  same_rows old' j k xs ys e h =
      subst (λ (rows : List Row). Alike 1 old' rows)
      (drop-broken k ys ∙ ap broken (sym e) ∙ sym (drop-broken j xs)) h

  in_front : (j i : ℕ) → mark_at (j + 1) (edited_marks first n m marks) ≡ Kept (i + 1) → j < first - 1
      → Alike 1 (drop i old) (drop j (broken after))
  in_front j i e h =
      let room = inside in
      let there : slice_index_or marks j New ≡ Kept (i + 1) = sym (mark_before (first - 1) j marks marks_behind h (omega arith)) ∙ at_mark j i e in
      let was = agrees.kept j i (omega arith) (ap (λ (k : ℕ). slice_index_or marks k New) (omega arith) ∙ there) in
      subst (λ (rows : List Row). Alike 1 (drop i old) rows) (sym (drop-broken j after))
      (alike_in_front (drop i old) (first - 1) j n m before after h edit.some edit.more edit.within edit.there edit.front
      (subst (λ (rows : List Row). Alike 1 (drop i old) rows) (drop-broken j before) was))

  behind_edit : (j i : ℕ) → j < length (edited_marks first n m marks) → mark_at (j + 1) (edited_marks first n m marks) ≡ Kept (i + 1)
      → first - 1 + m ≤ j → Alike 1 (drop i old) (drop j (broken after))
  unfolding marks_behind
  behind_edit j i l e h =
      let room = inside in
      let long = length-edited in
      let k : ℕ = first - 1 + n + (j - (first - 1 + m)) in
      let there : slice_index_or marks k New ≡ Kept (i + 1) =
      sym (get_or-drop (first - 1 + n) marks (j - (first - 1 + m)) New)
      ∙ ap (λ (x : ℕ). slice_index_or (drop (first - 1 + n) marks) x New) (omega arith)
      ∙ sym (behind_new m (j - (first - 1)) (drop (first - 1 + n) marks) (omega arith))
      ∙ sym (mark_behind (first - 1) j marks marks_behind (omega arith) (omega arith)) ∙ at_mark j i e in
      let was = agrees.kept k i (omega arith) (ap (λ (x : ℕ). slice_index_or marks x New) (omega arith) ∙ there) in
      let to_j : first - 1 + m + (j - (first - 1 + m)) ≡ j = omega arith in
      same_rows (drop i old) j k after before
      (ap (λ (x : ℕ). drop x after) (sym to_j) ∙ sym (drop-drop (j - (first - 1 + m)) (first - 1 + m) after)
      ∙ ap (drop (j - (first - 1 + m))) edit.rest ∙ drop-drop (j - (first - 1 + m)) (first - 1 + n) before) was

  in_edit : (j i : ℕ) → mark_at (j + 1) (edited_marks first n m marks) ≡ Kept (i + 1) → first - 1 ≤ j → j < first - 1 + m → ⊥
  unfolding marks_behind
  in_edit j i e h l =
      let room = inside in
      no_kept_mark m (j - (first - 1)) (drop (first - 1 + n) marks) (i + 1) (omega arith)
      (sym (mark_behind (first - 1) j marks marks_behind (omega arith) h) ∙ at_mark j i e)

  kept_edited : (j i : ℕ) → j < length (edited_marks first n m marks) → mark_at (j + 1) (edited_marks first n m marks) ≡ Kept (i + 1)
      → Alike 1 (drop i old) (drop j (broken after))
  kept_edited j i l e = elim (cases_lt j (first - 1)) [
    | inl h ↦ in_front j i e h
    | inr h ↦ elim (cases_lt j (first - 1 + m)) [ inl k ↦ absurd (in_edit j i e h k) | inr k ↦ behind_edit j i l e k ]
  ]

  -- a line that is kept after the edit was kept as the same one before it: it stands in front of the edited lines, or
  -- behind them
  pub kept_before : (j i : ℕ) → mark_at (j + 1) (edited_marks first n m marks) ≡ Kept (i + 1)
      → ((j < first - 1) × (mark_at (j + 1) marks ≡ Kept (i + 1)))
      ⊎ ((first - 1 + m ≤ j) × (mark_at (first - 1 + n + (j - (first - 1 + m)) + 1) marks ≡ Kept (i + 1)))
  unfolding marks_behind
  kept_before j i e =
      let room = inside in
      elim (cases_lt j (first - 1)) [
        | inl h ↦ inl (h, ap (λ (k : ℕ). slice_index_or marks k New) (omega arith) ∙ sym (mark_before (first - 1) j marks marks_behind h (omega arith)) ∙ at_mark j i e)
        | inr h ↦ elim (cases_lt j (first - 1 + m)) [
          | inl k ↦ absurd (in_edit j i e h k)
          | inr k ↦ inr (
            k,
            ap (λ (x : ℕ). slice_index_or marks x New) (omega arith)
                ∙ sym (get_or-drop (first - 1 + n) marks (j - (first - 1 + m)) New)
                ∙ ap (λ (x : ℕ). slice_index_or (drop (first - 1 + n) marks) x New) (omega arith)
                ∙ sym (behind_new m (j - (first - 1)) (drop (first - 1 + n) marks) (omega arith))
                ∙ sym (mark_behind (first - 1) j marks marks_behind (omega arith) (omega arith)) ∙ at_mark j i e,
          )
        ]
      ]

  -- the rows after the edit agree with the old text under the marks that it leaves
  pub Agrees-edited : Agrees old (edited_marks first n m marks) (broken after)
  Agrees-edited =
      let room = inside in
      let long = length-edited in
      let counted = as_many in
      let left = length-drop (first - 1 + m) after in
      let same = ap (λ (lines : List Row). length lines) edit.rest in
      let was = length-drop (first - 1 + n) before in
      let there : first - 1 + m ≤ length after = edit.there in
      let within : first - 1 + n ≤ length before = edit.within in
      let rows = length-broken after in
      record {
        count = omega arith;
        rises = Rises-edited first n m marks (omega (arith, edit.more)) agrees.rises;
        begins = subst BeginsAlike (sym parts) (begins_edited (first - 1) n m marks edit.more (omega arith) agrees.begins);
        kept = kept_edited;
      }

-- ---- after a parse

kept_at : (number n m : ℕ) → m < n → slice_index_or (kept_marks number n) m New ≡ Kept (number + m)
kept_at number zero m h = absurd (omega arith)
kept_at number (suc n) zero h = ap Kept (omega arith)
kept_at number (suc n) (suc m) h = kept_at (suc number) n m (omega arith) ∙ ap Kept (omega arith)

number_of : Mark → ℕ
number_of (Kept i) = i
number_of New = 0

go_on_same : (rows : List Row) → GoOnAlike rows rows
go_on_same [] = tt
go_on_same (r ∷ rows) = tt

alike_same : (rows : List Row) → 0 < length rows → Alike 1 rows rows
alike_same [] h = absurd (omega arith)
alike_same (r ∷ rows) h = (refl, (go_on_same rows, tt))

begins_clean : (n : ℕ) → BeginsAlike (clean_marks n)
begins_clean zero = tt
begins_clean (suc n) = refl

is_kept_at : (number n m : ℕ) → n ≤ m → slice_index_or (kept_marks number n) m New ≡ New
is_kept_at number zero m h = refl
is_kept_at number (suc n) zero h = absurd (omega arith)
is_kept_at number (suc n) (suc m) h = is_kept_at (suc number) n m (omega arith)

-- after a parse a line is kept as itself
pub kept_clean : (n j i : ℕ) → mark_at (j + 1) (clean_marks n) ≡ Kept (i + 1) → (j < n) × (i ≡ j)
unfolding is_kept number_of
kept_clean n j i e =
    let here : j + 1 - 1 ≡ j = omega arith in
    let at : slice_index_or (kept_marks 1 n) j New ≡ Kept (i + 1) = ap (λ (k : ℕ). slice_index_or (kept_marks 1 n) k New) (sym here) ∙ e in
    elim (cases_lt j n) [
      | inl h ↦ (h, let numbers : 1 + j ≡ i + 1 = ap number_of (sym (kept_at 1 n j h) ∙ at) in omega arith)
      | inr h ↦ let clash : false ≡ true = ap is_kept (sym (is_kept_at 1 n j h) ∙ at) in absurd (clash_of clash)
    ]
  where
    clash_of : false ≡ true → ⊥
    clash_of c = cc

-- a text agrees with itself if every line is kept
pub Agrees-clean : (rows : List Row) → Agrees rows (clean_marks (length rows)) rows
unfolding number_of
Agrees-clean rows = record {
  count = length-kept_marks 1 (length rows);
  rises = Rises-clean (length rows);
  begins = begins_clean (length rows);
  kept = λ j i h e.
      let counted = length-kept_marks 1 (length rows) in
      let here : slice_index_or (kept_marks 1 (length rows)) (j + 1 - 1) New ≡ Kept (1 + (j + 1 - 1)) = kept_at 1 (length rows) (j + 1 - 1) (omega arith) in
      let numbers : 1 + (j + 1 - 1) ≡ i + 1 = ap number_of (sym here ∙ e) in
      let same : j ≡ i = omega arith in
      let left = length-drop j rows in
      subst (λ (k : ℕ). Alike 1 (drop k rows) (drop j rows)) same (alike_same (drop j rows) (omega arith));
}
