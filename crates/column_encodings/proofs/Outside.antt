-- Columns inside a character, and beyond the last one.
use Rattle.std.proofs.Common.{◌≡◌, ℕ, ◌+◌, ◌-◌, ◌<◌, Bool, true, false, nat_le, List, [], ◌∷◌, ◌++◌, length, sum_by, None, option_map, refl, ap, ◌∙◌, arith, leb-true, ne_eqb}
use Rattle.std.proofs.lemmas.Bool.Decides.{nat_tests}
use Rattle.std.proofs.lemmas.List.Sums.{sum_by-cons}
use Rattle.column_encodings.specs.declared.Encoding.{Encoding}
use Rattle.column_encodings.specs.Columns.{width, offset_among}
use Rattle.column_encodings.proofs.Characters.{offset_past}

module _ (encoding : Encoding) where
  too_wide : (m n : ℕ) → n < m → nat_le m n ≡ false
  too_wide m n above = grind (arith, nat_tests)

  pub falls_inside : (before : List (List ℕ)) (character : List ℕ) (after : List (List ℕ)) (n : ℕ) → 0 < n → n < width encoding character
      → offset_among encoding (before ++ character ∷ after) (sum_by (width encoding) before + n) ≡ None
  falls_inside [] character after n some within =
      let column : 0 + n ≡ n = omega arith in
      ap (offset_among encoding (character ∷ after)) column ∙ rw (ne_eqb n 0 (omega arith), too_wide _ n within) refl
  falls_inside (first ∷ before) character after n some within =
      let behind = sum_by (width encoding) before + n in
      let column : sum_by (width encoding) (first ∷ before) + n ≡ width encoding first + behind =
      omega (arith, sum_by-cons (width encoding) first before) in
      let less : width encoding first + behind - width encoding first ≡ behind = omega arith in
      ap (offset_among encoding (first ∷ before ++ character ∷ after)) column
      ∙ offset_past encoding first (before ++ character ∷ after) _ (omega arith) (omega arith)
      ∙ rw less (ap (option_map (λ offset. length first + offset)) (falls_inside before character after n some within))

  falls_by : (character : List ℕ) (after : List (List ℕ)) (column : ℕ) (fits : Bool) → nat_le (width encoding character) column ≡ fits
      → 0 < column → offset_among encoding after (column - width encoding character) ≡ None
      → offset_among encoding (character ∷ after) column ≡ None
  falls_by character after column true fits some behind =
      offset_past encoding character after column some (leb-true _ _ fits) ∙ ap (option_map (λ offset. length character + offset)) behind
  falls_by character after column false fits some behind = rw (ne_eqb column 0 (omega arith), fits) refl

  pub falls_beyond : (cs : List (List ℕ)) (column : ℕ) → sum_by (width encoding) cs < column → offset_among encoding cs column ≡ None
  falls_beyond [] column beyond = rw (ne_eqb column 0 (omega arith)) refl
  falls_beyond (character ∷ after) column beyond =
      let whole = sum_by-cons (width encoding) character after in
      falls_by character after column _ refl (omega arith)
      (falls_beyond after (column - width encoding character) (omega arith))
