-- From a valid offset to its column, and back to the offset.
use Rattle.std.proofs.Common.{◌≡◌, ℕ, suc, zero, ◌+◌, ◌-◌, ◌≤◌, true, false, nat_le, List, [], ◌∷◌, length, get_or, take, Some, option_map, refl, ap, ◌∙◌, arith, leb-true}
use Rattle.std.proofs.lemmas.Bool.{and_parts}
use Rattle.unit_text.specs.Units.{is_place}
use Rattle.column_encodings.specs.declared.Encoding.{Encoding}
use Rattle.column_encodings.specs.Columns.{is_pair, characters, width, length_in, offset_among, offset_of}
use Rattle.column_encodings.proofs.Characters.{characters_lone, characters_pair, by_characters, length_past, width_lone, width_pair, offset_past}
use Rattle.column_encodings.proofs.Places.{place_past_first, place_after, lone_in_front}

module _ (encoding : Encoding) where
  pub at_start : (cs : List (List ℕ)) → offset_among encoding cs 0 ≡ Some 0
  at_start [] = refl
  at_start (character ∷ after) = refl

  found_past : (units character after : List ℕ) (column offset : ℕ) → characters units ≡ character ∷ characters after
      → 1 ≤ width encoding character → offset_of encoding after column ≡ Some offset
      → offset_of encoding units (width encoding character + column) ≡ Some (length character + offset)
  found_past units character after column offset first wide found =
      let less : width encoding character + column - width encoding character ≡ column = omega arith in
      ap (λ cs. offset_among encoding cs (width encoding character + column)) first
      ∙ offset_past encoding character (characters after) _ (omega arith) (omega arith)
      ∙ rw less (ap (option_map (λ n. length character + n)) found)

  abbrev pub IsThere : List ℕ → Type 0
  IsThere units = (offset : ℕ) → is_place units offset ≡ true
      → offset_of encoding units (length_in encoding (take offset units)) ≡ Some offset

  there_in_none : IsThere []
  there_in_none zero place = refl
  there_in_none (suc n) place =
      let within : suc n ≤ 0 = leb-true (suc n) 0 (and_parts (nat_le (suc n) 0) _ place).0 in
      absurd (omega arith)

  there_after_lone : (unit : ℕ) (after : List ℕ) → is_pair unit (get_or after 0 0) ≡ false → IsThere after → IsThere (unit ∷ after)
  there_after_lone unit after lone there zero place = at_start _
  there_after_lone unit after lone there (suc n) place =
      let front = characters_lone unit (take n after) (lone_in_front unit after n lone) in
      let column = length_past encoding (unit ∷ take n after) (unit ∷ []) (take n after) front in
      ap (offset_of encoding (unit ∷ after)) column
      ∙ found_past (unit ∷ after) (unit ∷ []) after _ n (characters_lone unit after lone) (width_lone encoding unit).0
      (there n (place_after unit after n place))
      ∙ ap Some (omega arith)

  there_after_pair : (high low : ℕ) (after : List ℕ) → is_pair high low ≡ true → IsThere after → IsThere (high ∷ low ∷ after)
  there_after_pair high low after pair there zero place = at_start _
  there_after_pair high low after pair there (suc zero) place =
      let none : is_place (high ∷ low ∷ after) 1 ≡ false = place_past_first high (low ∷ after) ∙ rw pair refl in
      absurd cc
  there_after_pair high low after pair there (suc (suc n)) place =
      let front = characters_pair high low (take n after) pair in
      let column = length_past encoding (high ∷ low ∷ take n after) (high ∷ low ∷ []) (take n after) front in
      ap (offset_of encoding (high ∷ low ∷ after)) column
      ∙ found_past (high ∷ low ∷ after) (high ∷ low ∷ []) after _ n (characters_pair high low after pair)
      (width_pair encoding high low).0 (there n (place_after low after n (place_after high (low ∷ after) (suc n) place)))
      ∙ ap Some (omega arith)

  pub offset_of_place : (units : List ℕ) (offset : ℕ) → is_place units offset ≡ true
      → offset_of encoding units (length_in encoding (take offset units)) ≡ Some offset
  offset_of_place = by_characters IsThere there_in_none there_after_lone there_after_pair
