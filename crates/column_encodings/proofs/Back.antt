-- From a column to its offset, and back to the column.
use Rattle.std.proofs.Common.{◌≡◌, ℕ, suc, zero, ◌+◌, ◌-◌, Bool, true, false, cond, nat_le, List, [], ◌∷◌, length, get_or, take, Option, Some, None, option_map, refl, subst, arith, leb-true, ne_eqb}
use Rattle.unit_text.specs.Units.{is_place}
use Rattle.column_encodings.specs.declared.Encoding.{Encoding}
use Rattle.column_encodings.specs.Columns.{is_pair, characters, width, length_in, offset_of}
use Rattle.column_encodings.proofs.Characters.{characters_lone, characters_pair, by_characters, length_past}
use Rattle.column_encodings.proofs.Places.{place_at_start, place_after_lone, place_after_pair, lone_in_front}
use Rattle.column_encodings.proofs.There.{at_start}

-- the offset is the size plus the found rest, and the condition was true
record Came (taken : Bool) (found : Option ℕ) (size offset : ℕ) : Type 0 where
  rest : ℕ
  is_taken : taken ≡ true
  is_found : found ≡ Some rest
  sum : size + rest ≡ offset

came : (taken : Bool) (found : Option ℕ) (size offset : ℕ) → cond taken (option_map (λ n. size + n) found) None ≡ Some offset
    → Came taken found size offset
came true (Some n) size offset is = record { rest = n; is_taken = refl; is_found = refl; sum = cc }
came true None size offset is = absurd cc
came false found size offset is = absurd cc

module _ (encoding : Encoding) where
  pub record Back (units : List ℕ) (column offset : ℕ) : Type 0 where
    pub place : is_place units offset ≡ true
    pub same : length_in encoding (take offset units) ≡ column

  abbrev IsBack : List ℕ → Type 0
  IsBack units = (column offset : ℕ) → offset_of encoding units column ≡ Some offset → Back units column offset

  back_at_start : (units : List ℕ) (offset : ℕ) → offset_of encoding units 0 ≡ Some offset → Back units 0 offset
  back_at_start units offset is =
      let start : 0 ≡ offset = let here = at_start encoding (characters units) in cc in
      subst (Back units 0) start (record { place = place_at_start units; same = refl })

  back_in_none : IsBack []
  back_in_none zero offset is = back_at_start [] offset is
  back_in_none (suc n) offset is =
      let none : offset_of encoding [] (suc n) ≡ None = rw (ne_eqb (suc n) 0 (omega arith)) refl in
      absurd cc

  came_past : (units character after : List ℕ) (n offset : ℕ) → characters units ≡ character ∷ characters after
      → offset_of encoding units (suc n) ≡ Some offset
      → Came (nat_le (width encoding character) (suc n)) (offset_of encoding after (suc n - width encoding character)) (length character) offset
  came_past units character after n offset first is =
      came _ _ _ _ (rw (first, ne_eqb (suc n) 0 (omega arith)) at is)

  back_after_lone : (unit : ℕ) (after : List ℕ) → is_pair unit (get_or after 0 0) ≡ false → IsBack after → IsBack (unit ∷ after)
  back_after_lone unit after lone back zero offset is = back_at_start (unit ∷ after) offset is
  back_after_lone unit after lone back (suc n) offset is =
      let past = came_past (unit ∷ after) (unit ∷ []) after n offset (characters_lone unit after lone) is in
      let behind = back _ _ past.is_found in
      let here : suc past.rest ≡ offset = omega (arith, past.sum) in
      let front = characters_lone unit (take past.rest after) (lone_in_front unit after past.rest lone) in
      let column = length_past encoding (unit ∷ take past.rest after) (unit ∷ []) (take past.rest after) front in
      subst (Back (unit ∷ after) (suc n)) here (record {
        place = place_after_lone unit after past.rest lone behind.place;
        same = omega (arith, column, behind.same, leb-true _ _ past.is_taken);
      })

  back_after_pair : (high low : ℕ) (after : List ℕ) → is_pair high low ≡ true → IsBack after → IsBack (high ∷ low ∷ after)
  back_after_pair high low after pair back zero offset is = back_at_start (high ∷ low ∷ after) offset is
  back_after_pair high low after pair back (suc n) offset is =
      let past = came_past (high ∷ low ∷ after) (high ∷ low ∷ []) after n offset (characters_pair high low after pair) is in
      let behind = back _ _ past.is_found in
      let here : suc (suc past.rest) ≡ offset = omega (arith, past.sum) in
      let front = characters_pair high low (take past.rest after) pair in
      let column = length_past encoding (high ∷ low ∷ take past.rest after) (high ∷ low ∷ []) (take past.rest after) front in
      subst (Back (high ∷ low ∷ after) (suc n)) here (record {
        place = place_after_pair high low after past.rest pair behind.place;
        same = omega (arith, column, behind.same, leb-true _ _ past.is_taken);
      })

  pub place_of_offset : (units : List ℕ) (column offset : ℕ) → offset_of encoding units column ≡ Some offset → Back units column offset
  place_of_offset = by_characters IsBack back_in_none back_after_lone back_after_pair
