-- Valid offsets, character by character.
use Rattle.std.proofs.Common.{◌≡◌, ℕ, suc, zero, ◌-◌, true, false, not, nat_le, nat_lt, List, [], ◌∷◌, length, get_or, take, refl, sym, ◌∙◌, arith, lt-ltb, le-leb}
use Rattle.std.proofs.lemmas.Bool.Decides.{nat_tests}
use Rattle.unit_text.specs.Units.{is_place}
use Rattle.column_encodings.specs.Columns.{is_pair}
use Rattle.column_encodings.proofs.Characters.{no_pair_at_end}

pub place_at_start : (units : List ℕ) → is_place units 0 ≡ true
place_at_start units = rw (le-leb 0 (length units) (omega arith))

-- an offset of at least 2 is valid exactly if the offset one less is valid in the units after the first unit
place_past : (unit : ℕ) (after : List ℕ) (n : ℕ) → is_place (unit ∷ after) (suc (suc n)) ≡ is_place after (suc n)
place_past unit after n =
    let far : suc (suc n) - 1 ≡ suc n = omega arith in
    let near : suc n - 1 ≡ n = omega arith in
    let above_far : nat_lt 0 (suc (suc n)) ≡ true = lt-ltb 0 (suc (suc n)) (omega arith) in
    let above_near : nat_lt 0 (suc n) ≡ true = lt-ltb 0 (suc n) (omega arith) in
    let within : nat_le (suc (suc n)) (suc (length after)) ≡ nat_le (suc n) (length after) = grind (arith, nat_tests) in
    rw (within, far, near, above_far, above_near) refl

pub place_past_first : (unit : ℕ) (after : List ℕ) → is_place (unit ∷ after) 1 ≡ not (is_pair unit (get_or after 0 0))
place_past_first unit after = rw (le-leb 1 (suc (length after)) (omega arith))

pub place_after : (unit : ℕ) (after : List ℕ) (n : ℕ) → is_place (unit ∷ after) (suc n) ≡ true → is_place after n ≡ true
place_after unit after zero place = place_at_start after
place_after unit after (suc n) place = sym (place_past unit after n) ∙ place

pub place_after_lone : (unit : ℕ) (after : List ℕ) (n : ℕ) → is_pair unit (get_or after 0 0) ≡ false → is_place after n ≡ true
    → is_place (unit ∷ after) (suc n) ≡ true
place_after_lone unit after zero lone place = place_past_first unit after ∙ rw lone refl
place_after_lone unit after (suc n) lone place = place_past unit after n ∙ place

low_begins_no_pair : (high low next : ℕ) → is_pair high low ≡ true → is_pair low next ≡ false
low_begins_no_pair high low next pair = grind (arith, nat_tests)

pub place_after_pair : (high low : ℕ) (after : List ℕ) (n : ℕ) → is_pair high low ≡ true → is_place after n ≡ true
    → is_place (high ∷ low ∷ after) (suc (suc n)) ≡ true
place_after_pair high low after n pair place =
    place_past high (low ∷ after) n
    ∙ place_after_lone low after n (low_begins_no_pair high low (get_or after 0 0) pair) place

-- a unit that does not begin a pair does not begin one in a prefix either
pub lone_in_front : (unit : ℕ) (after : List ℕ) (n : ℕ) → is_pair unit (get_or after 0 0) ≡ false
    → is_pair unit (get_or (take n after) 0 0) ≡ false
lone_in_front unit after zero lone = no_pair_at_end unit
lone_in_front unit [] (suc n) lone = lone
lone_in_front unit (next ∷ after) (suc n) lone = lone
