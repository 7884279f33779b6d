-- The column of a place behind another one in its line.
use Rattle.std.proofs.Common.{◌≡◌, ℕ, suc, zero, ◌+◌, ◌-◌, ◌≤◌, Bool, true, false, cond, List, [], ◌∷◌, length, get_or, take, drop, Option, Some, None, option_map, refl, sym, ap, ◌∙◌, arith, leb-true, nat_le, nat_eq}
use Rattle.std.proofs.lemmas.Bool.{and_parts}
use Rattle.std.proofs.lemmas.Grind.{common_steps}
use Rattle.unit_text.specs.Units.{is_place}
use Rattle.column_encodings.specs.declared.Encoding.{Encoding}
use Rattle.column_encodings.specs.Columns.{is_pair, width, length_in, column_in}
use Rattle.textmodel_c.specs.Rules.{column_before}
use Rattle.column_encodings.proofs.Characters.{characters_lone, characters_pair, by_characters, length_past}
use Rattle.column_encodings.proofs.Places.{place_at_start, place_past_first, place_after, place_after_lone, place_after_pair, lone_in_front}

both_ways : (a b : Bool) → (a ≡ true → b ≡ true) → (b ≡ true → a ≡ true) → a ≡ b
both_ways true b there back = sym (there refl)
both_ways false true there back = back refl
both_ways false false there back = refl

shifted_not : (found : Option ℕ) → found ≡ option_map (λ c. 0 + c) found
shifted_not None = refl
shifted_not (Some c) = ap Some (omega arith)

shifted_twice : (m n k : ℕ) (found : Option ℕ) → m + n ≡ k → option_map (λ c. m + c) (option_map (λ c. n + c) found) ≡ option_map (λ c. k + c) found
shifted_twice m n k None is = refl
shifted_twice m n k (Some c) is = ap Some (omega (arith, is))

module _ (encoding : Encoding) where
  if_shifted : (place : Bool) (m n k : ℕ) → k ≡ m + n → (cond place (Some k) None) ≡ option_map (λ c. m + c) (cond place (Some n) None)
  if_shifted true m n k is = ap Some is
  if_shifted false m n k is = refl

  past_lone : (unit : ℕ) (after : List ℕ) (n : ℕ) → is_pair unit (get_or after 0 0) ≡ false
      → column_in encoding (unit ∷ after) (suc n) ≡ option_map (λ c. width encoding (unit ∷ []) + c) (column_in encoding after n)
  past_lone unit after n lone =
      let same : is_place (unit ∷ after) (suc n) ≡ is_place after n = both_ways (is_place (unit ∷ after) (suc n)) (is_place after n) (place_after unit after n) (place_after_lone unit after n lone) in
      let front = characters_lone unit (take n after) (lone_in_front unit after n lone) in
      let column = length_past encoding (unit ∷ take n after) (unit ∷ []) (take n after) front in
      ap (λ (b : Bool). cond b (Some (length_in encoding (unit ∷ take n after))) None) same
      ∙ if_shifted (is_place after n) (width encoding (unit ∷ [])) (length_in encoding (take n after)) (length_in encoding (unit ∷ take n after)) column

  past_pair : (high low : ℕ) (after : List ℕ) (n : ℕ) → is_pair high low ≡ true
      → column_in encoding (high ∷ low ∷ after) (suc (suc n)) ≡ option_map (λ c. width encoding (high ∷ low ∷ []) + c) (column_in encoding after n)
  past_pair high low after n pair =
      let same : is_place (high ∷ low ∷ after) (suc (suc n)) ≡ is_place after n = both_ways (is_place (high ∷ low ∷ after) (suc (suc n))) (is_place after n)
      (λ place. place_after low after n (place_after high (low ∷ after) (suc n) place)) (place_after_pair high low after n pair) in
      let front = characters_pair high low (take n after) pair in
      let column = length_past encoding (high ∷ low ∷ take n after) (high ∷ low ∷ []) (take n after) front in
      ap (λ (b : Bool). cond b (Some (length_in encoding (high ∷ low ∷ take n after))) None) same
      ∙ if_shifted (is_place after n) (width encoding (high ∷ low ∷ [])) (length_in encoding (take n after)) (length_in encoding (high ∷ low ∷ take n after)) column

  abbrev pub IsFurther : List ℕ → Type 0
  IsFurther units = (a n : ℕ) → is_place units a ≡ true
      → column_in encoding units (a + n) ≡ option_map (λ c. length_in encoding (take a units) + c) (column_in encoding (drop a units) n)

  from_start : (units : List ℕ) (n : ℕ) → column_in encoding units (0 + n) ≡ option_map (λ c. 0 + c) (column_in encoding units n)
  from_start units n = let same : 0 + n ≡ n = omega arith in ap (column_in encoding units) same ∙ shifted_not (column_in encoding units n)

  further_in_none : IsFurther []
  further_in_none zero n place = from_start [] n
  further_in_none (suc a) n place =
      let within : suc a ≤ 0 = leb-true (suc a) 0 (and_parts (nat_le (suc a) 0) _ place).0 in
      absurd (omega arith)

  further_after_lone : (unit : ℕ) (after : List ℕ) → is_pair unit (get_or after 0 0) ≡ false → IsFurther after → IsFurther (unit ∷ after)
  further_after_lone unit after lone further zero n place = from_start (unit ∷ after) n
  further_after_lone unit after lone further (suc a) n place =
      let front = characters_lone unit (take a after) (lone_in_front unit after a lone) in
      let column = length_past encoding (unit ∷ take a after) (unit ∷ []) (take a after) front in
      let next : suc a + n ≡ suc (a + n) = omega arith in
      ap (column_in encoding (unit ∷ after)) next ∙ past_lone unit after (a + n) lone
      ∙ ap (option_map (λ c. width encoding (unit ∷ []) + c)) (further a n (place_after unit after a place))
      ∙ shifted_twice (width encoding (unit ∷ [])) (length_in encoding (take a after)) (length_in encoding (unit ∷ take a after)) (column_in encoding (drop a after) n) (sym column)

  further_after_pair : (high low : ℕ) (after : List ℕ) → is_pair high low ≡ true → IsFurther after → IsFurther (high ∷ low ∷ after)
  further_after_pair high low after pair further zero n place = from_start (high ∷ low ∷ after) n
  further_after_pair high low after pair further (suc zero) n place =
      let none : is_place (high ∷ low ∷ after) 1 ≡ false = place_past_first high (low ∷ after) ∙ rw pair refl in
      absurd cc
  further_after_pair high low after pair further (suc (suc a)) n place =
      let front = characters_pair high low (take a after) pair in
      let column = length_past encoding (high ∷ low ∷ take a after) (high ∷ low ∷ []) (take a after) front in
      let next : suc (suc a) + n ≡ suc (suc (a + n)) = omega arith in
      ap (column_in encoding (high ∷ low ∷ after)) next ∙ past_pair high low after (a + n) pair
      ∙ ap (option_map (λ c. width encoding (high ∷ low ∷ []) + c)) (further a n (place_after low after a (place_after high (low ∷ after) (suc a) place)))
      ∙ shifted_twice (width encoding (high ∷ low ∷ [])) (length_in encoding (take a after)) (length_in encoding (high ∷ low ∷ take a after)) (column_in encoding (drop a after) n) (sym column)

  -- from one place on: what stands before it, and what stands between
  pub column_further : (units : List ℕ) (a n : ℕ) → is_place units a ≡ true
      → column_in encoding units (a + n) ≡ option_map (λ c. length_in encoding (take a units) + c) (column_in encoding (drop a units) n)
  column_further = by_characters IsFurther further_in_none further_after_lone further_after_pair

-- ---- from the last place on

at_place : (place : Bool) (length column : ℕ) → cond place (Some length) None ≡ Some column → (place ≡ true) × (length ≡ column)
at_place true length column is = (refl, let same : length ≡ column = cc in same)
at_place false length column is = absurd cc

not_behind : (before length : ℕ) → before ≤ length → nat_eq before (length + 1) ≡ false
not_behind before length within = grind (arith, common_steps)

-- the column of a place behind the last one
pub further_on : (encoding : Encoding) (units : List ℕ) (last column before : ℕ) (found : Option ℕ) → column_in encoding units last ≡ Some column
    → last ≤ before → found ≡ column_in encoding (drop last units) (before - last)
    → column_in encoding units before ≡ option_map (λ n. column + n) found
further_on encoding units last column before found is behind between =
    let parts = at_place (is_place units last) (length_in encoding (take last units)) column is in
    let whole : before ≡ last + (before - last) = omega (arith, behind) in
    ap (column_in encoding units) whole ∙ column_further encoding units last (before - last) parts.0
    ∙ ap (λ m. option_map (λ n. m + n) (column_in encoding (drop last units) (before - last))) parts.1
    ∙ ap (option_map (λ n. column + n)) (sym between)

pub further_before : (encoding : Encoding) (units : List ℕ) (last column before : ℕ) (found : Option ℕ) → column_in encoding units last ≡ Some column
    → last ≤ before → before ≤ length units → found ≡ column_in encoding (drop last units) (before - last)
    → column_before encoding units before ≡ option_map (λ n. column + n) found
further_before encoding units last column before found is behind within between =
    rw (not_behind before (length units) within) (further_on encoding units last column before found is behind between)
