-- The units that a read returns: they are a prefix of the text, cut no pair, and are not empty if any units are left.
use Rattle.std.proofs.Common.{true≢false, ◌≡◌, ℕ, ◌-◌, ◌<◌, ◌≤◌, Bool, true, false, ◌&&◌, not, nat_lt, cond, List, ◌++◌, length, take, drop, get_or, refl, ap, ap₂, sym, subst, ◌∙◌, inl, inr, length-take, take-append-drop, le-leb, arith}
use Rattle.std.specs.Char.Utf16.{is_high_surrogate, is_low_surrogate}
use Rattle.std.proofs.lemmas.Bool.{cases_lt}
use Rattle.std.proofs.lemmas.Bool.Decides.{nat_tests}
use Rattle.std.proofs.lemmas.List.{take_all, get_or_past}
use Rattle.unit_text.specs.Units.{cuts_pair, is_place, IsPaired}
use Rattle.unit_text.proofs.Paired.{IsPaired-cut}
use Rattle.snapshot_rules.specs.Snapshots.{front, least_read}

high_not_low : (u : ℕ) → is_high_surrogate u ≡ true → is_low_surrogate u ≡ false
high_not_low u high = grind (arith, nat_tests)

last_false : (a b c : Bool) → c ≡ false → (a && b && c) ≡ false
last_false true true c e = e
last_false true false c e = refl
last_false false b c e = refl

parts : (a b c : Bool) → (a && b && c) ≡ true → (b ≡ true) × (c ≡ true)
parts true true c e = (refl, e)
parts true false c e = cc
parts false b c e = cc

module _ (x : List ℕ) where
  low_inside : (n : ℕ) → is_low_surrogate (get_or x n 0) ≡ true → n < length x
  low_inside n low = elim (cases_lt n (length x)) [
    | inl inside ↦ inside
    | inr past ↦ absurd (true≢false (sym low ∙ ap is_low_surrogate (get_or_past x n 0 past)))
  ]

  whole_is_place : is_place x (length x) ≡ true
  whole_is_place =
      let none : is_low_surrogate (get_or x (length x) 0) ≡ false = ap is_low_surrogate (get_or_past x (length x) 0 (omega arith)) in
      ap₂ (λ a b. a && not b) (le-leb (length x) (length x) (omega arith)) (last_false (nat_lt 0 (length x)) (is_high_surrogate (get_or x (length x - 1) 0)) _ none)

  length-front-cut : (count : ℕ) → cuts_pair x count ≡ true → (length (take (count - 1) x) ≡ count - 1) × (is_place x (count - 1) ≡ true)
  length-front-cut count cut =
      let both = parts (nat_lt 0 count) (is_high_surrogate (get_or x (count - 1) 0)) (is_low_surrogate (get_or x count 0)) cut in
      let inside = low_inside count both.1 in (
        omega (arith, length-take (count - 1) x, inside),
        ap₂ (λ a b. a && not b) (le-leb (count - 1) (length x) (omega (arith, inside)))
            (last_false (nat_lt 0 (count - 1)) (is_high_surrogate (get_or x (count - 1 - 1) 0)) _ (high_not_low (get_or x (count - 1) 0) both.0)),
      )

  front_place-by : (t : Bool) (count : ℕ) → cuts_pair x count ≡ t → is_place x (length (cond t (take (count - 1) x) (take count x))) ≡ true
  front_place-by true count cut = let facts = length-front-cut count cut in ap (is_place x) facts.0 ∙ facts.1
  front_place-by false count cut = elim (cases_lt count (length x)) [
    | inl inside ↦
        let size : length (take count x) ≡ count = omega (arith, length-take count x) in
        ap (is_place x) size ∙ ap₂ (λ a b. a && not b) (le-leb count (length x) (omega arith)) cut
    | inr past ↦ ap (λ y. is_place x (length y)) (take_all count x past) ∙ whole_is_place
  ]

  -- a read ends at a valid offset, so no pair is cut
  pub front_place : (count : ℕ) → is_place x (length (front count x)) ≡ true
  front_place count = front_place-by (cuts_pair x count) count refl

  take_own : (n : ℕ) → take (length (take n x)) x ≡ take n x
  take_own n = elim (cases_lt n (length x)) [
    | inl inside ↦ let size : length (take n x) ≡ n = omega (arith, length-take n x) in ap (λ k. take k x) size
    | inr past ↦ ap (λ y. take (length y) x) (take_all n x past) ∙ take_all (length x) x (omega arith) ∙ sym (take_all n x past)
  ]

  take_front-by : (t : Bool) (count : ℕ) → take (length (cond t (take (count - 1) x) (take count x))) x ≡ cond t (take (count - 1) x) (take count x)
  take_front-by true count = take_own (count - 1)
  take_front-by false count = take_own count

  pub take_front : (count : ℕ) → take (length (front count x)) x ≡ front count x
  take_front count = take_front-by (cuts_pair x count) count

  -- the units of a read and the unread rest together are the text
  pub front_rest : (count : ℕ) → front count x ++ drop (length (front count x)) x ≡ x
  front_rest count = ap (λ y. y ++ drop (length (front count x)) x) (sym (take_front count)) ∙ take-append-drop (length (front count x)) x

  front_some-by : (t : Bool) (count : ℕ) → least_read ≤ count → 0 < length x → 0 < length (cond t (take (count - 1) x) (take count x))
  front_some-by true count enough some = omega (arith, length-take (count - 1) x)
  front_some-by false count enough some = omega (arith, length-take count x)

  -- a read of a non-empty rest is not empty, so repeated reads reach the end
  pub front_some : (count : ℕ) → least_read ≤ count → 0 < length x → 0 < length (front count x)
  front_some count enough some = front_some-by (cuts_pair x count) count enough some

  pub IsPaired-front : (count : ℕ) → IsPaired x → IsPaired (front count x) × IsPaired (drop (length (front count x)) x)
  IsPaired-front count whole =
      let cut = IsPaired-cut x (length (front count x)) (front_place count) whole in
      (subst IsPaired (take_front count) cut.0, cut.1)
