-- Whether a number comes twice, as its neighbours tell after a sort.
use Rattle.std.proofs.Common.{◌≡◌, ℕ, ◌+◌, ◌<◌, suc, zero, Bool, true, false, not, ltb, eqb, List, [], ◌∷◌, length, get_or, refl, sym, arith}
use Rattle.std.specs.List.{list_any, IsAllAdjacentAnswer}
use Rattle.std.specs.List.Sorted.{IsPermutation, IsNonDecreasing}
use Rattle.std.proofs.lemmas.Bool.{or_parts, or_from, both_ways, eqb-false, eq-eqb, ne_eqb, ltb-true, ltb-false, true_from_ne_false}
use Rattle.std.proofs.lemmas.List.Folds.{list_any_none, list_any_at}
use Rattle.std.proofs.lemmas.List.Sorted.{IsPermutation-sym}
use Rattle.std.proofs.lemmas.Map.Keys.{apart_from_distinct, IsDistinct-from_apart, IsDistinct-IsPermutation}
use Rattle.decoration_rules.specs.Decorations.{has_repeat}

abbrev AreApart : List ℕ → Type 0
AreApart xs = (i j d : ℕ) → i < j → j < length xs → eqb (get_or xs i d) (get_or xs j d) ≡ false

single_from_apart : (xs : List ℕ) → AreApart xs → has_repeat xs ≡ false
single_from_apart [] apart = refl
single_from_apart (x ∷ xs) apart =
    or_from (list_any (λ other. eqb other x) xs) (has_repeat xs)
    (list_any_none (λ other. eqb other x) xs (λ k d inside. ne_eqb (get_or xs k d) x (λ same.
    eqb-false x (get_or xs k d) (apart zero (suc k) d (omega arith) (omega arith)) (sym same))))
    (single_from_apart xs (λ i j d below inside. apart (suc i) (suc j) d (omega arith) (omega arith)))

apart_from_single : (xs : List ℕ) → has_repeat xs ≡ false → AreApart xs
apart_from_single [] single i j d below inside = absurd (omega arith)
apart_from_single (x ∷ xs) single i zero d below inside = absurd (omega arith)
apart_from_single (x ∷ xs) single zero (suc j) d below inside =
    ne_eqb x (get_or xs j d) (λ same. both_ways (list_any (λ other. eqb other x) xs) (or_parts (list_any (λ other. eqb other x) xs) (has_repeat xs) single).0
    (list_any_at (λ other. eqb other x) xs j d (omega arith) (eq-eqb (get_or xs j d) x (sym same))))
apart_from_single (x ∷ xs) single (suc i) (suc j) d below inside =
    apart_from_single xs (or_parts (list_any (λ other. eqb other x) xs) (has_repeat xs) single).1 i j d (omega arith) (omega arith)

eqb-flips : (x y : ℕ) → eqb x y ≡ eqb y x
eqb-flips x y = grind arith

apart_moved : (xs ys : List ℕ) → IsPermutation xs ys → AreApart xs → AreApart ys
apart_moved xs ys moved apart i j d below inside =
    apart_from_distinct eqb ys i j d (IsDistinct-IsPermutation eqb eqb-flips xs ys moved (IsDistinct-from_apart eqb xs apart)) below inside

-- each is below the next, so below all later ones
rising_far : (xs : List ℕ) → IsNonDecreasing xs → ((k d : ℕ) → k + 1 < length xs → get_or xs k d < get_or xs (k + 1) d) → AreApart xs
rising_far xs sorted next i j d below inside =
    ne_eqb (get_or xs i d) (get_or xs j d) (λ same. absurd (omega (arith, same, next i d (omega arith), sorted (i + 1) j d (omega arith) inside)))

-- of numbers in order one comes twice where one is not below the next
pub has_repeat-sorted : (xs ys : List ℕ) (rises : Bool) → IsPermutation xs ys → IsNonDecreasing ys → IsAllAdjacentAnswer (λ x y b. b ≡ ltb x y) ys rises
    → not rises ≡ has_repeat xs
has_repeat-sorted xs ys true moved sorted all =
    sym (single_from_apart xs (apart_moved ys xs (IsPermutation-sym xs ys moved)
    (rising_far ys sorted (λ k d inside. ltb-true (get_or ys k d) (get_or ys (k + 1) d) (sym (all k d inside))))))
has_repeat-sorted xs ys false moved sorted some =
    sym (true_from_ne_false (has_repeat xs) (λ single.
    let here : eqb (get_or ys some.0 0) (get_or ys (some.0 + 1) 0) ≡ false =
    apart_moved xs ys moved (apart_from_single xs single) some.0 (some.0 + 1) 0 (omega arith) some.1 in
    eqb-false (get_or ys some.0 0) (get_or ys (some.0 + 1) 0) here
    (omega (arith, ltb-false (get_or ys some.0 0) (get_or ys (some.0 + 1) 0) (sym (some.2 0)), sorted some.0 (some.0 + 1) 0 (omega arith) some.1))))
