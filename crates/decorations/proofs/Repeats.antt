-- Whether a number comes twice, before and after a sort.
use Rattle.std.proofs.Common.{◌≡◌, ℕ, ◌+◌, ◌<◌, ◌≤◌, suc, zero, Bool, true, false, not, ◌||◌, ltb, eqb, inl, inr, List, [], ◌∷◌, length, get_or, refl, sym, ◌∙◌, subst, arith}
use Rattle.std.specs.List.{list_any, IsAllAdjacentAnswer}
use Rattle.std.specs.List.Sorted.{IsPermutation, IsNonDecreasing}
use Rattle.std.proofs.lemmas.Bool.{or_parts, or_from, or_left, eqb-true, eq-eqb, ne_eqb, ltb-true, ltb-false, cases_Bool, both_ways}
use Rattle.std.proofs.lemmas.List.Folds.{list_any_none, list_any_at}
use Rattle.std.proofs.lemmas.List.Sorted.{sum_by-IsPermutation, IsPermutation-sym}
use Rattle.decoration_rules.specs.Decorations.{has_repeat}
use Rattle.interval_deltas.proofs.Counts.{once, times, times-cons, once-it, once-other, times-none, none-from_times}

abbrev same : ℕ → ℕ → Bool
same n other = eqb other n

abbrev names : ℕ → List ℕ → Bool
names n xs = list_any (same n) xs

-- A list has a repeat if some number is counted more than once.

times-single : (n : ℕ) (xs : List ℕ) → has_repeat xs ≡ false → times same n xs ≤ 1
times-single n [] single = omega arith
times-single n (x ∷ xs) single =
    let parts = or_parts (names x xs) (has_repeat xs) single in
    elim (cases_Bool (eqb x n)) [
      | inl is ↦
          let one : once same n x ≡ 1 = once-it same n x is in
          omega (arith, one, times-none same n xs (subst (λ m. names m xs ≡ false) (eqb-true x n is) parts.0), times-cons same n x xs)
      | inr other ↦
          let none : once same n x ≡ 0 = once-other same n x other in
          omega (arith, none, times-single n xs parts.1, times-cons same n x xs)
    ]

single-from_times : (xs : List ℕ) → ((n : ℕ) → times same n xs ≤ 1) → has_repeat xs ≡ false
single-from_times [] few = refl
single-from_times (x ∷ xs) few =
    or_from (names x xs) (has_repeat xs)
    (none-from_times same x xs (let one : once same x x ≡ 1 = once-it same x x (eq-eqb x x refl) in omega (arith, one, few x, times-cons same x x xs)))
    (single-from_times xs (λ n. omega (arith, few n, times-cons same n x xs)))

single-permutation : (xs ys : List ℕ) → IsPermutation xs ys → has_repeat xs ≡ false → has_repeat ys ≡ false
single-permutation xs ys moved single = single-from_times ys (λ n. omega (arith, sum_by-IsPermutation (once same n) xs ys moved, times-single n xs single))

has_repeat-permutation : (xs ys : List ℕ) → IsPermutation xs ys → has_repeat ys ≡ has_repeat xs
has_repeat-permutation xs ys moved = elim (cases_Bool (has_repeat xs)) [
  | inl twice ↦ elim (cases_Bool (has_repeat ys)) [
    | inl also ↦ also ∙ sym twice
    | inr single ↦ absurd (both_ways (has_repeat xs) (single-permutation ys xs (IsPermutation-sym xs ys moved) single) twice)
  ]
  | inr single ↦ single-permutation xs ys moved single ∙ sym single
]

-- The same by places.

pub twice-at : (xs : List ℕ) (i j d : ℕ) → i < j → j < length xs → get_or xs i d ≡ get_or xs j d → has_repeat xs ≡ true
twice-at [] i j d below j_in same = absurd (omega arith)
twice-at (x ∷ xs) i zero d below j_in same = absurd (omega arith)
twice-at (x ∷ xs) zero (suc j) d below j_in same =
    or_left (names x xs) (has_repeat xs) (list_any_at (λ other. eqb other x) xs j d (omega arith) (eq-eqb (get_or xs j d) x (sym same)))
twice-at (x ∷ xs) (suc i) (suc j) d below j_in same =
    or_true (names x xs) (has_repeat xs) (twice-at xs i j d (omega arith) (omega arith) same)
  where
    or_true : (a b : Bool) → b ≡ true → (a || b) ≡ true
    or_true true b is = refl
    or_true false b is = is

single-rising : (xs : List ℕ) → ((i j d : ℕ) → i < j → j < length xs → get_or xs i d < get_or xs j d) → has_repeat xs ≡ false
single-rising [] rising = refl
single-rising (x ∷ xs) rising =
    or_from (names x xs) (has_repeat xs)
    (list_any_none (λ other. eqb other x) xs (λ k d k_in. ne_eqb (get_or xs k d) x (λ same. absurd (omega (arith, same, rising zero (suc k) d (omega arith) (omega arith))))))
    (single-rising xs (λ i j d below j_in. rising (suc i) (suc j) d (omega arith) (omega arith)))

-- each is below the next, so below all later ones
rising_far : (xs : List ℕ) → IsNonDecreasing xs → ((k d : ℕ) → k + 1 < length xs → get_or xs k d < get_or xs (k + 1) d)
    → (i j d : ℕ) → i < j → j < length xs → get_or xs i d < get_or xs j d
rising_far xs sorted next i j d below j_in = omega (arith, next i d (omega arith), sorted (i + 1) j d (omega arith) j_in)

-- in a sorted list a number comes twice if one is not below the next
pub has_repeat-sorted : (xs ys : List ℕ) (rises : Bool) → IsPermutation xs ys → IsNonDecreasing ys → IsAllAdjacentAnswer (λ x y b. b ≡ ltb x y) ys rises
    → not rises ≡ has_repeat xs
has_repeat-sorted xs ys true moved sorted all =
    sym (single-rising ys (rising_far ys sorted (λ k d k_in. ltb-true (get_or ys k d) (get_or ys (k + 1) d) (sym (all k d k_in))))) ∙ has_repeat-permutation xs ys moved
has_repeat-sorted xs ys false moved sorted some =
    sym (twice-at ys some.0 (some.0 + 1) 0 (omega arith) some.1
    (omega (arith, ltb-false (get_or ys some.0 0) (get_or ys (some.0 + 1) 0) (sym (some.2 0)), sorted some.0 (some.0 + 1) 0 (omega arith) some.1)))
    ∙ has_repeat-permutation xs ys moved
