-- The number of elements of a list that have a key.
use Rattle.std.proofs.Common.{◌≡◌, ℕ, ◌+◌, Bool, true, false, cond, inl, inr, List, [], ◌∷◌, refl, arith}
use Rattle.std.specs.List.{list_any, sum_by}
use Rattle.std.proofs.lemmas.Bool.{cond-true, cond-false, or_parts, or_from, cases_Bool}
use Rattle.std.proofs.lemmas.List.Sums.{sum_by-cons}

module _ {A : Type 0} (has : ℕ → A → Bool) where
  abbrev pub once : ℕ → A → ℕ
  once key x = cond (has key x) 1 0

  abbrev pub times : ℕ → List A → ℕ
  times key xs = sum_by (once key) xs

  pub times-cons : (key : ℕ) (x : A) (xs : List A) → times key (x ∷ xs) ≡ once key x + times key xs
  times-cons key x xs = sum_by-cons (once key) x xs

  pub once-it : (key : ℕ) (x : A) → has key x ≡ true → once key x ≡ 1
  once-it key x is = cond-true (has key x) 1 0 is

  pub once-other : (key : ℕ) (x : A) → has key x ≡ false → once key x ≡ 0
  once-other key x other = cond-false (has key x) 1 0 other

  pub times-none : (key : ℕ) (xs : List A) → list_any (has key) xs ≡ false → times key xs ≡ 0
  times-none key [] none = refl
  times-none key (x ∷ xs) none =
      let here : once key x ≡ 0 = once-other key x (or_parts (has key x) (list_any (has key) xs) none).0 in
      let later : times key xs ≡ 0 = times-none key xs (or_parts (has key x) (list_any (has key) xs) none).1 in
      omega (arith, here, later, times-cons key x xs)

  pub none-from_times : (key : ℕ) (xs : List A) → times key xs ≡ 0 → list_any (has key) xs ≡ false
  none-from_times key [] zero_times = refl
  none-from_times key (x ∷ xs) zero_times =
      or_from (has key x) (list_any (has key) xs)
      (elim (cases_Bool (has key x)) [
        | inl is ↦ absurd (let one : once key x ≡ 1 = once-it key x is in omega (arith, one, zero_times, times-cons key x xs))
        | inr other ↦ other
      ])
      (none-from_times key xs (omega (arith, zero_times, times-cons key x xs)))
