-- The order of decorations: a set of decorations has exactly one list in order.
use Rattle.std.proofs.Common.{◌≡◌, ℕ, ◌<◌, zero, suc, length, get_or, Bool, true, false, ◌||◌, eqb, ◌⊎◌, inl, inr, List, [], ◌∷◌, refl, sym, ◌∙◌, ap, subst, arith}
use Rattle.std.specs.List.{list_any, list_all, Contains, All}
use Rattle.std.proofs.lemmas.Bool.{or_cases, or_parts, or_from, or_left, and_parts, and_from, both_ways}
use Rattle.std.proofs.lemmas.Bool.Decides.{nat_tests}
use Rattle.decoration_rules.specs.declared.Mark.{Mark}
use Rattle.decoration_rules.specs.Marks.{stands_before, IsInOrder}

-- The relation `stands_before`.

pub stands_before-itself : (a : Mark) → stands_before a a ≡ false
stands_before-itself a = grind (arith, nat_tests)

pub stands_before-trans : (a b c : Mark) → stands_before a b ≡ true → stands_before b c ≡ true → stands_before a c ≡ true
stands_before-trans a b c ab bc = grind (arith, nat_tests)

pub stands_before-total : (a b : Mark) → eqb a.id b.id ≡ false → stands_before a b ≡ false → stands_before b a ≡ true
stands_before-total a b apart not_before = grind (arith, nat_tests)

-- The members of a list of marks.

abbrev pub Has : List Mark → Mark → Type 0
Has [] q = ⊥
Has (m ∷ ms) q = (m ≡ q) ⊎ Has ms q

-- if a property of lists gives `Is` for the first mark and passes on to the rest, it gives `Is` for each mark of the
-- list
each-at : (Says : List Mark → Type 0) (Is : Mark → Type 0) → ((x : Mark) (xs : List Mark) → Says (x ∷ xs) → Is x × Says xs)
    → (xs : List Mark) (q : Mark) → Says xs → Has xs q → Is q
each-at Says Is parts [] q says has = absurd has
each-at Says Is parts (x ∷ xs) q says has = elim has [
  | inl here ↦ subst Is here (parts x xs says).0
  | inr there ↦ each-at Says Is parts xs q (parts x xs says).1 there
]

pub list_all-at : (p : Mark → Bool) (xs : List Mark) (q : Mark) → list_all p xs ≡ true → Has xs q → p q ≡ true
list_all-at p = each-at (λ xs. list_all p xs ≡ true) (λ m. p m ≡ true) (λ x xs all. and_parts (p x) (list_all p xs) all)

pub list_all-from : (p : Mark → Bool) (xs : List Mark) → ((q : Mark) → Has xs q → p q ≡ true) → list_all p xs ≡ true
list_all-from p [] each = refl
list_all-from p (x ∷ xs) each = and_from (p x) (list_all p xs) (each x (inl refl)) (list_all-from p xs (λ q has. each q (inr has)))

pub list_any-at : (p : Mark → Bool) (xs : List Mark) (q : Mark) → list_any p xs ≡ false → Has xs q → p q ≡ false
list_any-at p = each-at (λ xs. list_any p xs ≡ false) (λ m. p m ≡ false) (λ x xs none. or_parts (p x) (list_any p xs) none)

pub list_any-none : (p : Mark → Bool) (xs : List Mark) → ((q : Mark) → Has xs q → p q ≡ false) → list_any p xs ≡ false
list_any-none p [] each = refl
list_any-none p (x ∷ xs) each = or_from (p x) (list_any p xs) (each x (inl refl)) (list_any-none p xs (λ q has. each q (inr has)))

pub list_any-some : (p : Mark → Bool) (xs : List Mark) (q : Mark) → Has xs q → p q ≡ true → list_any p xs ≡ true
list_any-some p [] q has pass = absurd has
list_any-some p (x ∷ xs) q has pass = elim has [
  | inl here ↦ or_left (p x) (list_any p xs) (subst (λ (m : Mark). p m ≡ true) (sym here) pass)
  | inr there ↦ or_right' (list_any-some p xs q there pass)
]
  where
    or_right' : list_any p xs ≡ true → (p x || list_any p xs) ≡ true
    or_right' e = rw e (elim (p x) as (λ v. (v || true) ≡ true) [ true ↦ refl | false ↦ refl ])

pub list_any-found : (p : Mark → Bool) (xs : List Mark) → list_any p xs ≡ true → (q : Mark) × Has xs q × (p q ≡ true)
list_any-found p [] some = absurd (both_ways false refl some)
list_any-found p (x ∷ xs) some = elim (or_cases (p x) (list_any p xs) some) [
  | inl here ↦ (x, inl refl, here)
  | inr later ↦ next (list_any-found p xs later)
]
  where
    next : ((q : Mark) × Has xs q × (p q ≡ true)) → (q : Mark) × Has (x ∷ xs) q × (p q ≡ true)
    next h = (h.0, inr h.1, h.2)

-- Membership by index.

pub Has-from_contains : (xs : List Mark) (q : Mark) → Contains xs q → Has xs q
Has-from_contains [] q (k, k_in, at) = absurd (omega arith)
Has-from_contains (x ∷ xs) q (zero, k_in, at) = inl at
Has-from_contains (x ∷ xs) q (suc k, k_in, at) = inr (Has-from_contains xs q (k, omega arith, at))

pub Contains-from_has : (xs : List Mark) (q : Mark) → Has xs q → Contains xs q
Contains-from_has [] q has = absurd has
Contains-from_has (x ∷ xs) q has = elim has [
  | inl here ↦ (zero, omega arith, here)
  | inr there ↦ later (Contains-from_has xs q there)
]
  where
    later : Contains xs q → Contains (x ∷ xs) q
    later h = (suc h.0, omega (arith, h.1), h.2)

pub Has-get_or : (xs : List Mark) (i : ℕ) (d : Mark) → i < length xs → Has xs (get_or xs i d)
Has-get_or [] i d i_in = absurd (omega arith)
Has-get_or (x ∷ xs) zero d i_in = inl refl
Has-get_or (x ∷ xs) (suc i) d i_in = inr (Has-get_or xs i d (omega arith))

pub All-has : (P : Mark → Type 0) (xs : List Mark) → ((q : Mark) → Has xs q → P q) → All P xs
All-has P xs each k d k_in = each (get_or xs k d) (Has-get_or xs k d k_in)

pub has-All : (P : Mark → Type 0) (xs : List Mark) (q : Mark) → All P xs → Has xs q → P q
has-All P xs q all has =
    let at : (k : ℕ) × (k < length xs) × (get_or xs k q ≡ q) = Contains-from_has xs q has in
    subst P at.2 (all at.0 q at.1)

-- the two lists have the same members
pub record HaveSame (xs ys : List Mark) : Type 0 where
  pub to : (q : Mark) → Has xs q → Has ys q
  pub from : (q : Mark) → Has ys q → Has xs q

pub HaveSame-tail : (x : Mark) (xs ys : List Mark) → IsInOrder (x ∷ xs) → IsInOrder (x ∷ ys) → ((q : Mark) → Has (x ∷ xs) q → Has (x ∷ ys) q) → (q : Mark) → Has xs q → Has ys q
HaveSame-tail x xs ys ordered_xs ordered_ys to q has = elim (to q (inr has)) [
  | inl here ↦ absurd (both_ways (stands_before x x) (stands_before-itself x)
      (subst (λ (m : Mark). stands_before x m ≡ true) (sym here) (list_all-at (stands_before x) xs q ordered_xs.0 has)))
  | inr there ↦ there
]

same_head : (x y : Mark) (xs ys : List Mark) → IsInOrder (x ∷ xs) → IsInOrder (y ∷ ys) → HaveSame (x ∷ xs) (y ∷ ys) → x ≡ y
same_head x y xs ys ordered_xs ordered_ys same = elim (same.to x (inl refl)) [
  | inl here ↦ sym here
  | inr there ↦ elim (same.from y (inl refl)) [
    | inl here ↦ here
    | inr there' ↦ absurd (both_ways (stands_before x x) (stands_before-itself x)
        (stands_before-trans x y x (list_all-at (stands_before x) xs y ordered_xs.0 there') (list_all-at (stands_before y) ys x ordered_ys.0 there)))
  ]
]

-- two lists in order with the same members are equal
pub IsInOrder-unique : (xs ys : List Mark) → IsInOrder xs → IsInOrder ys → HaveSame xs ys → xs ≡ ys
IsInOrder-unique [] [] ordered_xs ordered_ys same = refl
IsInOrder-unique [] (y ∷ ys) ordered_xs ordered_ys same = absurd (same.from y (inl refl))
IsInOrder-unique (x ∷ xs) [] ordered_xs ordered_ys same = absurd (same.to x (inl refl))
IsInOrder-unique (x ∷ xs) (y ∷ ys) ordered_xs ordered_ys same =
    let head : x ≡ y = same_head x y xs ys ordered_xs ordered_ys same in
    let ordered : IsInOrder (x ∷ ys) = subst (λ (m : Mark). IsInOrder (m ∷ ys)) (sym head) ordered_ys in
    let same' : HaveSame (x ∷ xs) (x ∷ ys) = subst (λ (m : Mark). HaveSame (x ∷ xs) (m ∷ ys)) (sym head) same in
    let tails : xs ≡ ys = IsInOrder-unique xs ys ordered_xs.1 ordered.1 (record {
      to = HaveSame-tail x xs ys ordered_xs ordered same'.to;
      from = HaveSame-tail x ys xs ordered ordered_xs same'.from;
    }) in
    ap (λ (m : Mark). m ∷ xs) head ∙ ap (λ ms. y ∷ ms) tails
