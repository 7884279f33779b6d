-- The walk of a search: it finds exactly the occurrences that do not overlap an earlier found one.
use Rattle.std.proofs.Common.{◌≡◌, ℕ, zero, suc, ◌+◌, ◌-◌, ◌<◌, ◌≤◌, true, false, List, [], ◌∷◌, length, drop, get_or, add-zero, refl, ap, sym, ◌∙◌, inl, inr, arith}
use Rattle.std.specs.List.{All, list_any}
use Rattle.std.proofs.lemmas.Bool.{lt-ltb, le-leb, leb-true, and_parts, and_from, or_left, or_right, cases_Bool, cases_lt}
use Rattle.std.proofs.lemmas.Bool.Decides.{Decides-eqb}
use Rattle.std.proofs.lemmas.List.{get_or-drop}
use Rattle.std.proofs.lemmas.List.Elements.{All-nil, All-cons}
use Rattle.std.proofs.lemmas.List.Prefix.{front_reads}
use Rattle.std.proofs.lemmas.Slice.Eq.{starts_is}
use Rattle.text_lengths.specs.declared.Span.{Span}
use Rattle.unit_text.specs.declared.kind.Kind.{Kind}
use Rattle.unit_text.specs.Kinds.{is_place_in}
use Rattle.search_rules.specs.Occurrences.{stands_at, span_at, occurrences_from, occurrences_after, occurrences, IsOccurrence, AreApart, is_within, AreOccurrences}

-- both ends of what stands there are places
pub places_of : (kind : Kind) (x sought : List ℕ) (place : ℕ) → stands_at kind x sought place ≡ true
    → (is_place_in kind x place ≡ true) × (is_place_in kind x (place + length sought) ≡ true)
places_of kind x sought place there =
    let ends = and_parts _ _ there in
    ((and_parts _ _ ends.0).1, ends.1)

pub stands_within : (kind : Kind) (x sought : List ℕ) (place : ℕ) → stands_at kind x sought place ≡ true → place + length sought ≤ length x
stands_within kind x sought place there = leb-true _ _ (and_parts _ _ (places_of kind x sought place there).1).0

-- the text has the first of the sought units there
pub first_unit : (kind : Kind) (x sought : List ℕ) (place : ℕ) → 0 < length sought → stands_at kind x sought place ≡ true
    → get_or x place 0 ≡ get_or sought 0 0
first_unit kind x sought place some there =
    let goes_on = (starts_is Decides-eqb (drop place x) sought _ refl).0 (and_parts _ _ (and_parts _ _ there).0).0 in
    sym (get_or-drop place x 0 0 ∙ ap (λ (k : ℕ). get_or x k 0) (add-zero place))
    ∙ front_reads 0 (drop place x) sought (drop (length sought) (drop place x)) goes_on 0 some

-- the sought units do not occur where too few units are left
pub stands_not : (kind : Kind) (x sought : List ℕ) (place : ℕ) → length x < place + length sought → stands_at kind x sought place ≡ false
stands_not kind x sought place short =
    elim (cases_Bool (stands_at kind x sought place)) [
      | inl there ↦ absurd (omega (arith, stands_within kind x sought place there))
      | inr none ↦ none
    ]

-- ---- one step

pub step_found : (kind : Kind) (x sought : List ℕ) (place steps : ℕ) → stands_at kind x sought place ≡ true
    → occurrences_from kind x sought place (suc steps) ≡ span_at sought place ∷ occurrences_from kind x sought (place + length sought) steps
step_found kind x sought place steps there = rw there refl

pub step_on : (kind : Kind) (x sought : List ℕ) (place steps : ℕ) → stands_at kind x sought place ≡ false
    → occurrences_from kind x sought place (suc steps) ≡ occurrences_from kind x sought (place + 1) steps
step_on kind x sought place steps none = rw none refl

-- nothing is found where too few units are left
none_from : (kind : Kind) (x sought : List ℕ) (place steps : ℕ) → length x < place + length sought → occurrences_from kind x sought place steps ≡ []
none_from kind x sought place zero short = refl
none_from kind x sought place (suc steps) short =
    step_on kind x sought place steps (stands_not kind x sought place short) ∙ none_from kind x sought (place + 1) steps (omega arith)

module _ (kind : Kind) (x sought : List ℕ) (some : 0 < length sought) where
  -- more steps than there are units left find nothing more
  enough_steps : (place n m : ℕ) → length x ≤ place + n → length x ≤ place + m
      → occurrences_from kind x sought place n ≡ occurrences_from kind x sought place m
  enough_steps place zero m long longer = sym (none_from kind x sought place m (omega arith))
  enough_steps place (suc n) zero long longer = none_from kind x sought place (suc n) (omega arith)
  enough_steps place (suc n) (suc m) long longer =
      elim (cases_Bool (stands_at kind x sought place)) [
        | inl there ↦
            step_found kind x sought place n there
            ∙ ap (λ l. span_at sought place ∷ l) (enough_steps (place + length sought) n m (omega arith) (omega arith))
            ∙ sym (step_found kind x sought place m there)
        | inr none ↦
            step_on kind x sought place n none ∙ enough_steps (place + 1) n m (omega arith) (omega arith)
            ∙ sym (step_on kind x sought place m none)
      ]

  -- where the units stand, they are found, and the search goes on at their end
  pub found_after : (place : ℕ) → stands_at kind x sought place ≡ true
      → occurrences_after kind x sought place ≡ span_at sought place ∷ occurrences_after kind x sought (place + length sought)
  found_after place there =
      let within = stands_within kind x sought place there in
      let left : length x - place ≡ suc (length x - place - 1) = omega arith in
      ap (occurrences_from kind x sought place) left ∙ step_found kind x sought place (length x - place - 1) there
      ∙ ap (λ l. span_at sought place ∷ l)
      (enough_steps (place + length sought) (length x - place - 1) (length x - (place + length sought)) (omega arith) (omega arith))

  -- else it goes on by a unit
  pub none_at : (place : ℕ) → stands_at kind x sought place ≡ false
      → occurrences_after kind x sought place ≡ occurrences_after kind x sought (place + 1)
  none_at place none =
      enough_steps place (length x - place) (suc (length x - (place + 1))) (omega arith) (omega arith)
      ∙ step_on kind x sought place (length x - (place + 1)) none

  -- the search passes offsets at which they do not occur
  none_over : (place many : ℕ) → ((k : ℕ) → place ≤ k → k < place + many → stands_at kind x sought k ≡ false)
      → occurrences_after kind x sought place ≡ occurrences_after kind x sought (place + many)
  none_over place zero none = ap (occurrences_after kind x sought) (omega arith)
  none_over place (suc many) none =
      none_at place (none place (omega arith) (omega arith))
      ∙ none_over (place + 1) many (λ k above below. none k (omega arith) (omega arith))
      ∙ ap (occurrences_after kind x sought) (omega arith)

  pub none_between : (place to : ℕ) → place ≤ to → ((k : ℕ) → place ≤ k → k < to → stands_at kind x sought k ≡ false)
      → occurrences_after kind x sought place ≡ occurrences_after kind x sought to
  none_between place to ordered none =
      none_over place (to - place) (λ k above below. none k above (omega arith)) ∙ ap (occurrences_after kind x sought) (omega arith)

  -- nothing is found where too few units are left
  pub none_after : (place : ℕ) → length x < place + length sought → occurrences_after kind x sought place ≡ []
  none_after place short = none_from kind x sought place (length x - place) short

  -- ---- the spans

  pub apart_from : (place steps : ℕ) → AreApart place (occurrences_from kind x sought place steps)
  apart_from place zero = tt
  apart_from place (suc steps) =
      elim (cases_Bool (stands_at kind x sought place)) [
        | inl there ↦ rw there (omega arith, omega arith, apart_from (place + length sought) steps)
        | inr none ↦ rw none (apart_later place (place + 1) (occurrences_from kind x sought (place + 1) steps) (omega arith) (apart_from (place + 1) steps))
      ]
    where
      apart_later : (place later : ℕ) (spans : List Span) → place ≤ later → AreApart later spans → AreApart place spans
      apart_later place later [] ordered apart = tt
      apart_later place later (span ∷ spans) ordered apart = (omega (arith, apart.0), apart.1, apart.2)

  each_from : (place steps : ℕ) → All (IsOccurrence kind x sought) (occurrences_from kind x sought place steps)
  each_from place zero = All-nil (IsOccurrence kind x sought)
  each_from place (suc steps) =
      elim (cases_Bool (stands_at kind x sought place)) [
        | inl there ↦ rw there (All-cons (IsOccurrence kind x sought) (span_at sought place)
            (occurrences_from kind x sought (place + length sought) steps) (refl, there) (each_from (place + length sought) steps))
        | inr none ↦ rw none (each_from (place + 1) steps)
      ]

  -- an offset at which the units occur is passed only by a span
  every_from : (place steps at : ℕ) → stands_at kind x sought at ≡ true → place ≤ at → at < place + steps
      → list_any (is_within at) (occurrences_from kind x sought place steps) ≡ true
  every_from place zero at there above below = absurd (omega arith)
  every_from place (suc steps) at there above below =
      elim (cases_Bool (stands_at kind x sought place)) [
        | inl here ↦ rw here (elim (cases_lt at (place + length sought)) [
          | inl inside ↦ or_left _ _ (and_from _ _ (le-leb place at above) (lt-ltb at (place + length sought) inside))
          | inr behind ↦ or_right _ _ (every_from (place + length sought) steps at there behind (omega arith))
        ])
        | inr none ↦ rw none (elim (cases_lt place at) [
          | inl later ↦ every_from (place + 1) steps at there (omega arith) (omega arith)
          | inr same ↦
              let here : at ≡ place = omega arith in
              let both : stands_at kind x sought place ≡ true = ap (stands_at kind x sought) (sym here) ∙ there in
              absurd (cc (sym none ∙ both))
        ])
      ]

  -- what a search finds are the occurrences
  pub occurrences_are : AreOccurrences kind x sought (occurrences kind x sought)
  occurrences_are = record {
    apart = apart_from 0 (length x - 0);
    each = each_from 0 (length x - 0);
    every = λ place there. every_from 0 (length x - 0) place there (omega arith) (omega (arith, stands_within kind x sought place there));
  }
