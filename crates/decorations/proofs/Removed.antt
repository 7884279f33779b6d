-- The decorations that stay when some are removed, one after another.
use Rattle.std.proofs.Common.{◌≡◌, ℕ, ◌+◌, Bool, true, false, not, ◌||◌, ◌&&◌, cond, eqb, inl, inr, List, [], ◌∷◌, length, refl, sym, ◌∙◌, ap, subst, arith}
use Rattle.std.specs.List.{list_any, list_all}
use Rattle.std.proofs.lemmas.Bool.{cond-true, cond-false, or_parts, or_cases, and_parts, and_from, eqb-true, cases_Bool, both_ways}
use Rattle.decoration_rules.specs.declared.Mark.{Mark}
use Rattle.decoration_rules.specs.Marks.{has_id, is_live, HasDistinctIds, without}
use Rattle.decoration_rules.specs.Decorations.{kept, has_repeat, owns, owned_by}
use Rattle.decoration_rules.proofs.OrderLemmas.{list_any-found, Has, list_any-some}
use Rattle.decoration_rules.proofs.MarkLists.{without-none, Has-filter, distinct_filter, mark_of-none}

pub kept-none : (marks : List Mark) → kept marks [] ≡ marks
kept-none [] = refl
kept-none (x ∷ marks) = ap (λ ms. x ∷ ms) (kept-none marks)

abbrev stays : List ℕ → Mark → Bool
stays ids mark = not (list_any (λ id. eqb mark.id id) ids)

-- the first goes, then the others
pub kept-first : (id : ℕ) (ids : List ℕ) (marks : List Mark) → kept marks (id ∷ ids) ≡ kept (without id marks) ids
kept-first id ids [] = refl
kept-first id ids (x ∷ marks) = elim (cases_Bool (eqb x.id id)) [
  | inl is ↦
      cond-false (stays (id ∷ ids) x) (x ∷ kept marks (id ∷ ids)) (kept marks (id ∷ ids)) (ap (λ b. not (b || list_any (λ id. eqb x.id id) ids)) is)
      ∙ kept-first id ids marks
      ∙ ap (λ ms. kept ms ids) (sym (cond-false (not (has_id id x)) (x ∷ without id marks) (without id marks) (ap not is)))
  | inr other ↦
      let same : stays (id ∷ ids) x ≡ stays ids x = ap (λ b. not (b || list_any (λ id. eqb x.id id) ids)) other in
      ap (λ b. cond b (x ∷ kept marks (id ∷ ids)) (kept marks (id ∷ ids))) same
      ∙ ap (λ ms. cond (stays ids x) (x ∷ ms) ms) (kept-first id ids marks)
      ∙ ap (λ ms. kept ms ids) (sym (cond-true (not (has_id id x)) (x ∷ without id marks) (without id marks) (ap not other)))
]

is_live-without : (id other : ℕ) (marks : List Mark) → eqb other id ≡ false → is_live marks other ≡ true → is_live (without id marks) other ≡ true
is_live-without id other marks apart live =
    let it : (q : Mark) × Has marks q × (has_id other q ≡ true) = list_any-found (has_id other) marks live in
    list_any-some (has_id other) (without id marks) it.0
    (Has-filter (λ mark. not (has_id id mark)) marks it.0 it.1 (ap not (subst (λ n. eqb n id ≡ false) (sym (eqb-true it.0.id other it.2)) apart))) it.2

-- the others are still live
pub all_live-without : (id : ℕ) (ids : List ℕ) (marks : List Mark) → list_any (λ other. eqb other id) ids ≡ false → list_all (is_live marks) ids ≡ true → list_all (is_live (without id marks)) ids ≡ true
all_live-without id [] marks apart live = refl
all_live-without id (other ∷ ids) marks apart live =
    let parts = and_parts (is_live marks other) (list_all (is_live marks) ids) live in
    let apart' = or_parts (eqb other id) (list_any (λ other. eqb other id) ids) apart in
    and_from (is_live (without id marks) other) (list_all (is_live (without id marks)) ids)
    (is_live-without id other marks apart'.0 parts.0) (all_live-without id ids marks apart'.1 parts.1)

length-without : (id : ℕ) (marks : List Mark) → HasDistinctIds marks → is_live marks id ≡ true → length (without id marks) + 1 ≡ length marks
length-without id [] distinct live = absurd (both_ways false refl live)
length-without id (x ∷ marks) distinct live = elim (cases_Bool (has_id id x)) [
  | inl is ↦
      let none : is_live marks id ≡ false = subst (λ n. is_live marks n ≡ false) (eqb-true x.id id is) distinct.0 in
      let rest : without id (x ∷ marks) ≡ marks = cond-false (not (has_id id x)) (x ∷ without id marks) (without id marks) (ap not is) ∙ without-none id marks none in
      omega (arith, ap length rest)
  | inr other ↦
      let rest : without id (x ∷ marks) ≡ x ∷ without id marks = cond-true (not (has_id id x)) (x ∷ without id marks) (without id marks) (ap not other) in
      let later : is_live marks id ≡ true = elim (or_cases (has_id id x) (is_live marks id) live) [ inl is ↦ absurd (both_ways (has_id id x) other is) | inr later ↦ later ] in
      omega (arith, ap length rest, length-without id marks distinct.1 later)
]

pub length-kept : (ids : List ℕ) (marks : List Mark) → HasDistinctIds marks → list_all (is_live marks) ids ≡ true → has_repeat ids ≡ false → length (kept marks ids) + length ids ≡ length marks
length-kept [] marks distinct live single = omega (arith, ap length (kept-none marks))
length-kept (id ∷ ids) marks distinct live single =
    let here = and_parts (is_live marks id) (list_all (is_live marks) ids) live in
    let apart = or_parts (list_any (λ other. eqb other id) ids) (has_repeat ids) single in
    let rest = length-kept ids (without id marks) (distinct_filter (λ mark. not (has_id id mark)) marks distinct) (all_live-without id ids marks apart.0 here.1) apart.1 in
    omega (arith, ap length (kept-first id ids marks), rest, length-without id marks distinct here.0)

-- the ids that are still to be removed
pub record AreLeft (marks : List Mark) (ids : List ℕ) : Type 0 where
  pub live : list_all (is_live marks) ids ≡ true
  pub once : has_repeat ids ≡ false

pub AreLeft-rest : (id : ℕ) (ids : List ℕ) (marks : List Mark) → AreLeft marks (id ∷ ids) → AreLeft (without id marks) ids
AreLeft-rest id ids marks left =
    let apart = or_parts (list_any (λ other. eqb other id) ids) (has_repeat ids) left.once in
    record {
      live = all_live-without id ids marks apart.0 (and_parts (is_live marks id) (list_all (is_live marks) ids) left.live).1;
      once = apart.1;
    }

-- The ids that an owner may name.

owns-live : (marks : List Mark) (owner id : ℕ) → owns marks owner id ≡ true → is_live marks id ≡ true
owns-live marks owner id owned = elim (cases_Bool (is_live marks id)) [
  | inl live ↦ live
  | inr none ↦ absurd (both_ways false refl (subst (λ o. owned_by owner o ≡ true) (mark_of-none marks id none) owned))
]

pub all_live-owned : (marks : List Mark) (owner : ℕ) (ids : List ℕ) → list_all (owns marks owner) ids ≡ true → list_all (is_live marks) ids ≡ true
all_live-owned marks owner [] owned = refl
all_live-owned marks owner (id ∷ ids) owned =
    let parts = and_parts (owns marks owner id) (list_all (owns marks owner) ids) owned in
    and_from (is_live marks id) (list_all (is_live marks) ids) (owns-live marks owner id parts.0) (all_live-owned marks owner ids parts.1)

pub list_any-not : (p : ℕ → Bool) (ids : List ℕ) → list_any (λ id. not (p id)) ids ≡ not (list_all p ids)
list_any-not p [] = refl
list_any-not p (id ∷ ids) = elim (cases_Bool (p id)) [
  | inl is ↦ ap (λ b. not b || list_any (λ id. not (p id)) ids) is ∙ list_any-not p ids ∙ ap (λ b. not (b && list_all p ids)) (sym is)
  | inr other ↦ ap (λ b. not b || list_any (λ id. not (p id)) ids) other ∙ ap (λ b. not (b && list_all p ids)) (sym other)
]
