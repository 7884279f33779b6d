-- The numbers of decorations of the owners: what changes them, and what they tell.
use Rattle.std.proofs.Common.{◌≡◌, ℕ, ◌+◌, ◌-◌, ◌≤◌, Bool, true, false, not, cond, eqb, inl, inr, List, [], ◌∷◌, ◌++◌, length, map, Some, None, IsTrue, ◌↔◌, refl, sym, ◌∙◌, ap, subst, arith}
use Rattle.std.specs.Prelude.{filter, unwrap_or}
use Rattle.std.specs.List.{list_any, list_all}
use Rattle.std.proofs.lemmas.Bool.{cond-true, cond-false, and_parts, and_from, eqb-true, eq-eqb, ne_eqb, cases_Bool, both_ways, not-true}
use Rattle.std.proofs.lemmas.List.{length-append}
use Rattle.std.proofs.lemmas.List.Elements.{filter-append}
use Rattle.std.proofs.lemmas.List.Sums.{length-filter, count_by-le-length}
use Rattle.decoration_rules.specs.declared.Edit.{Edit}
use Rattle.decoration_rules.specs.declared.LineMove.{LineMove}
use Rattle.decoration_rules.specs.declared.Mark.{Mark}
use Rattle.decoration_rules.specs.declared.NewDeco.{NewDeco}
use Rattle.decoration_rules.specs.Lines.{carried_mark, carried_with_lines}
use Rattle.decoration_rules.specs.Moves.{moved_mark}
use Rattle.decoration_rules.specs.Marks.{in_order, has_id, is_live, HasDistinctIds}
use Rattle.decoration_rules.specs.Decorations.{kept, has_repeat, owns, owned_by, is_of, new_marks}
use Rattle.decoration_rules.proofs.OrderLemmas.{Has, list_any-found, list_any-some, list_any-none}
use Rattle.decoration_rules.proofs.MarkLists.{Has-filter, Has-from_filter, distinct_filter, distinct_map, in_order-filter, length-in_order, mark_of-has, without-none}
use Rattle.decorations.specs.Owners.{Counts, count_of, count_in, held, Tells, Recounts}
use Rattle.decorations.proofs.Removed.{kept-none, kept-first, length-kept, all_live-owned}

-- Filters.

-- two filters, in either order
filter_swap : (p r : Mark → Bool) (marks : List Mark) → filter p (filter r marks) ≡ filter r (filter p marks)
filter_swap p r [] = refl
filter_swap p r (x ∷ marks) = grind (arith, filter_swap p r marks)

-- what the second filter leaves, if the first leaves nothing of the whole list
pub filter-none : (p r : Mark → Bool) (marks : List Mark) → filter p marks ≡ [] → filter p (filter r marks) ≡ []
filter-none p r marks none = filter_swap p r marks ∙ ap (filter r) none

none-from_length : (marks : List Mark) → length marks ≡ 0 → marks ≡ []
none-from_length [] empty = refl
none-from_length (x ∷ marks) empty = absurd (omega (arith, empty))

filter-any : (marks : List Mark) → filter (is_of None) marks ≡ marks
filter-any [] = refl
filter-any (x ∷ marks) = ap (λ ms. x ∷ ms) (filter-any marks)

-- there are none at all
pub none-at_all : (marks : List Mark) (n : ℕ) → n ≡ length marks → IsTrue (eqb n 0) ↔ (filter (is_of None) marks ≡ [])
none-at_all marks n is = (
  λ zero. filter-any marks ∙ none-from_length marks (sym is ∙ eqb-true n 0 zero),
  λ none. eq-eqb n 0 (is ∙ ap length (sym (filter-any marks) ∙ none)),
)

-- The number of one owner.

pub count-le-length : (owner : ℕ) (marks : List Mark) → count_of owner marks ≤ length marks
count-le-length owner marks = omega (arith, length-filter (is_of (Some owner)) marks, count_by-le-length (is_of (Some owner)) marks)

count-in_order : (owner : ℕ) (marks : List Mark) → HasDistinctIds marks → count_of owner (in_order marks) ≡ count_of owner marks
count-in_order owner marks distinct =
    ap length (in_order-filter (is_of (Some owner)) marks distinct) ∙ length-in_order (filter (is_of (Some owner)) marks)

count-append : (owner : ℕ) (marks more : List Mark) → count_of owner (marks ++ more) ≡ count_of owner marks + count_of owner more
count-append owner marks more =
    ap length (filter-append (is_of (Some owner)) marks more) ∙ length-append (filter (is_of (Some owner)) marks) (filter (is_of (Some owner)) more)

-- Moves change no owner.

count-map : (to : Mark → Mark) → ((m : Mark) → (to m).owner ≡ m.owner) → (owner : ℕ) (marks : List Mark) → count_of owner (map to marks) ≡ count_of owner marks
count-map to keeps owner [] = refl
count-map to keeps owner (x ∷ marks) = grind (arith, keeps x, count-map to keeps owner marks)

count-changed : (to : Mark → Mark) → ((m : Mark) → (to m).id ≡ m.id) → ((m : Mark) → (to m).owner ≡ m.owner) → (owner : ℕ) (marks : List Mark) → HasDistinctIds marks
    → count_of owner (in_order (map to marks)) ≡ count_of owner marks
count-changed to same keeps owner marks distinct =
    count-in_order owner (map to marks) (distinct_map to same marks distinct) ∙ count-map to keeps owner marks

pub Tells-accept : (counts : Counts) (edit : Edit) (marks : List Mark) → HasDistinctIds marks → Tells counts marks → Tells counts (in_order (map (moved_mark edit) marks))
Tells-accept counts edit marks distinct tells owner = tells owner ∙ ap held (sym (count-changed (moved_mark edit) (λ _. refl) (λ _. refl) owner marks distinct))

pub Tells-carry : (counts : Counts) (lines : List LineMove) (marks : List Mark) → HasDistinctIds marks → Tells counts marks → Tells counts (carried_with_lines lines marks)
Tells-carry counts lines marks distinct tells owner = tells owner ∙ ap held (sym (count-changed (carried_mark lines) (λ _. refl) (λ _. refl) owner marks distinct))

-- Removals.

owner-named : (marks : List Mark) (owner : ℕ) (q : Mark) → HasDistinctIds marks → owns marks owner q.id ≡ true → Has marks q → eqb q.owner owner ≡ true
owner-named marks owner q distinct owned has = subst (λ o. owned_by owner o ≡ true) (mark_of-has marks q distinct has) owned

-- a named id is live among the owner's decorations
live-among : (marks : List Mark) (owner id : ℕ) → HasDistinctIds marks → owns marks owner id ≡ true → is_live marks id ≡ true → is_live (filter (is_of (Some owner)) marks) id ≡ true
live-among marks owner id distinct owned live =
    let it : (q : Mark) × Has marks q × (has_id id q ≡ true) = list_any-found (has_id id) marks live in
    let same : it.0.id ≡ id = eqb-true it.0.id id it.2 in
    list_any-some (has_id id) (filter (is_of (Some owner)) marks) it.0
    (Has-filter (is_of (Some owner)) marks it.0 it.1
    (owner-named marks owner it.0 distinct (subst (λ n. owns marks owner n ≡ true) (sym same) owned) it.1)) it.2

all_live-among : (marks : List Mark) (owner : ℕ) (ids : List ℕ) → HasDistinctIds marks → list_all (owns marks owner) ids ≡ true → list_all (is_live marks) ids ≡ true
    → list_all (is_live (filter (is_of (Some owner)) marks)) ids ≡ true
all_live-among marks owner [] distinct owned live = refl
all_live-among marks owner (id ∷ ids) distinct owned live =
    let own = and_parts (owns marks owner id) (list_all (owns marks owner) ids) owned in
    let lives = and_parts (is_live marks id) (list_all (is_live marks) ids) live in
    and_from (is_live (filter (is_of (Some owner)) marks) id) (list_all (is_live (filter (is_of (Some owner)) marks)) ids)
    (live-among marks owner id distinct own.0 lives.0) (all_live-among marks owner ids distinct own.1 lives.1)

pub count-kept : (marks : List Mark) (owner : ℕ) (ids : List ℕ) → HasDistinctIds marks → list_all (owns marks owner) ids ≡ true → has_repeat ids ≡ false
    → count_of owner (kept marks ids) + length ids ≡ count_of owner marks
count-kept marks owner ids distinct owned once =
    ap (λ ms. length ms + length ids) (filter_swap (is_of (Some owner)) (λ mark. not (list_any (λ id. eqb mark.id id) ids)) marks)
    ∙ length-kept ids (filter (is_of (Some owner)) marks) (distinct_filter (is_of (Some owner)) marks distinct)
    (all_live-among marks owner ids distinct owned (all_live-owned marks owner ids owned)) once

-- a named id is none of another owner's decorations
gone-among : (marks : List Mark) (owner other id : ℕ) → HasDistinctIds marks → owns marks owner id ≡ true → eqb owner other ≡ false → is_live (filter (is_of (Some other)) marks) id ≡ false
gone-among marks owner other id distinct owned apart =
    list_any-none (has_id id) (filter (is_of (Some other)) marks)
    (λ q has. ne_eqb q.id id (λ same.
    let is = Has-from_filter (is_of (Some other)) marks q has in
    let mine : q.owner ≡ owner = eqb-true q.owner owner (owner-named marks owner q distinct (subst (λ n. owns marks owner n ≡ true) (sym same) owned) is.0) in
    both_ways (eqb owner other) apart (subst (λ n. eqb n other ≡ true) mine is.1)))

kept-others : (xs : List Mark) (ids : List ℕ) → list_all (λ id. not (is_live xs id)) ids ≡ true → kept xs ids ≡ xs
kept-others xs [] none = kept-none xs
kept-others xs (id ∷ ids) none =
    let parts = and_parts (not (is_live xs id)) (list_all (λ id. not (is_live xs id)) ids) none in
    kept-first id ids xs ∙ ap (λ ms. kept ms ids) (without-none id xs (not-true (is_live xs id) parts.0)) ∙ kept-others xs ids parts.1

all_gone-among : (marks : List Mark) (owner other : ℕ) (ids : List ℕ) → HasDistinctIds marks → list_all (owns marks owner) ids ≡ true → eqb owner other ≡ false
    → list_all (λ id. not (is_live (filter (is_of (Some other)) marks) id)) ids ≡ true
all_gone-among marks owner other [] distinct owned apart = refl
all_gone-among marks owner other (id ∷ ids) distinct owned apart =
    let own = and_parts (owns marks owner id) (list_all (owns marks owner) ids) owned in
    and_from (not (is_live (filter (is_of (Some other)) marks) id)) (list_all (λ id. not (is_live (filter (is_of (Some other)) marks) id)) ids)
    (ap not (gone-among marks owner other id distinct own.0 apart)) (all_gone-among marks owner other ids distinct own.1 apart)

count-kept_others : (marks : List Mark) (owner other : ℕ) (ids : List ℕ) → HasDistinctIds marks → list_all (owns marks owner) ids ≡ true → eqb owner other ≡ false
    → count_of other (kept marks ids) ≡ count_of other marks
count-kept_others marks owner other ids distinct owned apart =
    ap length (filter_swap (is_of (Some other)) (λ mark. not (list_any (λ id. eqb mark.id id) ids)) marks
    ∙ kept-others (filter (is_of (Some other)) marks) ids (all_gone-among marks owner other ids distinct owned apart))

-- New decorations.

count-new_marks : (owner other first : ℕ) (add : List NewDeco) → count_of other (new_marks owner first add) ≡ cond (eqb owner other) (length add) 0
count-new_marks owner other first [] = grind arith
count-new_marks owner other first (new ∷ more) = grind (arith, count-new_marks owner other (first + 1) more)

-- What the map tells.

unwrap_held : (n : ℕ) → unwrap_or (held n) 0 ≡ n
unwrap_held n = grind arith

pub count_in-told : (counts : Counts) (marks : List Mark) (owner : ℕ) → Tells counts marks → count_in counts owner ≡ count_of owner marks
count_in-told counts marks owner tells = ap (λ o. unwrap_or o 0) (tells owner) ∙ unwrap_held (count_of owner marks)

pub Tells-recounted : (old new : Counts) (marks : List Mark) (owner first : ℕ) (ids : List ℕ) (add : List NewDeco)
    → HasDistinctIds marks → HasDistinctIds (kept marks ids ++ new_marks owner first add) → list_all (owns marks owner) ids ≡ true → has_repeat ids ≡ false
    → Tells old marks → Recounts old new owner (length ids) (length add) → Tells new (in_order (kept marks ids ++ new_marks owner first add))
Tells-recounted old new marks owner first ids add distinct after owned once tells recounts other =
    let now : count_of other (in_order (kept marks ids ++ new_marks owner first add)) ≡ count_of other (kept marks ids) + cond (eqb owner other) (length add) 0 =
    count-in_order other (kept marks ids ++ new_marks owner first add) after ∙ count-append other (kept marks ids) (new_marks owner first add)
    ∙ ap (λ n. count_of other (kept marks ids) + n) (count-new_marks owner other first add) in
    elim (cases_Bool (eqb owner other)) [
      | inl is ↦
          let same : owner ≡ other = eqb-true owner other is in
          let left : count_of owner (kept marks ids) ≡ count_in old owner - length ids = omega (arith, count-kept marks owner ids distinct owned once, count_in-told old marks owner tells) in
          recounts other ∙ cond-true (eqb owner other) (held (count_in old owner - length ids + length add)) _ is
          ∙ ap (λ n. held (n + length add)) (sym left)
          ∙ ap (λ o. held (count_of o (kept marks ids) + length add)) same
          ∙ ap (λ n. held (count_of other (kept marks ids) + n)) (sym (cond-true {A = ℕ} (eqb owner other) (length add) 0 is))
          ∙ ap held (sym now)
      | inr apart ↦
          recounts other ∙ cond-false (eqb owner other) _ _ apart ∙ tells other
          ∙ ap held (sym (count-kept_others marks owner other ids distinct owned apart) ∙ (omega (arith)))
          ∙ ap (λ n. held (count_of other (kept marks ids) + n)) (sym (cond-false {A = ℕ} (eqb owner other) (length add) 0 apart))
          ∙ ap held (sym now)
    ]
