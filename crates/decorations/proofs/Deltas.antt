-- When a change is refused, and what it leaves.
use Rattle.std.proofs.Common.{◌≡◌, ℕ, ◌+◌, ◌-◌, ◌^◌, ◌<◌, ◌≤◌, true, false, not, ◌||◌, if◌then◌else◌, ltb, eqb, List, [], ◌∷◌, ◌++◌, length, Result, Ok, Err, refl, sym, ◌∙◌, ap, subst, arith}
use Rattle.std.specs.Prelude.{IsOk}
use Rattle.std.specs.List.{All, list_any, list_all}
use Rattle.std.proofs.lemmas.Bool.{cond-true, cond-false, or_parts, or_left, not-false, both_ways, ltb-false}
use Rattle.std.proofs.lemmas.List.{length-append}
use Rattle.std.proofs.lemmas.List.Elements.{All-append, All-filter, All-weaker, All-nil, All-cons}
use Rattle.unit_text.specs.declared.kind.Kind.{Kind}
use Rattle.decoration_rules.specs.declared.Mark.{Mark}
use Rattle.decoration_rules.specs.declared.NewDeco.{NewDeco}
use Rattle.decoration_rules.specs.Refusals.{DecoRefusal, unknown, range, limit}
use Rattle.decoration_rules.specs.Moves.{offset_limit, IsSpanIn}
use Rattle.decoration_rules.specs.Marks.{in_order, IsInOrder, HasDistinctIds}
use Rattle.decoration_rules.specs.Decorations.{Decorations, IsSound, decorated, is_unknown, is_bad, is_too_much, kept, new_marks, owns, has_repeat, most_decorations, greatest_id}
use Rattle.decoration_rules.proofs.MarkLists.{All-in_order, IsInOrder-in_order, IsInOrder-filter, distinct_in_order, distinct_filter, length-in_order}
use Rattle.decoration_rules.proofs.InText.{IsNewIn, IsNewIn-from_good, LieIn-new_marks, IsAccepted, accepted}
use Rattle.decorations.specs.Owners.{Counts, count_in, Tells, Recounts}
use Rattle.decorations.specs.Set.{IsNew}
use Rattle.decorations.proofs.Removed.{all_live-owned, list_any-not, length-kept}
use Rattle.decorations.proofs.Added.{AreAdded, Below, added, length-new_marks}
use Rattle.decorations.proofs.Counted.{count-kept, count-le-length, count_in-told, Tells-recounted}

-- Refusals.

pub unknown-not_owned : (marks : List Mark) (owner : ℕ) (ids : List ℕ) → list_all (owns marks owner) ids ≡ false → is_unknown marks owner ids ≡ true
unknown-not_owned marks owner ids some =
    or_left (list_any (λ id. not (owns marks owner id)) ids) (has_repeat ids) (list_any-not (owns marks owner) ids ∙ ap not some)

pub unknown-repeat : (marks : List Mark) (owner : ℕ) (ids : List ℕ) → list_all (owns marks owner) ids ≡ true → is_unknown marks owner ids ≡ has_repeat ids
unknown-repeat marks owner ids owned = ap (λ b. b || has_repeat ids) (list_any-not (owns marks owner) ids ∙ ap not owned)

pub known-owned : (marks : List Mark) (owner : ℕ) (ids : List ℕ) → list_all (owns marks owner) ids ≡ true → has_repeat ids ≡ false → is_unknown marks owner ids ≡ false
known-owned marks owner ids owned once = unknown-repeat marks owner ids owned ∙ once

module _ (d : Decorations) (owner : ℕ) (ids : List ℕ) (add : List NewDeco) (kind : Kind) (units : List ℕ) where
  made : Decorations
  made = record { marks = in_order (kept d.marks ids ++ new_marks owner d.next_id add); next_id = d.next_id + length add }

  after_good : Result Decorations DecoRefusal
  after_good = if is_too_much d ids (length add) then Err limit else Ok made

  after_known : Result Decorations DecoRefusal
  after_known = if list_any (is_bad kind units) add then Err range else after_good

  pub decorated-unknown : is_unknown d.marks owner ids ≡ true → decorated d owner ids add kind units ≡ Err unknown
  unfolding after_known after_good made
  decorated-unknown named_wrong = cond-true (is_unknown d.marks owner ids) (Err unknown) after_known named_wrong

  pub decorated-bad : is_unknown d.marks owner ids ≡ false → list_any (is_bad kind units) add ≡ true → decorated d owner ids add kind units ≡ Err range
  unfolding after_known after_good made
  decorated-bad known bad = cond-false (is_unknown d.marks owner ids) (Err unknown) after_known known ∙ cond-true (list_any (is_bad kind units) add) (Err range) after_good bad

  pub decorated-too_much : is_unknown d.marks owner ids ≡ false → list_any (is_bad kind units) add ≡ false → is_too_much d ids (length add) ≡ true → decorated d owner ids add kind units ≡ Err limit
  unfolding after_known after_good made
  decorated-too_much known good much =
      cond-false (is_unknown d.marks owner ids) (Err unknown) after_known known ∙ cond-false (list_any (is_bad kind units) add) (Err range) after_good good
      ∙ cond-true (is_too_much d ids (length add)) (Err limit) (Ok made) much

  pub decorated-ok : is_unknown d.marks owner ids ≡ false → list_any (is_bad kind units) add ≡ false → is_too_much d ids (length add) ≡ false → IsOk (decorated d owner ids add kind units)
  unfolding after_known after_good made
  decorated-ok known good few =
      let is : decorated d owner ids add kind units ≡ Ok made =
      cond-false (is_unknown d.marks owner ids) (Err unknown) after_known known ∙ cond-false (list_any (is_bad kind units) add) (Err range) after_good good
      ∙ cond-false (is_too_much d ids (length add)) (Err limit) (Ok made) few in
      subst IsOk (sym is) refl

-- the number of removed decorations is the number of named ids
pub length-kept_owned : (marks : List Mark) (owner : ℕ) (ids : List ℕ) → HasDistinctIds marks → list_all (owns marks owner) ids ≡ true → has_repeat ids ≡ false
    → length (kept marks ids) + length ids ≡ length marks
length-kept_owned marks owner ids distinct owned once = length-kept ids marks distinct (all_live-owned marks owner ids owned) once

pub removed-within : (marks : List Mark) (owner : ℕ) (ids : List ℕ) → HasDistinctIds marks → list_all (owns marks owner) ids ≡ true → has_repeat ids ≡ false
    → length ids ≤ length marks
removed-within marks owner ids distinct owned once = omega (arith, length-kept_owned marks owner ids distinct owned once)

pub is_too_much-by_length : (d : Decorations) (owner : ℕ) (ids : List ℕ) (live n : ℕ) → HasDistinctIds d.marks → list_all (owns d.marks owner) ids ≡ true → has_repeat ids ≡ false
    → live ≡ length d.marks → is_too_much d ids n ≡ (ltb most_decorations (live - length ids + n) || ltb greatest_id (d.next_id + n - 1))
is_too_much-by_length d owner ids live n distinct owned once live_is =
    let left : length (kept d.marks ids) ≡ live - length ids = omega (arith, length-kept_owned d.marks owner ids distinct owned once) in
    ap (λ k. ltb most_decorations (k + n) || ltb greatest_id (d.next_id + n - 1)) left

-- What an accepted change leaves.

pub record IsFit (d : Decorations) (owner : ℕ) (ids : List ℕ) (add : List NewDeco) (kind : Kind) (units : List ℕ) : Type 0 where
  pub owned : list_all (owns d.marks owner) ids ≡ true
  pub once : has_repeat ids ≡ false
  pub good : list_any (is_bad kind units) add ≡ false
  pub few : length (kept d.marks ids) + length add ≤ most_decorations
  pub last : d.next_id + length add - 1 ≤ greatest_id

ok_value : (r : Result Decorations DecoRefusal) → IsOk r → (new : Decorations) × (r ≡ Ok new)
ok_value (Ok new) is = (new, refl)
ok_value (Err e) is = absurd (both_ways false refl is)

pub fit-from_ok : (d : Decorations) (owner : ℕ) (ids : List ℕ) (add : List NewDeco) (kind : Kind) (units : List ℕ) → IsOk (decorated d owner ids add kind units) → IsFit d owner ids add kind units
fit-from_ok d owner ids add kind units is =
    let new : (new : Decorations) × (decorated d owner ids add kind units ≡ Ok new) = ok_value (decorated d owner ids add kind units) is in
    let change : IsAccepted d owner ids add kind units new.0 = accepted d owner ids add kind units new.0 new.1 in
    let known = or_parts (list_any (λ id. not (owns d.marks owner id)) ids) (has_repeat ids) change.known in
    let limits = or_parts (ltb most_decorations (length (kept d.marks ids) + length add)) (ltb greatest_id (d.next_id + length add - 1)) change.few in
    record {
      owned = not-false (list_all (owns d.marks owner) ids) (sym (list_any-not (owns d.marks owner) ids) ∙ known.0);
      once = known.1;
      good = change.good;
      few = ltb-false most_decorations (length (kept d.marks ids) + length add) limits.0;
      last = ltb-false greatest_id (d.next_id + length add - 1) limits.1;
    }

-- the same, of the fields of a set whose view the rule accepts
pub fit-from_view : (d now : Decorations) → d ≡ now → (owner : ℕ) (ids : List ℕ) (add : List NewDeco) (kind : Kind) (units : List ℕ) → IsOk (decorated now owner ids add kind units)
    → IsFit d owner ids add kind units
fit-from_view d now same owner ids add kind units is =
    fit-from_ok d owner ids add kind units (subst (λ (set : Decorations). IsOk (decorated set owner ids add kind units)) (sym same) is)

pub kept-ordered : (marks : List Mark) (ids : List ℕ) → IsInOrder marks → IsInOrder (kept marks ids)
kept-ordered marks ids ordered = IsInOrder-filter (λ mark. not (list_any (λ id. eqb mark.id id) ids)) marks ordered

pub kept-distinct : (marks : List Mark) (ids : List ℕ) → HasDistinctIds marks → HasDistinctIds (kept marks ids)
kept-distinct marks ids distinct = distinct_filter (λ mark. not (list_any (λ id. eqb mark.id id) ids)) marks distinct

pub kept-below : (n : ℕ) (marks : List Mark) (ids : List ℕ) → Below n marks → Below n (kept marks ids)
kept-below n marks ids used = All-filter (λ mark. not (list_any (λ id. eqb mark.id id) ids)) (λ (mark : Mark). mark.id < n) marks used

pub all_new : (kind : Kind) (units : List ℕ) (add : List NewDeco) → length units < offset_limit → list_any (is_bad kind units) add ≡ false → All IsNew add
all_new kind units [] small good = All-nil IsNew
all_new kind units (new ∷ more) small good =
    let parts = or_parts (is_bad kind units new) (list_any (is_bad kind units) more) good in
    let is_in : IsNewIn new (length units) = IsNewIn-from_good kind units new parts.0 in
    All-cons IsNew new more
    (record { upright = is_in.span.upright; small = omega (arith, is_in.span.within, small); mode = is_in.mode })
    (all_new kind units more small parts.1)

all_added : (d : Decorations) (owner : ℕ) (ids : List ℕ) (add : List NewDeco) → IsSound d → AreAdded (kept d.marks ids ++ new_marks owner d.next_id add) (d.next_id + length add)
all_added d owner ids add sound =
    added owner d.next_id add (kept d.marks ids)
    (record { distinct = kept-distinct d.marks ids sound.distinct; used = kept-below d.next_id d.marks ids sound.used })

pub IsSound-delta : (d : Decorations) (owner : ℕ) (ids : List ℕ) (add : List NewDeco) (kind : Kind) (units : List ℕ) → IsSound d → IsFit d owner ids add kind units
    → IsSound (record { marks = in_order (kept d.marks ids ++ new_marks owner d.next_id add); next_id = d.next_id + length add })
IsSound-delta d owner ids add kind units sound fit =
    let stays = λ (mark : Mark). not (list_any (λ id. eqb mark.id id) ids) in
    let all : AreAdded (kept d.marks ids ++ new_marks owner d.next_id add) (d.next_id + length add) = all_added d owner ids add sound in
    record {
      ordered = IsInOrder-in_order (kept d.marks ids ++ new_marks owner d.next_id add) all.distinct;
      distinct = distinct_in_order (kept d.marks ids ++ new_marks owner d.next_id add) all.distinct;
      used = All-in_order (λ (mark : Mark). mark.id < d.next_id + length add) (kept d.marks ids ++ new_marks owner d.next_id add) all.used;
      upright = All-in_order (λ (mark : Mark). mark.span.start ≤ mark.span.end) (kept d.marks ids ++ new_marks owner d.next_id add)
          (All-append (λ (mark : Mark). mark.span.start ≤ mark.span.end) (kept d.marks ids) (new_marks owner d.next_id add)
          (All-filter stays (λ (mark : Mark). mark.span.start ≤ mark.span.end) d.marks sound.upright)
          (All-weaker (λ (m : Mark). IsSpanIn m.span (length units)) (λ (mark : Mark). mark.span.start ≤ mark.span.end) (λ mark inside. inside.upright)
          (new_marks owner d.next_id add) (LieIn-new_marks kind units owner d.next_id add fit.good)));
      few = omega (
        arith,
        length-in_order (kept d.marks ids ++ new_marks owner d.next_id add),
        length-append (kept d.marks ids) (new_marks owner d.next_id add),
        length-new_marks owner d.next_id add,
        fit.few,
      );
      first = omega (arith, sound.first);
      last = omega (arith, fit.last, sound.first);
    }

-- The number of the owner's decorations.

module _ (d : Decorations) (owner : ℕ) (ids : List ℕ) (add : List NewDeco) (kind : Kind) (units : List ℕ) (sound : IsSound d) (fit : IsFit d owner ids add kind units)
    (counts : Counts) (tells : Tells counts d.marks) where
  pub named-within : length ids ≤ count_in counts owner
  named-within = omega (arith, count-kept d.marks owner ids sound.distinct fit.owned fit.once, count_in-told counts d.marks owner tells)

  pub count-fits : count_in counts owner - length ids + length add < 2 ^ 64
  count-fits =
      omega (
        arith,
        count-kept d.marks owner ids sound.distinct fit.owned fit.once,
        count_in-told counts d.marks owner tells,
        count-le-length owner (kept d.marks ids),
        fit.few,
      )

  pub Tells-delta : (new : Counts) → Recounts counts new owner (length ids) (length add) → Tells new (in_order (kept d.marks ids ++ new_marks owner d.next_id add))
  Tells-delta new recounts =
      Tells-recounted counts new d.marks owner d.next_id ids add sound.distinct (all_added d owner ids add sound).distinct fit.owned fit.once tells recounts
