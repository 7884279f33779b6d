-- The position of a decoration after an edit that touches it, relative to others.
use Rattle.std.proofs.Common.{◌≡◌, ℕ, ◌+◌, ◌-◌, ◌<◌, ◌≤◌, ℤ, pos, ◌≤ℤ◌, ◌<ℤ◌, Bool, true, false, ◌&&◌, ltb, leb, eqb, inl, inr, refl, sym, ap, subst, arith, w64}
use Rattle.std.specs.Prelude.{◌⊎◌, if◌then◌else◌, int_lt, not}
use Rattle.std.specs.Int.{cast_unsigned}
use Rattle.std.proofs.lemmas.Bool.{or_parts, and_parts, cases_Bool}
use Rattle.std.proofs.lemmas.Bool.Decides.{nat_tests}
use Rattle.std.proofs.lemmas.Int.{ints}
use Rattle.text_lengths.specs.declared.Span.{Span}
use Rattle.decoration_rules.specs.declared.Edit.{Edit}
use Rattle.decoration_rules.specs.declared.Mark.{Mark}
use Rattle.decoration_rules.specs.declared.Sticky.{Sticky}
use Rattle.decoration_rules.specs.Marks.{stands_before}
use Rattle.decoration_rules.specs.Moves.{AtPlace, at_start, at_replaced, at_end, stays_before, stays_at, removed, replaced, moved_offset, moved, moved_mark, is_taken, upright, start_sticks, end_sticks, offset_limit}
use Rattle.decoration_rules.proofs.MoveLemmas.{offset-stays_before, moved-upright}
use Rattle.interval_deltas.specs.declared.weave.KeptMark.{KeptMark}
use Rattle.interval_deltas.specs.Weave.{is_mark}
use Rattle.interval_deltas.specs.Kept.{as_mark, capped, moved_kept}
use Rattle.interval_deltas.specs.Mover.{ends_before, starts_behind}
use Rattle.interval_deltas.specs.Sorting.{IsNotBelow, LiesIn}
use Rattle.interval_deltas.proofs.Moving.{grounded, nat_order, still_kept, offset_still, span_past}
use Rattle.interval_deltas.proofs.Sorting.{stands_before-weak}
use Rattle.interval_deltas.proofs.Trees.{kept_order}

pick : (P : ℕ → Type 0) (a b c : Bool) (x y z : ℕ) → (a ≡ true → P x) → (b ≡ true → P x) → (c ≡ true → P y) → (c ≡ false → P z) → P (if a then x else (if b then x else (if c then y else z)))
pick P true b c x y z f g h k = f refl
pick P false true c x y z f g h k = g refl
pick P false false true x y z f g h k = h refl
pick P false false false x y z f g h k = k refl

pick_span : (P : Span → Type 0) (c : Bool) (x y : Span) → (c ≡ true → P x) → (c ≡ false → P y) → P (if c then x else y)
pick_span P true x y f g = f refl
pick_span P false x y f g = g refl

not_staying : (rule : AtPlace) (sticks : Bool) (offset place : ℕ) → stays_before rule sticks offset place ≡ false → place ≤ offset
not_staying rule sticks offset place e = let low = (or_parts (ltb offset place) (eqb offset place && stays_at rule sticks) e).0 in grind (arith, nat_tests)

replaced_few : (edit : Edit) → replaced edit ≤ edit.units
replaced_few edit = omega arith

module _ (edit : Edit) (up : edit.start ≤ edit.end) where
  stays_low : (sticks : Bool) (offset : ℕ) → (ltb 0 (replaced edit) && not edit.force && stays_before (at_replaced edit) sticks offset (edit.start + replaced edit)) ≡ true → offset ≤ edit.start + edit.units
  stays_low sticks offset e =
      let stay = (and_parts (ltb 0 (replaced edit) && not edit.force) (stays_before (at_replaced edit) sticks offset (edit.start + replaced edit)) e).1 in
      let le = offset-stays_before (at_replaced edit) sticks offset (edit.start + replaced edit) stay in let few = replaced_few edit in omega (arith, le, few)

  -- an offset at the edit's start or after it does not move before that start
  offset_high : (sticks : Bool) (offset : ℕ) → edit.start ≤ offset → edit.start ≤ moved_offset sticks offset edit
  offset_high sticks offset high =
      pick (λ n. edit.start ≤ n) (stays_before (at_start edit) sticks offset edit.start) (ltb 0 (replaced edit) && not edit.force && stays_before (at_replaced edit) sticks offset (edit.start + replaced edit))
      (stays_before (at_end edit) sticks offset edit.end) offset (edit.start + edit.units) (offset + edit.units - removed edit)
      (λ _. high) (λ _. high) (λ _. omega arith) (λ e. let le = not_staying (at_end edit) sticks offset edit.end e in omega (arith, le, up))

  -- an offset at the edit's end or before it does not move past the end of the inserted text
  offset_under : (sticks : Bool) (offset : ℕ) → offset ≤ edit.end → moved_offset sticks offset edit ≤ edit.start + edit.units
  offset_under sticks offset low =
      pick (λ n. n ≤ edit.start + edit.units) (stays_before (at_start edit) sticks offset edit.start)
      (ltb 0 (replaced edit) && not edit.force && stays_before (at_replaced edit) sticks offset (edit.start + replaced edit))
      (stays_before (at_end edit) sticks offset edit.end) offset (edit.start + edit.units) (offset + edit.units - removed edit)
      (λ e. let le = offset-stays_before (at_start edit) sticks offset edit.start e in omega (arith, le)) (stays_low sticks offset) (λ _. omega arith)
      (λ e. let le = not_staying (at_end edit) sticks offset edit.end e in omega (arith, le, low, up))

  module _ (span : Span) (sticky : Sticky) (collapse : Bool) where
    abbrev to : Span
    to = moved span sticky collapse edit

    abbrev apart : Span
    apart = upright (moved_offset (start_sticks sticky) span.start edit) (moved_offset (end_sticks sticky) span.end edit)

    abbrev point : Span
    point = record { start = edit.start; end = edit.start }

    taken_high : (collapse && is_taken span edit) ≡ true → edit.start ≤ span.start
    taken_high e =
        let low = (and_parts (leb edit.start span.start) (leb span.end edit.end) (and_parts collapse (is_taken span edit) e).1).0 in grind (arith, nat_tests)

    pub start_still : span.start < edit.start → to.start ≡ span.start
    start_still low =
        pick_span (λ s. s.start ≡ span.start) (collapse && is_taken span edit) point apart (λ e. let high = taken_high e in absurd (omega (arith, high, low))) (λ _. offset_still (start_sticks sticky) span.start edit low)

    pub start_high : edit.start ≤ span.start → edit.start ≤ to.start
    start_high high = pick_span (λ s. edit.start ≤ s.start) (collapse && is_taken span edit) point apart (λ _. omega arith) (λ _. offset_high (start_sticks sticky) span.start high)

    pub start_under : span.start ≤ edit.end → to.start ≤ edit.start + edit.units
    start_under low = pick_span (λ s. s.start ≤ edit.start + edit.units) (collapse && is_taken span edit) point apart (λ _. omega arith) (λ _. offset_under (start_sticks sticky) span.start low)

    pub end_high : edit.start ≤ span.end → edit.start ≤ to.end
    end_high high =
        pick_span (λ s. edit.start ≤ s.end) (collapse && is_taken span edit) point apart (λ _. omega arith)
        (λ _. let le = offset_high (end_sticks sticky) span.end high in omega (arith, le))

-- Two decorations keep their order if the edit does not touch both.

starts_before : (a b : Mark) → a.span.start < b.span.start → stands_before a b ≡ true
starts_before a b lt = grind (arith, nat_tests)

ends_later : (a b : Mark) (e : ℕ) → stands_before a b ≡ true → a.span.end < e → stands_before a (record b { span = record { start = b.span.start; end = e } }) ≡ true
ends_later a b e before lt = grind (arith, nat_tests)

starts_first : (a b : Mark) → stands_before a b ≡ true → b.span.end < a.span.end → a.span.start < b.span.start
starts_first a b before lt = grind (arith, nat_tests)

still_before : (edit : Edit) (a b : Mark) → edit.start ≤ edit.end → a.span.start ≤ a.span.end → a.span.end < edit.start → edit.start ≤ b.span.end → stands_before a b ≡ true → stands_before a (moved_mark edit b) ≡ true
still_before edit a b up order low reach before = elim (cases_Bool (ltb b.span.start edit.start)) [
  | inl first ↦
      let lt : b.span.start < edit.start = grind (arith, nat_tests) in let to = moved b.span b.sticky b.collapse edit in
      let high = end_high edit up b.span b.sticky b.collapse reach in
      subst (λ n. stands_before a (record b { span = record { start = n; end = to.end } }) ≡ true) (sym (start_still edit up b.span b.sticky b.collapse lt)) (ends_later a b to.end before (omega (arith, low, high)))
  | inr later ↦
      let le : edit.start ≤ b.span.start = grind (arith, nat_tests) in let high = start_high edit up b.span b.sticky b.collapse le in
      starts_before a (moved_mark edit b) (omega (arith, order, low, high))
]

before_still : (edit : Edit) (a b : Mark) → edit.start ≤ edit.end → b.span.start ≤ b.span.end → b.span.end < edit.start → edit.start ≤ a.span.end → stands_before a b ≡ true → stands_before (moved_mark edit a) b ≡ true
before_still edit a b up order low reach before =
    let lt = starts_first a b before (omega (arith, low, reach)) in let is = start_still edit up a.span a.sticky a.collapse (omega (arith, lt, order, low)) in
    starts_before (moved_mark edit a) b (omega (arith, is, lt))

before_past : (edit : Edit) (a b : Mark) → edit.start ≤ edit.end → a.span.start ≤ edit.end → edit.end < b.span.start → b.span.start ≤ b.span.end → stands_before (moved_mark edit a) (moved_mark edit b) ≡ true
before_past edit a b up low past order =
    let le = start_under edit up a.span a.sticky a.collapse low in let is = ap (λ (s : Span). s.start) (span_past b.span b.sticky b.collapse edit up order past) in
    starts_before (moved_mark edit a) (moved_mark edit b) (omega (arith, le, is, past, up))

-- The same for decorations in the stored form.

under : (a b : ℤ) → int_lt a b ≡ true → a <ℤ b
under a b e = grind (arith, ints)

not_under : (a b : ℤ) → int_lt a b ≡ false → b ≤ℤ a
not_under a b e = grind (arith, ints)

abbrev pub IsTouched : Edit → KeptMark → Type 0
IsTouched edit m = (ends_before edit m ≡ false) × (starts_behind edit m ≡ false)

module _ (edit : Edit) (up : edit.start ≤ edit.end) (m : KeptMark) (value : is_mark m) where
  first : pos (cast_unsigned w64 m.start) ≡ m.start
  first = grounded m.start value.0

  second : pos (cast_unsigned w64 m.end) ≡ m.end
  second = grounded m.end (omega (arith, ints, value.0, value.1))

  pub ended : ends_before edit m ≡ true → m.end <ℤ pos edit.start
  ended e = let lt = under m.end (capped edit.start) e in omega (arith, ints, lt)

  pub behind : starts_behind edit m ≡ true → pos edit.end <ℤ m.start
  behind e = let lt = under (capped edit.end) m.start e in omega (arith, ints, lt, value.1, value.2)

  nat_ended : ends_before edit m ≡ true → (as_mark m).span.end < edit.start
  nat_ended e = let lt = ended e in let is = second in omega (arith, ints, lt, is)

  nat_behind : starts_behind edit m ≡ true → edit.end < (as_mark m).span.start
  nat_behind e = let lt = behind e in let is = first in omega (arith, ints, lt, is)

  nat_reaches : ends_before edit m ≡ false → edit.start ≤ (as_mark m).span.end
  nat_reaches e = let le = not_under m.end (capped edit.start) e in let is = second in omega (arith, ints, le, is, value.2)

  nat_starts : starts_behind edit m ≡ false → (as_mark m).span.start ≤ edit.end
  nat_starts e = let le = not_under (capped edit.end) m.start e in let is = first in omega (arith, ints, le, is)

  -- a decoration that the edit touches lies at the edited range afterwards
  pub lies_there : IsTouched edit m → (bound : ℤ) → bound ≡ capped (edit.start + edit.units) → (moved_mark edit (as_mark m)).span.end < offset_limit → LiesIn (capped edit.start) bound (moved_kept edit m)
  lies_there (reach, start) bound is fits =
      let own = as_mark m in let high = end_high edit up own.span own.sticky own.collapse (nat_reaches reach) in let low = start_under edit up own.span own.sticky own.collapse (nat_starts start) in
      let order = moved-upright own.span own.sticky own.collapse edit in
      (omega (arith, ints, high), omega (arith, ints, low, is, order, fits))

pub keeps_order : (edit : Edit) (a b : KeptMark) → edit.start ≤ edit.end → is_mark a → is_mark b → stands_before (as_mark a) (as_mark b) ≡ true
    → IsNotBelow (moved_kept edit a) (moved_kept edit b) ⊎ (IsTouched edit a × IsTouched edit b)
keeps_order edit a b up h g before =
    elim (cases_Bool (ends_before edit a)) [
      | inl low ↦ elim (cases_Bool (ends_before edit b)) [
        | inl low2 ↦ inl (strict (kept_order edit a b up h g (inl (ended edit up a h low)) (inl (ended edit up b g low2)) before))
        | inr reach ↦ inl (strict (subst (λ (k : KeptMark). stands_before (as_mark k) (as_mark (moved_kept edit b)) ≡ true) (sym (still_kept edit a h (ended edit up a h low)))
            (still_before edit (as_mark a) (as_mark b) up (nat_order a h) (nat_ended edit up a h low) (nat_reaches edit up b g reach) before)))
      ]
      | inr reach ↦ elim (cases_Bool (ends_before edit b)) [
        | inl low ↦ inl (strict (subst (λ (k : KeptMark). stands_before (as_mark (moved_kept edit a)) (as_mark k) ≡ true) (sym (still_kept edit b g (ended edit up b g low)))
            (before_still edit (as_mark a) (as_mark b) up (nat_order b g) (nat_ended edit up b g low) (nat_reaches edit up a h reach) before)))
        | inr reach2 ↦ elim (cases_Bool (starts_behind edit a)) [
          | inl past ↦ elim (cases_Bool (starts_behind edit b)) [
            | inl past2 ↦ inl (strict (kept_order edit a b up h g (inr (behind edit up a h past)) (inr (behind edit up b g past2)) before))
            | inr start ↦ absurd (let lt = nat_behind edit up a h past in let le = nat_starts edit up b g start in let no = not_later (as_mark a) (as_mark b) before in omega (arith, lt, le, no))
          ]
          | inr start ↦ elim (cases_Bool (starts_behind edit b)) [
            | inl past ↦ inl (strict (before_past edit (as_mark a) (as_mark b) up (nat_starts edit up a h start) (nat_behind edit up b g past) (nat_order b g)))
            | inr start2 ↦ inr ((reach, start), (reach2, start2))
          ]
        ]
      ]
    ]
  where
    strict : stands_before (as_mark (moved_kept edit a)) (as_mark (moved_kept edit b)) ≡ true → IsNotBelow (moved_kept edit a) (moved_kept edit b)
    strict before2 = stands_before-weak.one_way (as_mark (moved_kept edit a)) (as_mark (moved_kept edit b)) before2

    not_later : (x y : Mark) → stands_before x y ≡ true → x.span.start ≤ y.span.start
    not_later x y e = grind (arith, nat_tests)
