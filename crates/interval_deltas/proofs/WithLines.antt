-- Decorations are carried along with their lines, one after the other.
use Rattle.std.proofs.Common.{◌≡◌, ℕ, ◌≤◌, ◌≤ℤ◌, Bool, true, false, inl, inr, List, [], ◌∷◌, refl, sym, ◌∙◌, ap, subst, arith}
use Rattle.std.specs.Prelude.{◌⊎◌}
use Rattle.std.specs.Int.{int_min, int_max}
use Rattle.std.proofs.lemmas.Bool.{both_ways, cases_Bool, cond-true, cond-false}
use Rattle.std.proofs.lemmas.Bool.Decides.{nat_tests}
use Rattle.std.proofs.lemmas.Int.{ints, clamps}
use Rattle.rb_rules.specs.Woven.{Valued}
use Rattle.rb_rules.specs.Rewriting.{rewritten_all, onward_all}
use Rattle.decoration_rules.specs.declared.LineMove.{LineMove}
use Rattle.decoration_rules.specs.declared.Mark.{Mark}
use Rattle.decoration_rules.specs.Lines.{AreLineMoves, carried_mark}
use Rattle.decoration_rules.specs.Marks.{stands_before, IsInOrder}
use Rattle.decoration_rules.proofs.LineLemmas.{carried_place-rises, carried_place-within}
use Rattle.decoration_rules.proofs.OrderLemmas.{stands_before-trans}
use Rattle.interval_deltas.specs.declared.weave.KeptMark.{KeptMark}
use Rattle.interval_deltas.specs.Carrier.{Carried, met, carried_by, onward_of}
use Rattle.interval_deltas.specs.Kept.{Each, AreMarks, as_mark, mark_at, marks_of, place_of, changed_kept, changed_items}
use Rattle.interval_deltas.specs.Sorting.{Pairs, IsNotBelow, LiesIn, CrossIn}
use Rattle.interval_deltas.specs.Weave.{marks, is_mark, is_low}
use Rattle.interval_deltas.proofs.Crossing.{changed_pairs}
use Rattle.interval_deltas.proofs.Items.{each_weaker, each_with, each_listed, sum_low}
use Rattle.interval_deltas.proofs.Moving.{grounded, nat_order}
use Rattle.interval_deltas.proofs.Sorting.{stands_before-weak}

-- One decoration is recorded.

module _ (v : Carried) (m : KeptMark) where
  abbrev pub is_below : Bool
  is_below = stands_before (as_mark m) (mark_at v.greatest)

  abbrev pub crossing : Carried
  crossing = record v { first = int_min v.first m.start; last = int_max v.last m.start }

  pub met_below : is_below ≡ true → met v m ≡ crossing
  met_below below = cond-true is_below crossing (record v { greatest = place_of m }) below

  met_above : is_below ≡ false → met v m ≡ record v { greatest = place_of m }
  met_above above = cond-false is_below crossing (record v { greatest = place_of m }) above

  same_lines : (met v m).lines ≡ v.lines
  same_lines = elim (cases_Bool is_below) [
    | inl below ↦ ap (λ (w : Carried). w.lines) (met_below below)
    | inr above ↦ ap (λ (w : Carried). w.lines) (met_above above)
  ]

-- The range of the starts of decorations that came to lie before an earlier one.

abbrev Starts : Carried → KeptMark → Type 0
Starts v m = (v.first ≤ℤ m.start) × (m.start ≤ℤ v.last)

record IsWider (v w : Carried) : Type 0 where
  pub first : w.first ≤ℤ v.first
  pub last : v.last ≤ℤ w.last

wider_starts : (v w : Carried) (m : KeptMark) → IsWider v w → Starts v m → Starts w m
wider_starts v w m wider (low, high) = (omega (arith, ints, wider.first, low), omega (arith, ints, wider.last, high))

met_wider : (v : Carried) (m : KeptMark) → IsWider v (met v m)
met_wider v m = elim (cases_Bool (is_below v m)) [
  | inl below ↦ subst (IsWider v) (sym (met_below v m below)) (record { first = omega (arith, ints, clamps); last = omega (arith, ints, clamps) })
  | inr above ↦ subst (IsWider v) (sym (met_above v m above)) (record { first = omega (arith, ints); last = omega (arith, ints) })
]

met_starts : (v : Carried) (m : KeptMark) → is_below v m ≡ true → Starts (met v m) m
met_starts v m below = subst (λ w. Starts w m) (sym (met_below v m below)) (omega (arith, ints, clamps), omega (arith, ints, clamps))

-- A decoration before the greatest place so far, or before the recorded one, is before the new greatest place.

before_greatest : (v : Carried) (m : KeptMark) (x : Mark) → stands_before x (mark_at v.greatest) ≡ true → stands_before x (mark_at (met v m).greatest) ≡ true
before_greatest v m x before = elim (cases_Bool (is_below v m)) [
  | inl below ↦ subst (λ (w : Carried). stands_before x (mark_at w.greatest) ≡ true) (sym (met_below v m below)) before
  | inr above ↦ subst (λ (w : Carried). stands_before x (mark_at w.greatest) ≡ true) (sym (met_above v m above)) (elim (cases_Bool (stands_before x (as_mark m))) [
    | inl there ↦ there
    | inr other ↦ absurd (both_ways (stands_before x (mark_at v.greatest)) (stands_before-weak.chain x (as_mark m) (mark_at v.greatest) other above) before)
  ])
]

before_met : (v : Carried) (m : KeptMark) (x : Mark) → stands_before x (as_mark m) ≡ true → stands_before x (mark_at (met v m).greatest) ≡ true
before_met v m x before = elim (cases_Bool (is_below v m)) [
  | inl below ↦ subst (λ (w : Carried). stands_before x (mark_at w.greatest) ≡ true) (sym (met_below v m below)) (stands_before-trans x (as_mark m) (mark_at v.greatest) before below)
  | inr above ↦ subst (λ (w : Carried). stands_before x (mark_at w.greatest) ≡ true) (sym (met_above v m above)) before
]

-- All decorations are recorded.

abbrev all_met : Carried → List (ℕ × KeptMark) → Carried
all_met v [] = v
all_met v (e ∷ es) = all_met (met v e.1) es

all_met_wider : (v : Carried) (es : List (ℕ × KeptMark)) → IsWider v (all_met v es)
all_met_wider v [] = record { first = omega (arith, ints); last = omega (arith, ints) }
all_met_wider v (e ∷ es) =
    let one = met_wider v e.1 in let rest = all_met_wider (met v e.1) es in record {
      first = omega (arith, ints, one.first, rest.first);
      last = omega (arith, ints, one.last, rest.last);
    }

below_starts : (v : Carried) (es : List (ℕ × KeptMark)) → Each (λ m. is_below v m ≡ true → Starts (all_met v es) m) es
below_starts v [] = tt
below_starts v (e ∷ es) = (
  λ below. wider_starts (met v e.1) (all_met (met v e.1) es) e.1 (all_met_wider (met v e.1) es) (met_starts v e.1 below),
  each_weaker (λ m. is_below (met v e.1) m ≡ true → Starts (all_met (met v e.1) es) m) (λ m. is_below v m ≡ true → Starts (all_met (met v e.1) es) m)
      (λ m starts below. starts (before_greatest v e.1 (as_mark m) below)) es (below_starts (met v e.1) es),
)

abbrev NoLater : KeptMark → KeptMark → Type 0
NoLater a b = a.start ≤ℤ b.start

starts_no_later : (a b : Mark) → stands_before a b ≡ true → a.span.start ≤ b.span.start
starts_no_later a b before = grind (arith, nat_tests)

-- two decorations whose starts were in order and that are out of order now both start in that range
cross_two : (v : Carried) (a b : KeptMark) → is_mark a → is_mark b → NoLater a b → stands_before (as_mark b) (as_mark a) ≡ true → Starts v b → LiesIn v.first v.last a × LiesIn v.first v.last b
cross_two v a b (h, ends, l) (g, ends2, l2) le before (low, high) =
    let first = grounded a.start h in let second = grounded b.start g in let back = starts_no_later (as_mark b) (as_mark a) before in
    ((omega (arith, ints, first, second, le, back, low, ends), omega (arith, ints, le, high)), (omega (arith, ints, low, ends2), high))

cross_met : (v : Carried) (es : List (ℕ × KeptMark)) → AreMarks es → Pairs NoLater es → CrossIn (all_met v es).first (all_met v es).last es
cross_met v [] h r = tt
cross_met v (e ∷ es) (h, hs) (r, rs) =
    let w = met v e.1 in let after = all_met w es in (
      each_with (λ m. is_mark m × NoLater e.1 m) (λ m. is_below w m ≡ true → Starts after m) (λ m. IsNotBelow e.1 m ⊎ (LiesIn after.first after.last e.1 × LiesIn after.first after.last m))
          (λ m (g, le) starts. elim (cases_Bool (stands_before (as_mark m) (as_mark e.1))) [
            | inl before ↦ inr (cross_two after e.1 m h g le before (starts (before_met v e.1 (as_mark m) before)))
            | inr above ↦ inl above
          ]) es (each_with is_mark (NoLater e.1) (λ m. is_mark m × NoLater e.1 m) (λ m g le. (g, le)) es hs r) (below_starts w es),
      cross_met w es hs rs,
    )

-- All decorations are carried along with their lines.

all_carried : (v : Carried) (es : List (ℕ × KeptMark)) → rewritten_all carried_by onward_of v es ≡ changed_items (carried_mark v.lines) es
all_carried v [] = refl
all_carried v (e ∷ es) =
    ap (λ l. (e.0, carried_by v e.1) ∷ l) (all_carried (onward_of v e.1) es ∙ ap (λ lines. changed_items (carried_mark lines) es) (same_lines v (carried_by v e.1)))

all_onward : (v : Carried) (es : List (ℕ × KeptMark)) → onward_all carried_by onward_of v es ≡ all_met v (changed_items (carried_mark v.lines) es)
all_onward v [] = refl
all_onward v (e ∷ es) =
    all_onward (onward_of v e.1) es ∙ ap (λ lines. all_met (onward_of v e.1) (changed_items (carried_mark lines) es)) (same_lines v (carried_by v e.1))

module _ (lines : List LineMove) (are : AreLineMoves lines) where
  abbrev shown : KeptMark → KeptMark
  shown m = changed_kept (carried_mark lines) m

  carried_is_mark : (m : KeptMark) → is_mark m → is_mark (shown m)
  carried_is_mark m h =
      let span = (as_mark m).span in
      let up = carried_place-rises lines span.start span.end are (nat_order m h) in
      let low = carried_place-within lines span.end are in
      let fits = are.fits in
      (omega (arith, ints), omega (arith, ints, up), omega (arith, ints, low, fits))

  pub carried_marks : (es : List (ℕ × KeptMark)) → AreMarks es → AreMarks (changed_items (carried_mark lines) es)
  carried_marks [] h = tt
  carried_marks (e ∷ es) (h, hs) = (carried_is_mark e.1 h, carried_marks es hs)

  no_later : (es : List (ℕ × KeptMark)) → IsInOrder (marks_of es) → Pairs (λ a b. NoLater (shown a) (shown b)) es
  no_later [] ordered = tt
  no_later (e ∷ es) (o, os) = (
    each_weaker (λ m. stands_before (as_mark e.1) (as_mark m) ≡ true) (λ m. NoLater (shown e.1) (shown m)) (λ m before.
        let le = carried_place-rises lines (as_mark e.1).span.start (as_mark m).span.start are (starts_no_later (as_mark e.1) (as_mark m) before) in omega (arith, ints, le))
        es (each_listed (stands_before (as_mark e.1)) es o),
    no_later es os,
  )

  pub carried_is : (v : Carried) (es : List (ℕ × KeptMark)) → v.lines ≡ lines → rewritten_all carried_by onward_of v es ≡ changed_items (carried_mark lines) es
  carried_is v es is = all_carried v es ∙ ap (λ ls. changed_items (carried_mark ls) es) is

  pub values_carried : (v : Carried) (es : List (ℕ × KeptMark)) → v.lines ≡ lines → AreMarks es → Valued marks is_mark is_low (rewritten_all carried_by onward_of v es)
  values_carried v es is h =
      let new = subst AreMarks (sym (carried_is v es is)) (carried_marks es h) in (new, sum_low (rewritten_all carried_by onward_of v es) new)

  -- decorations that are out of order afterwards lie in the recorded range
  pub cross_carried : (v after : Carried) (es : List (ℕ × KeptMark)) → v.lines ≡ lines → after ≡ onward_all carried_by onward_of v es → AreMarks es → IsInOrder (marks_of es)
      → CrossIn after.first after.last (changed_items (carried_mark lines) es)
  cross_carried v after es is goes h ordered =
      let new = changed_items (carried_mark lines) es in
      let at_end : after ≡ all_met v new = goes ∙ all_onward v es ∙ ap (λ ls. all_met v (changed_items (carried_mark ls) es)) is in
      subst (λ (w : Carried). CrossIn w.first w.last new) (sym at_end) (cross_met v new (carried_marks es h) (changed_pairs NoLater (carried_mark lines) es (no_later es ordered)))
