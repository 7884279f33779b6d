-- The move of decorations before and after an edit.
use Rattle.std.proofs.Common.{◌≡◌, ℕ, ◌+◌, ◌-◌, ◌<◌, ◌≤◌, ℤ, pos, negsuc, ◌+ℤ◌, ◌-ℤ◌, ◌≤ℤ◌, ◌<ℤ◌, Bool, false, not, ◌&&◌, ltb, leb, eqb, inl, inr, List, [], ◌∷◌, w64, refl, sym, ◌∙◌, ap, arith}
use Rattle.std.specs.Int.{cast_unsigned}
use Rattle.std.proofs.lemmas.Bool.{cond-true, cond-false, and_parts, or_left, lt-ltb, leb-true, cases_Bool}
use Rattle.std.proofs.lemmas.Int.{ints}
use Rattle.text_lengths.specs.declared.Span.{Span}
use Rattle.rb_rules.specs.Shifts.{shifted}
use Rattle.decoration_rules.specs.declared.Edit.{Edit}
use Rattle.decoration_rules.specs.declared.Sticky.{Sticky}
use Rattle.decoration_rules.specs.Moves.{AtPlace, at_start, at_replaced, at_end, stays_before, stays_at, removed, replaced, moved_offset, moved, moved_mark, is_taken, upright, start_sticks, end_sticks, offset_limit}
use Rattle.decoration_rules.proofs.MoveLemmas.{offset-stays_before, moved-upright}
use Rattle.interval_deltas.specs.declared.weave.KeptMark.{KeptMark}
use Rattle.interval_deltas.specs.Weave.{marks, is_mark, moved_by}
use Rattle.interval_deltas.specs.Kept.{Each, AreMarks, as_mark, kept_of, moved_kept, moved_items, CanMove}

-- numbers of a decoration are offsets
pub grounded : (z : ℤ) → pos 0 ≤ℤ z → pos (cast_unsigned w64 z) ≡ z
grounded (pos n) h = refl
grounded (negsuc n) h = absurd (omega (arith, ints, h))

pub kept_as : (m : KeptMark) → is_mark m → kept_of (as_mark m) ≡ m
kept_as m (h, g, l) = λ i. record { start = grounded m.start h i; end = grounded m.end (omega (arith, ints, h, g)) i; label = m.label }

-- A decoration that starts after the edit.

past_place : (rule : AtPlace) (sticks : Bool) (offset place : ℕ) → place < offset → stays_before rule sticks offset place ≡ false
past_place rule sticks offset place past = elim (cases_Bool (stays_before rule sticks offset place)) [
  | inl stays ↦ absurd (omega (arith, offset-stays_before rule sticks offset place stays))
  | inr goes ↦ goes
]

past_replaced : (sticks : Bool) (offset : ℕ) (edit : Edit) → edit.start ≤ edit.end → edit.end < offset
    → (ltb 0 (replaced edit) && not edit.force && stays_before (at_replaced edit) sticks offset (edit.start + replaced edit)) ≡ false
past_replaced sticks offset edit up past =
    elim (cases_Bool (ltb 0 (replaced edit) && not edit.force && stays_before (at_replaced edit) sticks offset (edit.start + replaced edit))) [
      | inl stays ↦ absurd (omega (arith, offset-stays_before (at_replaced edit) sticks offset (edit.start + replaced edit) (and_parts _ _ stays).1))
      | inr goes ↦ goes
    ]

offset_past : (sticks : Bool) (offset : ℕ) (edit : Edit) → edit.start ≤ edit.end → edit.end < offset → moved_offset sticks offset edit ≡ offset + edit.units - removed edit
offset_past sticks offset edit up past =
    cond-false (stays_before (at_start edit) sticks offset edit.start) offset _ (past_place (at_start edit) sticks offset edit.start (omega arith))
    ∙ cond-false (ltb 0 (replaced edit) && not edit.force && stays_before (at_replaced edit) sticks offset (edit.start + replaced edit)) offset _ (past_replaced sticks offset edit up past)
    ∙ cond-false (stays_before (at_end edit) sticks offset edit.end) (edit.start + edit.units) _ (past_place (at_end edit) sticks offset edit.end past)

not_taken : (collapse : Bool) (span : Span) (edit : Edit) → (edit.start ≤ span.start → span.end ≤ edit.end → ⊥) → (collapse && is_taken span edit) ≡ false
not_taken collapse span edit apart = elim (cases_Bool (collapse && is_taken span edit)) [
  | inl taken ↦
      let parts = and_parts (leb edit.start span.start) (leb span.end edit.end) (and_parts collapse (is_taken span edit) taken).1 in
      absurd (apart (leb-true edit.start span.start parts.0) (leb-true span.end edit.end parts.1))
  | inr free ↦ free
]

upright_is : (start end : ℕ) → start ≤ end → upright start end ≡ record { start = start; end = end }
upright_is start end up = ap (λ n. record { start = start; end = n }) (omega arith)

pub span_past : (span : Span) (sticky : Sticky) (collapse : Bool) (edit : Edit) → edit.start ≤ edit.end → span.start ≤ span.end → edit.end < span.start
    → moved span sticky collapse edit ≡ record { start = span.start + edit.units - removed edit; end = span.end + edit.units - removed edit }
span_past span sticky collapse edit up order past =
    cond-false (collapse && is_taken span edit) (record { start = edit.start; end = edit.start }) _ (not_taken collapse span edit (λ low high. absurd (omega (arith, high))))
    ∙ (λ i. upright (offset_past (start_sticks sticky) span.start edit up past i) (offset_past (end_sticks sticky) span.end edit up (omega arith) i))
    ∙ upright_is (span.start + edit.units - removed edit) (span.end + edit.units - removed edit) (omega arith)

-- A decoration that ends before the edit.

pub offset_still : (sticks : Bool) (offset : ℕ) (edit : Edit) → offset < edit.start → moved_offset sticks offset edit ≡ offset
offset_still sticks offset edit low =
    cond-true (stays_before (at_start edit) sticks offset edit.start) offset _ (or_left (ltb offset edit.start) (eqb offset edit.start && stays_at (at_start edit) sticks) (lt-ltb offset edit.start low))

span_still : (span : Span) (sticky : Sticky) (collapse : Bool) (edit : Edit) → span.start ≤ span.end → span.end < edit.start → moved span sticky collapse edit ≡ span
span_still span sticky collapse edit order low =
    cond-false (collapse && is_taken span edit) (record { start = edit.start; end = edit.start }) _ (not_taken collapse span edit (λ first high. absurd (omega (arith, first))))
    ∙ (λ i. upright (offset_still (start_sticks sticky) span.start edit (omega arith) i) (offset_still (end_sticks sticky) span.end edit low i))
    ∙ upright_is span.start span.end order

-- The same for items.

pub nat_order : (m : KeptMark) → is_mark m → cast_unsigned w64 m.start ≤ cast_unsigned w64 m.end
nat_order m (h, g, l) = let first = grounded m.start h in let second = grounded m.end (omega (arith, ints, h, g)) in omega (arith, ints, first, second, g)

pub still_kept : (edit : Edit) (m : KeptMark) → is_mark m → m.end <ℤ pos edit.start → moved_kept edit m ≡ m
still_kept edit m h low =
    let own = as_mark m in
    let second = grounded m.end (omega (arith, ints, h.0, h.1)) in
    ap kept_of (λ i. record own { span = span_still own.span own.sticky own.collapse edit (nat_order m h) (omega (arith, ints, second, low)) i }) ∙ kept_as m h

pub past_kept : (edit : Edit) (m : KeptMark) (by : ℤ) → is_mark m → edit.start ≤ edit.end → pos edit.end <ℤ m.start → by ≡ pos edit.units -ℤ pos (edit.end - edit.start) → moved_by by m ≡ moved_kept edit m
past_kept edit m by h up past is =
    let own = as_mark m in
    let first = grounded m.start h.0 in let second = grounded m.end (omega (arith, ints, h.0, h.1)) in
    let start : by +ℤ m.start ≡ pos (cast_unsigned w64 m.start + edit.units - (edit.end - edit.start)) = omega (arith, ints, first, past, is, up) in
    let end : by +ℤ m.end ≡ pos (cast_unsigned w64 m.end + edit.units - (edit.end - edit.start)) = omega (arith, ints, second, past, is, up, h.1) in
    (λ i. record { start = start i; end = end i; label = m.label })
    ∙ sym (ap kept_of (λ i. record own { span = span_past own.span own.sticky own.collapse edit up (nat_order m h) (omega (arith, ints, first, past)) i }))

pub moved_is_mark : (edit : Edit) (m : KeptMark) → (moved_mark edit (as_mark m)).span.end < offset_limit → is_mark (moved_kept edit m)
moved_is_mark edit m fits =
    let own = as_mark m in
    let up = moved-upright own.span own.sticky own.collapse edit in
    (omega (arith, ints), omega (arith, ints, up), omega (arith, ints, fits))

pub moved_are : (edit : Edit) (es : List (ℕ × KeptMark)) → CanMove edit es → AreMarks (moved_items edit es)
moved_are edit [] h = tt
moved_are edit (e ∷ es) (h, hs) = (moved_is_mark edit e.1 h, moved_are edit es hs)

pub still_items : (edit : Edit) (es : List (ℕ × KeptMark)) → AreMarks es → Each (λ m. m.end <ℤ pos edit.start) es → moved_items edit es ≡ es
still_items edit [] h g = refl
still_items edit (e ∷ es) (h, hs) (g, gs) = λ i. (e.0, still_kept edit e.1 h g i) ∷ still_items edit es hs gs i

pub past_items : (edit : Edit) (by : ℤ) (es : List (ℕ × KeptMark)) → edit.start ≤ edit.end → by ≡ pos edit.units -ℤ pos (edit.end - edit.start) → AreMarks es → Each (λ m. pos edit.end <ℤ m.start) es
    → shifted marks by es ≡ moved_items edit es
past_items edit by [] up is h g = refl
past_items edit by (e ∷ es) up is (h, hs) (g, gs) = λ i. (e.0, past_kept edit e.1 by h up g is i) ∷ past_items edit by es up is hs gs i

-- the size of an edit after a decoration
pub small_edit : (edit : Edit) (m : KeptMark) → is_mark m → edit.start ≤ edit.end → pos edit.end <ℤ m.start → (moved_mark edit (as_mark m)).span.end < offset_limit
    → (edit.units < offset_limit) × (edit.end < offset_limit)
small_edit edit m h up past fits =
    let own = as_mark m in
    let first = grounded m.start h.0 in let second = grounded m.end (omega (arith, ints, h.0, h.1)) in
    let order = nat_order m h in
    let end : (moved_mark edit own).span.end ≡ cast_unsigned w64 m.end + edit.units - (edit.end - edit.start) =
    ap (λ (s : Span). s.end) (span_past own.span own.sticky own.collapse edit up order (omega (arith, ints, first, past))) in
    (omega (arith, ints, first, second, past, end, fits, order), omega (arith, ints, first, past, h.1, h.2))
