-- A decoration stays within the text after each edit.
use Rattle.std.proofs.Common.{◌≡◌, ℕ, ◌+◌, ◌-◌, ◌≤◌, Bool, true, not, ◌&&◌, ltb, eqb, inl, inr, arith}
use Rattle.std.proofs.lemmas.Bool.{cond_both, ltb-true, eqb-true, or_cases, and_parts}
use Rattle.text_lengths.specs.declared.Span.{Span}
use Rattle.decoration_rules.specs.declared.Edit.{Edit}
use Rattle.decoration_rules.specs.declared.Sticky.{Sticky}
use Rattle.decoration_rules.specs.Moves.{AtPlace, at_start, at_replaced, at_end, stays_before, stays_at, removed, replaced, moved_offset, IsSpanIn, moved, is_taken, upright, start_sticks, end_sticks}

-- an offset that stays before a place is at most that place
pub offset-stays_before : (rule : AtPlace) (sticks : Bool) (offset place : ℕ) → stays_before rule sticks offset place ≡ true → offset ≤ place
offset-stays_before rule sticks offset place stays =
    elim (or_cases (ltb offset place) (eqb offset place && stays_at rule sticks) stays) [
      | inl below ↦ omega (arith, ltb-true offset place below)
      | inr at ↦ omega (arith, eqb-true offset place (and_parts (eqb offset place) (stays_at rule sticks) at).0)
    ]

pub moved_offset-within : (sticks : Bool) (offset : ℕ) (edit : Edit) (len : ℕ) → offset ≤ len → edit.start ≤ edit.end → edit.end ≤ len
    → moved_offset sticks offset edit ≤ len - removed edit + edit.units
moved_offset-within sticks offset edit len offset_in upright_edit edit_in =
    let P : ℕ → Type 0 = λ place. place ≤ len - removed edit + edit.units in
    cond_both (stays_before (at_start edit) sticks offset edit.start) offset _ P
    (λ stays. omega (arith, offset-stays_before (at_start edit) sticks offset edit.start stays))
    (λ _. cond_both (ltb 0 (replaced edit) && not edit.force && stays_before (at_replaced edit) sticks offset (edit.start + replaced edit)) offset _ P
    (λ stays. omega (arith, offset-stays_before (at_replaced edit) sticks offset (edit.start + replaced edit) (and_parts _ _ stays).1))
    (λ _. cond_both (stays_before (at_end edit) sticks offset edit.end) (edit.start + edit.units) _ P
    (λ _. omega arith) (λ _. omega arith)))

-- a span within the text moves to a span within the text after the edit
pub moved-within : (span : Span) (sticky : Sticky) (collapse : Bool) (edit : Edit) (len : ℕ) → IsSpanIn span len → edit.start ≤ edit.end → edit.end ≤ len
    → IsSpanIn (moved span sticky collapse edit) (len - removed edit + edit.units)
moved-within span sticky collapse edit len span_in upright_edit edit_in =
    let start_in : moved_offset (start_sticks sticky) span.start edit ≤ len - removed edit + edit.units =
    moved_offset-within (start_sticks sticky) span.start edit len (omega arith) upright_edit edit_in in
    let end_in : moved_offset (end_sticks sticky) span.end edit ≤ len - removed edit + edit.units =
    moved_offset-within (end_sticks sticky) span.end edit len span_in.within upright_edit edit_in in
    cond_both (collapse && is_taken span edit) (record { start = edit.start; end = edit.start })
    (upright (moved_offset (start_sticks sticky) span.start edit) (moved_offset (end_sticks sticky) span.end edit))
    (λ (s : Span). IsSpanIn s (len - removed edit + edit.units))
    (λ _. record { upright = omega arith; within = omega arith })
    (λ _. record { upright = omega arith; within = omega arith })

-- the start of a moved span is at most its end
pub moved-upright : (span : Span) (sticky : Sticky) (collapse : Bool) (edit : Edit) → (moved span sticky collapse edit).start ≤ (moved span sticky collapse edit).end
moved-upright span sticky collapse edit =
    cond_both (collapse && is_taken span edit) (record { start = edit.start; end = edit.start })
    (upright (moved_offset (start_sticks sticky) span.start edit) (moved_offset (end_sticks sticky) span.end edit))
    (λ (s : Span). s.start ≤ s.end)
    (λ _. omega arith)
    (λ _. omega arith)
