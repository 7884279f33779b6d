-- A text of several parts that is put in part by part.
use Rattle.std.proofs.Common.{◌≡◌, ℕ, ◌+◌, ◌-◌, ◌*◌, ◌/◌, ◌<◌, ◌≤◌, ◌^◌, false, List, ◌++◌, length, take, drop, sym, ap, ◌∙◌, append_assoc, arith}
use Rattle.std.proofs.lemmas.List.{length-append, take-append-drop, length-take-le, length-drop, take_at, drop_at, take_all, drop_all, append-nil}
use Rattle.line_starts.specs.Starts.{break_count}
use Rattle.text_lengths.specs.declared.Span.{Span}
use Rattle.text_rules.specs.Edits.{edited}
use Rattle.text_buffer.specs.Room.{Room, most_part, part_count, need_of_edit, IsEnough, IsEnoughForPart, HasSpent, HasSpentPart, units_beside_text}
use Rattle.text_buffer.proofs.AddedBreaks.{break_count-split}

abbrev pub span_at : ℕ → Span
span_at at = record { start = at; end = at }

-- the first part replaces the span, and the rest comes after it
pub edited_again : (x first rest : List ℕ) (span : Span) (at : ℕ) → span.start ≤ length x → at ≡ span.start + length first
    → edited (edited x (record { span = span; text = first; force = false })) (record { span = span_at at; text = rest; force = false })
    ≡ edited x (record { span = span; text = first ++ rest; force = false })
edited_again x first rest span at within at_is =
    let front = take span.start x ++ first in let back = drop span.end x in
    let place : length front ≡ at = omega (arith, at_is, length-append (take span.start x) first, length-take-le span.start x within) in
    (λ i. take_at front back at place i ++ rest ++ drop_at front back at place i)
    ∙ ap (λ y. y ++ back) (append_assoc (take span.start x) first rest)

-- the room that a first part needs, and what is left for the rest
module _ (text : List ℕ) (long : most_part < length text) where
  first_size : length (take most_part text) ≡ most_part
  first_size = length-take-le most_part text (omega arith)

  pub parts_of_rest : part_count text ≡ 1 + part_count (drop most_part text)
  parts_of_rest = omega (arith, length-drop most_part text)

  breaks_of_parts : break_count (take most_part text) + break_count (drop most_part text) ≤ break_count text + 1
  breaks_of_parts = omega (arith, break_count-split (take most_part text) (drop most_part text), ap break_count (take-append-drop most_part text))

  pub room_for_first : (room : Room) → IsEnough room (need_of_edit text) → IsEnoughForPart room (take most_part text)
  room_for_first room enough = record {
    edits = omega (arith, enough.edits);
    units = omega (arith, enough.units, first_size);
    breaks = omega (arith, enough.breaks, parts_of_rest, breaks_of_parts);
  }

  pub room_for_rest : (old mid : Room) → IsEnough old (need_of_edit text) → HasSpentPart (take most_part text) old mid → IsEnough mid (need_of_edit (drop most_part text))
  room_for_rest old mid enough spent = record {
    edits = omega (arith, enough.edits, spent.edits, parts_of_rest);
    units = omega (arith, enough.units, spent.units, parts_of_rest, first_size, length-drop most_part text);
    breaks = omega (arith, enough.breaks, spent.breaks, parts_of_rest, breaks_of_parts);
  }

  pub spent_by_parts : (old mid new : Room) → HasSpentPart (take most_part text) old mid → HasSpent (need_of_edit (drop most_part text)) mid new
      → HasSpent (need_of_edit text) old new
  spent_by_parts old mid new one rest = record {
    edits = omega (arith, one.edits, rest.edits, parts_of_rest);
    units = omega (arith, one.units, rest.units, parts_of_rest, first_size, length-drop most_part text);
    breaks = omega (arith, one.breaks, rest.breaks, parts_of_rest, breaks_of_parts);
  }

-- the text after the first part is put in
module _ (x y text : List ℕ) (span : Span) (long : most_part < length text) (within : span.start ≤ length x)
    (is : y ≡ edited x (record { span = span; text = take most_part text; force = false })) where
  pub place_for_rest : span.start + most_part ≤ length y
  place_for_rest =
      let front = take span.start x ++ take most_part text in
      omega (arith, ap length is, length-append front (drop span.end x), length-append (take span.start x) (take most_part text), length-take-le span.start x within, first_size text long)

  pub with_rest : edited y (record { span = span_at (span.start + most_part); text = drop most_part text; force = false })
      ≡ edited x (record { span = span; text = text; force = false })
  with_rest =
      ap (λ z. edited z (record { span = span_at (span.start + most_part); text = drop most_part text; force = false })) is
      ∙ edited_again x (take most_part text) (drop most_part text) span (span.start + most_part) within (omega (arith, first_size text long))
      ∙ ap (λ t. edited x (record { span = span; text = t; force = false })) (take-append-drop most_part text)

-- where the whole text was replaced by the first part, the rest comes after it
pub recast_with_rest : (y text : List ℕ) → most_part < length text → y ≡ take most_part text
    → edited y (record { span = span_at most_part; text = drop most_part text; force = false }) ≡ text
recast_with_rest y text long is =
    let size = first_size text long in
    ap (λ z. take most_part z ++ drop most_part text ++ drop most_part z) is
    ∙ (λ i. take_all most_part (take most_part text) (omega (arith, size)) i ++ drop most_part text ++ drop_all most_part (take most_part text) (omega (arith, size)) i)
    ∙ append-nil _ ∙ take-append-drop most_part text
