-- The lines that an edit touches, by what is counted at its ends.
use Rattle.std.proofs.Common.{◌≡◌, ℕ, ◌+◌, ◌-◌, ◌≤◌, ◌++◌, Bool, true, false, if◌then◌else◌, List, length, take, drop, refl, ap, sym, subst, ◌∙◌, arith}
use Rattle.text_lengths.specs.declared.Span.{Span}
use Rattle.text_lengths.specs.declared.Dirty.{Dirty}
use Rattle.line_starts.specs.Starts.{break_count}
use Rattle.line_starts.proofs.Starts.{break_count_is}
use Rattle.text_rules.specs.Lines.{lines_of, carriage_return}
use Rattle.text_rules.specs.Dirty.{is_after_return, touched_from, replaced, first_dirty, old_dirty, new_dirty, dirty_lines}
use Rattle.text_rules.specs.Breaks.{count_to, break_ends, ends_with, joins_pair}
use Rattle.text_rules.proofs.DirtyLines.{after_return_is, first_is, last_is, f_within, new_is, lines_before, lines_after}
use Rattle.text_buffer.specs.Text.{one_if}

less_one_if : (start : ℕ) (after : Bool) → start - one_if after ≡ (if after then start - 1 else start)
less_one_if start true = refl
less_one_if start false = omega arith

module _ (x : List ℕ) (span : Span) (text : List ℕ) (ordered : span.start ≤ span.end) (within : span.end ≤ length x)
    (after : Bool) (after_return first last breaks pairs : ℕ) (after_is : after ≡ ends_with carriage_return (take span.start x)) (after_return_is_one : after_return ≡ one_if after)
    (first_count : first ≡ count_to (span.start - after_return) (break_ends 0 x)) (last_count : last ≡ count_to span.end (break_ends 0 x))
    (breaks_are : breaks ≡ break_count text)
    (pairs_are : pairs ≡ one_if (joins_pair (take span.start x) (text ++ drop span.end x)) + one_if (joins_pair text (drop span.end x))) where
  return_is : is_after_return x span.start ≡ after
  return_is = after_return_is x span.start (omega arith) ∙ sym after_is

  from_is : span.start - after_return ≡ touched_from x span.start
  from_is =
      ap (λ (n : ℕ). span.start - n) after_return_is_one ∙ less_one_if span.start after
      ∙ ap (λ (b : Bool). if b then span.start - 1 else span.start) (sym return_is)

  first_line_is : first + 1 ≡ first_dirty x span
  first_line_is = ap (λ (n : ℕ). n + 1) (first_count ∙ ap (λ (n : ℕ). count_to n (break_ends 0 x)) from_is) ∙ sym (first_is x span text ordered within)

  pub first_within : first ≤ last
  first_within = omega (arith, first_line_is, first_is x span text ordered within, f_within x span text ordered within, last_count)

  pub new_count : new_dirty x span text + pairs ≡ breaks + 1 + after_return
  new_count =
      omega (arith, new_is x span text ordered within, pairs_are, breaks_are, break_count_is text, after_return_is_one, ap one_if return_is)

  abbrev counted : Dirty
  counted = record { first = first + 1; old = last + 1 + 1 - (first + 1); new = breaks + 1 + after_return - pairs }

  pub counted_is : counted ≡ dirty_lines x span text
  counted_is =
      let old : last + 1 + 1 - (first + 1) ≡ old_dirty x span = omega (arith, last_count, last_is x span text ordered within, first_line_is) in
      let new : breaks + 1 + after_return - pairs ≡ new_dirty x span text = omega (arith, new_count) in
      (λ i. record { first = first_line_is i; old = old i; new = new i })

-- the lines on both sides of those that an edit touches
module _ (x : List ℕ) (span : Span) (text : List ℕ) (ordered : span.start ≤ span.end) (within : span.end ≤ length x) (dirty : Dirty) (is : dirty ≡ dirty_lines x span text) where
  pub before_dirty : take (dirty.first - 1) (lines_of (replaced x span text)) ≡ take (dirty.first - 1) (lines_of x)
  before_dirty =
      subst (λ (d : Dirty). take (d.first - 1) (lines_of (replaced x span text)) ≡ take (d.first - 1) (lines_of x)) (sym is)
      (lines_before x span text ordered within)

  pub after_dirty : drop (dirty.first - 1 + dirty.new) (lines_of (replaced x span text)) ≡ drop (dirty.first - 1 + dirty.old) (lines_of x)
  after_dirty =
      subst (λ (d : Dirty). drop (d.first - 1 + d.new) (lines_of (replaced x span text)) ≡ drop (d.first - 1 + d.old) (lines_of x)) (sym is)
      (lines_after x span text ordered within)
