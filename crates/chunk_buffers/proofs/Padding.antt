-- A padded buffer has the breaks of the buffer, and makes no pair with the text.
use Rattle.std.proofs.Common.{◌≡◌, ℕ, ◌+◌, ◌-◌, Bool, true, false, cond, List, [], ◌∷◌, ◌++◌, length, take, drop, refl, ap, sym, ◌∙◌, zero-add, arith}
use Rattle.std.proofs.lemmas.List.{append-nil, take_rest, drop_at, length-append}
use Rattle.text_rules.specs.Lines.{carriage_return}
use Rattle.text_rules.specs.Breaks.{break_ends, ends_with, joins_pair}
use Rattle.text_rules.proofs.Breaks.{break_ends-append, ends_with_push, and_false}
use Rattle.line_starts.specs.Starts.{break_count, break_ends_at}
use Rattle.line_starts.proofs.Starts.{break_count_is, break_ends_at_is}
use Rattle.line_starts.proofs.Blocks.{same_count}
use Rattle.chunk_buffers.specs.Buffer.{padding, padded}

module _ (buffer text : List ℕ) where
  padded_apart_by : (b : Bool) → joins_pair buffer text ≡ b → joins_pair (cond b (buffer ++ padding ∷ []) buffer) text ≡ false
  padded_apart_by true e = rw (ends_with_push carriage_return padding buffer)
  padded_apart_by false e = e

  padded_ends_by : (b : Bool) → break_ends 0 (cond b (buffer ++ padding ∷ []) buffer) ≡ break_ends 0 buffer
  padded_ends_by true = break_ends-append 0 buffer (padding ∷ []) (and_false (ends_with carriage_return buffer)) ∙ append-nil (break_ends 0 buffer)
  padded_ends_by false = refl

  -- the breaks of a buffer that a text was appended to
  pub break_ends-appended : break_ends 0 (padded buffer text ++ text) ≡ break_ends 0 buffer ++ break_ends_at (length (padded buffer text)) text
  break_ends-appended =
      break_ends-append 0 (padded buffer text) text (padded_apart_by (joins_pair buffer text) refl)
      ∙ ap (λ ends. ends ++ break_ends (0 + length (padded buffer text)) text) (padded_ends_by (joins_pair buffer text))
      ∙ ap (λ at. break_ends 0 buffer ++ break_ends at text) (zero-add _)
      ∙ ap (λ ends. break_ends 0 buffer ++ ends) (sym (break_ends_at_is (length (padded buffer text)) text))

-- a buffer that a text was appended to has the breaks of both
pub break_count-appended : (buffer text : List ℕ) → break_count (padded buffer text ++ text) ≡ break_count buffer + break_count text
break_count-appended buffer text =
    let place = length (padded buffer text) in
    let ends = ap length (break_ends-appended buffer text) in
    omega (
      arith,
      ends,
      length-append (break_ends 0 buffer) (break_ends_at place text),
      ap length (break_ends_at_is place text),
      same_count place 0 text,
      break_count_is (padded buffer text ++ text),
      break_count_is buffer,
      break_count_is text,
    )

-- the units from a place to the end of a buffer
abbrev pub from_place : ℕ → List ℕ → List ℕ
from_place start all = take (length all - start) (drop start all)

pub from_place_of : (front text all : List ℕ) (start : ℕ) → all ≡ front ++ text → start ≡ length front → from_place start all ≡ text
from_place_of front text all start all_is start_is = take_rest all start ∙ ap (drop start) all_is ∙ drop_at front text start (sym start_is)

-- the break ends that are added to those of a buffer when a text is appended
pub ends_appended : (buffer text front all ends new_ends : List ℕ) (start : ℕ)
    → front ≡ padded buffer text → all ≡ front ++ text → ends ≡ break_ends 0 buffer → start ≡ length front
    → new_ends ≡ ends ++ break_ends_at start (from_place start all) → new_ends ≡ break_ends 0 all
ends_appended buffer text front all ends new_ends start padded_is all_is ends_are start_is new_is =
    let added = from_place_of front text all start all_is start_is in
    let place : start ≡ length (padded buffer text) = start_is ∙ ap length padded_is in
    let whole : all ≡ padded buffer text ++ text = all_is ∙ ap (λ f. f ++ text) padded_is in
    rw (new_is, added, ends_are, place, whole) (sym (break_ends-appended buffer text))
