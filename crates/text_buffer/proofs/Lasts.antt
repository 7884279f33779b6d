-- The last unit of a text, by its place.
use Rattle.std.proofs.Common.{◌≡◌, ℕ, ◌-◌, ◌<◌, ◌≤◌, ◌==◌, ◌&&◌, Bool, true, false, List, ◌++◌, length, take, get_or, refl, ap, ◌∙◌, arith}
use Rattle.std.proofs.lemmas.List.{length-take-le, get_or-take}
use Rattle.text_rules.specs.Lines.{line_feed, carriage_return, begins_with}
use Rattle.text_rules.specs.Breaks.{ends_with, joins_pair}
use Rattle.text_rules.proofs.Breaks.{ends_with_last}
use Rattle.text_buffer.proofs.Spelling.{length-spelled}
use Rattle.text_buffer.proofs.Borders.{ends_with-append}

pub ends_with_at : (x : List ℕ) (offset : ℕ) → 0 < offset → offset ≤ length x → ends_with carriage_return (take offset x) ≡ (get_or x (offset - 1) 0 == carriage_return)
ends_with_at x offset some within =
    ends_with_last (take offset x)
    ∙ ap (λ (n : ℕ). get_or (take offset x) (n - 1) 0 == carriage_return) (length-take-le offset x within)
    ∙ ap (λ (u : ℕ). u == carriage_return) (get_or-take offset x (offset - 1) 0 (omega arith))

and_true : (b : Bool) → (b && true) ≡ b
and_true true = refl
and_true false = refl

pub joins_pair_after : (before text after : List ℕ) → 0 < length text → begins_with line_feed after ≡ true
    → joins_pair (before ++ text) after ≡ (get_or text (length text - 1) 0 == carriage_return)
joins_pair_after before text after some lf =
    ap (λ b. ends_with carriage_return (before ++ text) && b) lf ∙ and_true (ends_with carriage_return (before ++ text))
    ∙ ends_with-append carriage_return before text some ∙ ends_with_last text

pub ruleset last_units = (ends_with_at, length-spelled)
