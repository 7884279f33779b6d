-- A normalized text has the same lines with other endings.
use Rattle.std.proofs.Common.{◌≡◌, ℕ, ◌==◌, Bool, true, false, ◌&&◌, ◌||◌, if◌then◌else◌, List, [], ◌∷◌, ◌++◌, refl, ap, sym, ◌∙◌}
use Rattle.std.proofs.lemmas.Bool.{eqb-true}
use Rattle.unit_text.specs.declared.kind.Kind.{Kind}
use Rattle.unit_text.specs.declared.kind.Kind.TheVariants.{Mixed, Lf, Crlf}
use Rattle.unit_text.specs.Endings.{line_feed, carriage_return, begins_with}
use Rattle.unit_text.specs.Kinds.{with_endings, normalized}
use Rattle.unit_text.proofs.WithEndings.{step, feeds, pairs}
use Rattle.text_rules.specs.Lines.{Line, lines_of, in_first_line, in_first_break}
use Rattle.text_rules.specs.LineEndings.{lines_with, lines_in}

abbrev ended_line : List ℕ → Line
ended_line ending = record { content = []; break = ending }

-- the text is exactly one line ending
abbrev IsEnding : List ℕ → Type 0
IsEnding ending = (x : List ℕ) → lines_of (ending ++ x) ≡ ended_line ending ∷ lines_of x

in_first_line_with : (ending : List ℕ) (u : ℕ) (lines : List Line) → in_first_line u (lines_with ending lines) ≡ lines_with ending (in_first_line u lines)
in_first_line_with ending u [] = refl
in_first_line_with ending u (line ∷ lines) = refl

-- a CR before an LF is part of the ending of the LF
in_first_break_with : (ending : List ℕ) (u : ℕ) (after : List ℕ) → begins_with line_feed after ≡ true
    → lines_with ending (in_first_break u (lines_of after)) ≡ lines_with ending (lines_of after)
in_first_break_with ending u [] e = cc
in_first_break_with ending u (v ∷ after) e =
    let feed : v ≡ line_feed = eqb-true v line_feed e in
    rw feed refl

lines_step : (ending : List ℕ) (u : ℕ) (returns ends joined : Bool) (rest after : List ℕ) → IsEnding ending
    → (u == carriage_return) ≡ returns → (u == line_feed) ≡ ends → begins_with line_feed after ≡ joined
    → lines_of rest ≡ lines_with ending (lines_of after)
    → lines_of (step ending u (returns && joined) (returns || ends) rest)
    ≡ lines_with ending (if returns && joined then in_first_break u (lines_of after) else
    (if returns || ends then ended_line (u ∷ []) ∷ lines_of after else in_first_line u (lines_of after)))
lines_step ending u true ends true rest after h r f j e = e ∙ sym (in_first_break_with ending u after j)
lines_step ending u true ends false rest after h r f j e = h rest ∙ ap (λ ls. ended_line ending ∷ ls) e
lines_step ending u false true joined rest after h r f j e = h rest ∙ ap (λ ls. ended_line ending ∷ ls) e
lines_step ending u false false joined rest after h r f j e =
    rw (r, f) (ap (in_first_line u) e ∙ in_first_line_with ending u (lines_of after))

lines_with_endings : (ending x : List ℕ) → IsEnding ending → lines_of (with_endings ending x) ≡ lines_with ending (lines_of x)
lines_with_endings ending [] h = refl
lines_with_endings ending (u ∷ after) h =
    lines_step ending u (u == carriage_return) (u == line_feed) (begins_with line_feed after) (with_endings ending after) after h refl refl refl
    (lines_with_endings ending after h)

-- the lines of a normalized text
pub lines_of-normalized : (kind : Kind) (x : List ℕ) → lines_of (normalized kind x) ≡ lines_in kind (lines_of x)
lines_of-normalized Mixed x = refl
lines_of-normalized Lf x = lines_with_endings feeds x (λ y. refl)
lines_of-normalized Crlf x = lines_with_endings pairs x (λ y. refl)
