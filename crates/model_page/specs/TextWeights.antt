-- The weights of the lines of a text add up to at most its units.
use Rattle.std.proofs.Common.{ℕ, ◌+◌, ◌<◌, ◌≤◌, ◌==◌, ◌^◌, Bool, true, false, ◌&&◌, ◌||◌, if◌then◌else◌, List, [], ◌∷◌, length, map, sum, arith}
use Rattle.std.proofs.lemmas.List.Sums.{sum_by-cons}
use Rattle.text_rules.specs.Lines.{Line, lines_of, line_feed, carriage_return, begins_with, in_first_line, in_first_break}
use Rattle.line_states.specs.Lines.{text_weights}
use Rattle.document_rules.specs.Brackets.{line_contents}

-- the lengths of the lines' contents, plus 1 for each break between them
abbrev spread : List Line → ℕ
spread [] = 0
spread (line ∷ []) = length line.content
spread (line ∷ next ∷ lines) = length line.content + (1 + spread (next ∷ lines))

-- the lines after a unit is put in front, which joins the first break, or is a break, or begins the first line
abbrev with_unit : ℕ → Bool → Bool → List Line → List Line
with_unit u joins breaks lines =
    if joins then in_first_break u lines else
    (if breaks then record { content = []; break = u ∷ [] } ∷ lines else in_first_line u lines)

spread-step : (u : ℕ) (joins breaks : Bool) (lines : List Line)
    → spread (with_unit u joins breaks lines) ≤ spread lines + 1
spread-step u true breaks [] = omega arith
spread-step u true breaks (l ∷ []) = omega arith
spread-step u true breaks (l ∷ m ∷ lines) = omega arith
spread-step u false true [] = omega arith
spread-step u false true (l ∷ lines) = omega arith
spread-step u false false [] = omega arith
spread-step u false false (l ∷ []) = omega arith
spread-step u false false (l ∷ m ∷ lines) = omega arith

spread-text : (x : List ℕ) → spread (lines_of x) ≤ length x
spread-text [] = omega arith
spread-text (u ∷ after) =
    omega (
      arith,
      spread-text after,
      spread-step u (u == carriage_return && begins_with line_feed after) (u == carriage_return || u == line_feed) (lines_of after),
    )

sum-weights : (lines : List Line) → sum (text_weights (map (λ (line : Line). line.content) lines)) ≤ spread lines
sum-weights [] = omega arith
sum-weights (line ∷ []) = omega arith
sum-weights (line ∷ next ∷ lines) =
    let later : List ℕ = text_weights (map (λ (line : Line). line.content) (next ∷ lines)) in
    omega (arith, sum-weights (next ∷ lines), sum_by-cons (λ w. w) (length line.content + 1) later)

pub weights_fit : (x : List ℕ) → length x < 2 ^ 62 → sum (text_weights (line_contents x)) < 2 ^ 64
weights_fit x small = omega (arith, sum-weights (lines_of x), spread-text x)
