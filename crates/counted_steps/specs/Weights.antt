-- The sum of the weights of the lines of a text with bounded numbers of lines and units.
use Rattle.std.proofs.Common.{ℕ, suc, ◌+◌, ◌*◌, ◌<◌, ◌≤◌, ◌^◌, List, [], ◌∷◌, length, sum, arith}
use Rattle.std.specs.Prelude.{All}
use Rattle.std.proofs.lemmas.List.Sums.{sum_by-cons}
use Rattle.line_states.specs.Lines.{text_weights}

abbrev AreShort : List (List ℕ) → Type 0
AreShort lines = All (λ (line : List ℕ). length line < 2 ^ 16) lines

first_short : (x : List ℕ) (lines : List (List ℕ)) → AreShort (x ∷ lines) → length x < 2 ^ 16
first_short x lines short = short 0 [] (omega arith)

others_short : (x : List ℕ) (lines : List (List ℕ)) → AreShort (x ∷ lines) → AreShort lines
others_short x lines short k d h = short (suc k) d (omega arith)

weigh_little : (lines : List (List ℕ)) → AreShort lines → sum (text_weights lines) ≤ 2 ^ 16 * length lines
weigh_little [] short = omega arith
weigh_little (x ∷ []) short = omega (arith, first_short x [] short)
weigh_little (x ∷ y ∷ lines) short =
    omega (
      arith,
      first_short x (y ∷ lines) short,
      weigh_little (y ∷ lines) (others_short x (y ∷ lines) short),
      sum_by-cons (λ w. w) (length x + 1) (text_weights (y ∷ lines)),
    )

pub weights_fit : (lines : List (List ℕ)) → length lines < 2 ^ 40 → All (λ (line : List ℕ). length line < 2 ^ 16) lines
    → sum (text_weights lines) < 2 ^ 64
weights_fit lines few short = omega (arith, few, weigh_little lines short)
