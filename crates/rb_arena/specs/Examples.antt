-- Worked examples of the cost of a walk.
use Rattle.std.proofs.Common.{◌≤◌, ◌+◌, ◌*◌, ℕ, List, [], ◌∷◌, length, arith}
use Rattle.std.specs.Prelude.{sum_by}
use Rattle.std.proofs.lemmas.List.Sums.{sum_by-cons}
use Rattle.rb_arena.specs.Walking.{AreCalls}

-- the calls of `Walk::next` take at most three steps each, and `due` more in all
calls_take : (due : ℕ) (calls : List (ℕ × ℕ)) → AreCalls due calls → sum_by (λ c. c.0) calls ≤ 3 * length calls + due
calls_take due [] are = omega arith
calls_take due (c ∷ cs) (first, rest) =
    let more = calls_take c.1 cs rest in
    let sum = sum_by-cons (λ (c : ℕ × ℕ). c.0) c cs in
    omega (arith, first, more, sum)
