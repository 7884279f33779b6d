-- A supply before and after a read.
use Rattle.std.proofs.Common.{◌≡◌, ℕ, ◌+◌, ◌<◌, ◌≤◌, List, ◌++◌, take, drop, length, min, Some, Bool, arith, refl, sym, ◌∙◌, ap}
use Rattle.std.proofs.lemmas.List.{take-append-drop, drop-drop, length-drop, nil_from_length}
use Rattle.std.specs.Prelude.{◌&&◌, ◌==◌, nat_lt}
use Rattle.script_streams.specs.Streams.{SourceState, Given, greatest_count}

-- a read splits the bytes left into those given and those that remain
pub drop-cut : (bytes : List ℕ) (given count : ℕ) → drop given bytes ≡ take count (drop given bytes) ++ drop (given + count) bytes
drop-cut bytes given count =
    sym (take-append-drop count (drop given bytes))
    ∙ ap (λ rest. take count (drop given bytes) ++ rest) (drop-drop count given bytes)

-- the model of a supply
abbrev pub shown : List ℕ → ℕ → Bool → SourceState
shown bytes given ended = record { left = Some (drop given bytes); given = given; ended = ended; faults = 0 }

-- a prefix of the bytes left is given: all of them, if they are at most as many as asked for
pub Given-front : (bytes buf : List ℕ) (given most count : ℕ) (was ended : Bool) →
    given + count ≤ greatest_count → 0 < most →
    count ≡ min (min most (length (drop given bytes))) (length buf) →
    take count buf ≡ take count (drop given bytes) →
    ended ≡ (count == 0 && nat_lt 0 (length buf)) →
    Given count (shown bytes given was) (shown bytes (given + count) ended) buf
Given-front bytes buf given most count was ended fits asked is_least front is_end = record {
  within = omega arith;
  bytes = drop-cut bytes given count ∙ ap (λ front. front ++ drop (given + count) bytes) (sym front);
  given = omega arith;
  ended = is_end;
  nothing_left = λ none room.
      nil_from_length (drop (given + count) bytes) (omega (arith, length-drop (given + count) bytes, length-drop given bytes));
  faults = refl;
}
