use Rattle.std.proofs.Common.{◌≡◌, ℕ, ◌+◌, ◌-◌, ◌<◌, ◌≤◌, List, length, get_or}
use Rattle.model_find.specs.Matching.{IsLongest, unit_before}
use Rattle.model_find.proofs.Matching.{Falls}
use Rattle.model_find.proofs.borders.extended.Given as goal

abbrev pub invariant-loop-matched : goal.invariant-loop-matched
invariant-loop-matched g l = record {
  few : l.matched ≤ l.fn.matched;
  falls : (x : List ℕ) (low at : ℕ) → at < length x → l.fn.before ≡ unit_before x at → l.fn.unit ≡ get_or x at 0
      → IsLongest (length l.sought - 1) l.fn.kind x l.sought low at l.fn.matched → Falls l.fn.kind x l.sought low at l.matched l.fn.unit;
  cost : l.looks + l.matched ≤ l.fn.looks + l.fn.matched;
}

abbrev pub decreases-loop-matched : goal.decreases-loop-matched
decreases-loop-matched g l = l.matched
