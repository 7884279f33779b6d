use Rattle.std.proofs.Common.{◌≡◌, ℕ, ◌+◌, ◌-◌, ◌*◌, ◌<◌, ◌≤◌, false, length}
use Rattle.model_find.specs.Matching.{may_begin}
use Rattle.model_find.specs.Ahead.{KnowsStarts}
use Rattle.model_find.proofs.starts.Starts.next.Given as goal

abbrev pub invariant-loop-self : goal.invariant-loop-self
invariant-loop-self g l = record {
  knows : KnowsStarts l.run l.sought l.self;
  behind : l.fn.self.at ≤ l.self.at;
  none : (k : ℕ) → l.fn.self.at ≤ k → k < l.self.at → may_begin l.run l.sought k ≡ false;
  cost : l.looks + 2 * (l.fn.self.at + l.fn.self.known) ≤ l.fn.looks + 2 * (l.self.at + l.self.known);
}

abbrev pub decreases-loop-self : goal.decreases-loop-self
decreases-loop-self g l = length l.run - (l.self.at + l.self.known)
