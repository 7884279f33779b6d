use Rattle.std.proofs.Common.{◌≡◌, ℕ, ◌+◌, ◌-◌, ◌*◌, ◌≤◌, List, length, take}
use Rattle.text_lengths.specs.declared.Span.{Span}
use Rattle.model_find.specs.Matching.{IsRunAt}
use Rattle.model_find.specs.Ahead.{KnowsStarts}
use Rattle.model_find.specs.Searching.{IsSame, StandsIn}
use Rattle.model_find.proofs.search.Search.through.Given as goal

abbrev pub invariant-loop-i : goal.invariant-loop-i
invariant-loop-i g l = record {
  same : IsSame l.fn.self l.self;
  within : l.i ≤ length l.run;
  at : l.self.at ≡ l.fn.self.at + l.i;
  stands : (x : List ℕ) (all : List Span) → StandsIn x all l.fn.out.items l.fn.self → IsRunAt x l.fn.self.at l.run → StandsIn x all l.out.items l.self;
  before : take (length l.fn.out.items) l.out.items ≡ l.fn.out.items;
  knows : KnowsStarts l.run l.self.sought.now l.starts;
  known : l.starts.at ≤ l.i;
  cost : l.looks + l.self.matched ≤ l.fn.looks + l.fn.self.matched + 2 * (l.starts.at + l.starts.known) + 2 * l.i;
}

abbrev pub decreases-loop-i : goal.decreases-loop-i
decreases-loop-i g l = length l.run - l.i
