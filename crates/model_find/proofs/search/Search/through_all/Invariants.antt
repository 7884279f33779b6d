use Rattle.std.proofs.Common.{◌≡◌, ◌+◌, ◌*◌, ◌≤◌, List, length, take, drop}
use Rattle.text_lengths.specs.declared.Span.{Span}
use Rattle.model_find.specs.Searching.{StandsIn}
use Rattle.model_find.proofs.search.Search.through_all.Given as goal

abbrev pub invariant-loop-run : goal.invariant-loop-run
invariant-loop-run g l = record {
  left : g.R.Reader.left l.reader ≡ drop l.self.at (g.R.Reader.left l.fn.reader);
  within : l.self.at ≤ length (g.R.Reader.left l.fn.reader);
  stands : (all : List Span) → StandsIn (g.R.Reader.left l.fn.reader) all l.fn.out.items l.fn.self
      → StandsIn (g.R.Reader.left l.fn.reader) all l.out.items l.self;
  before : take (length l.fn.out.items) l.out.items ≡ l.fn.out.items;
  cost : l.looks + l.self.matched ≤ l.fn.looks + l.fn.self.matched + 4 * l.self.at;
}

abbrev pub decreases-loop-run : goal.decreases-loop-run
decreases-loop-run g l = length (g.R.Reader.left l.reader)
