use Rattle.std.proofs.Common.{◌≡◌, ◌+◌, ◌-◌, ◌*◌, ◌≤◌, length}
use Rattle.model_find.specs.Matching.{IsLongest, AreBorders}
use Rattle.model_find.proofs.borders.borders_of.Given as goal

abbrev pub invariant-loop-at : goal.invariant-loop-at
invariant-loop-at g l = record {
  first : 1 ≤ l.at;
  count : length l.borders.items ≡ l.at;
  borders : AreBorders l.kind l.sought l.borders.items;
  longest : IsLongest (length l.sought) l.kind l.sought l.sought 1 l.at l.matched;
  cost : l.looks + l.matched ≤ l.fn.looks + 2 * (l.at - 1);
}
