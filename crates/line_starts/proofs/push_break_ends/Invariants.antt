use Rattle.std.proofs.Common.{◌≡◌, ◌+◌, ◌-◌, ◌≤◌, ◌++◌, length, take, drop, vec_len, vec_capacity}
use Rattle.text_rules.specs.Breaks.{break_ends}
use Rattle.line_starts.proofs.push_break_ends.Given as goal

abbrev pub invariant-loop-at : goal.invariant-loop-at
invariant-loop-at l = record {
  places : l.out.items ++ break_ends (l.start + l.at) (drop l.at l.units) ≡ l.fn.out.items ++ break_ends l.start l.units;
  before : take (vec_len l.fn.out) l.out.items ≡ l.fn.out.items;
  grown : vec_len l.fn.out ≤ vec_len l.out;
  capacity : vec_capacity l.fn.out ≤ vec_capacity l.out;
  within : l.at ≤ length l.units;
}

abbrev pub decreases-loop-at : goal.decreases-loop-at
decreases-loop-at l = length l.units - l.at
