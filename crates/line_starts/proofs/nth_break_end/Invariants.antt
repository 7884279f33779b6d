use Rattle.std.proofs.Common.{◌≡◌, ◌+◌, ◌<◌}
use Rattle.text_rules.specs.Breaks.{break_ends, count_to}
use Rattle.line_starts.proofs.nth_break_end.Given as goal

abbrev pub invariant-loop-at : goal.invariant-loop-at
invariant-loop-at l = record {
  counted : count_to l.at (break_ends 0 l.units) + l.left ≡ count_to l.from (break_ends 0 l.units) + l.k;
  some : 0 < l.left;
}
