use Rattle.std.proofs.Common.{◌≡◌, ◌+◌, ◌-◌, ◌≤◌}
use Rattle.line_starts.specs.Starts.{breaks_from}
use Rattle.line_starts.proofs.breaks_between.Given as goal

abbrev pub invariant-loop-at : goal.invariant-loop-at
invariant-loop-at l = record {
  counted : l.breaks + breaks_from l.units l.at ≡ breaks_from l.units l.from;
  within : (l.from ≤ l.at) × (l.at ≤ l.to);
}

abbrev pub decreases-loop-at : goal.decreases-loop-at
decreases-loop-at l = l.to - l.at
