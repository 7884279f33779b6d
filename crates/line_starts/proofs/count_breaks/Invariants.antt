use Rattle.std.proofs.Common.{◌≡◌, ◌+◌, ◌*◌, ◌-◌, ◌≤◌}
use Rattle.line_starts.specs.Starts.{breaks_from, at_four}
use Rattle.line_starts.proofs.count_breaks.Given as goal

abbrev pub invariant-loop-at : goal.invariant-loop-at
invariant-loop-at l = record {
  counted : l.breaks + at_four (breaks_from l.units) l.at l.quarter
      ≡ breaks_from l.units 0 + breaks_from l.units l.quarter + breaks_from l.units (l.quarter * 2) + breaks_from l.units (l.quarter * 3);
  within : l.at ≤ l.quarter;
}

abbrev pub decreases-loop-at : goal.decreases-loop-at
decreases-loop-at l = l.quarter - l.at
