use Rattle.std.proofs.Common.{◌+◌, ◌-◌, ◌≤◌}
use Rattle.model_find.specs.Ahead.{KnowsStarts}
use Rattle.model_find.proofs.starts.marks_one_by_one.Given as goal

abbrev pub invariant-loop-from : goal.invariant-loop-from
invariant-loop-from l = record {
  behind : l.at ≤ l.from;
  within : l.from ≤ l.at + l.known;
  knows : KnowsStarts l.run l.sought (record { at = l.from; known = l.at + l.known - l.from; marks = l.marks });
}

abbrev pub decreases-loop-from : goal.decreases-loop-from
decreases-loop-from l = l.from - l.at
