use Rattle.std.proofs.Common.{◌≡◌, ◌-◌, ◌<◌, ◌≤◌, true, false, length, take}
use Rattle.textmodel_c.proofs.faults.first_with.Given as goal

abbrev pub invariant-loop-high : goal.invariant-loop-high
invariant-loop-high g l = record {
  some : l.low < l.high;
  inside : l.high ≤ length l.items;
  before : g.F.Fault.so l.fault (take l.low l.items) ≡ false;
  there : g.F.Fault.so l.fault (take l.high l.items) ≡ true;
}

abbrev pub decreases-loop-high : goal.decreases-loop-high
decreases-loop-high g l = l.high - l.low
