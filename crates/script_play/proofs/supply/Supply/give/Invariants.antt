use Rattle.std.proofs.Common.{◌≡◌, ◌-◌, ◌≤◌, ◌++◌, take, length}
use Rattle.script_play.specs.Supply.{left_of}
use Rattle.script_play.proofs.supply.Supply.give.Given as goal

abbrev pub invariant-loop-count : goal.invariant-loop-count
invariant-loop-count l = record {
  within : l.count ≤ length l.buf;
  given : left_of l.fn.self ≡ take l.count l.buf ++ left_of l.self;
}

abbrev pub decreases-loop-count : goal.decreases-loop-count
decreases-loop-count l = length l.initial.buf - l.count
