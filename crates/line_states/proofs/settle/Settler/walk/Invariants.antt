use Rattle.std.proofs.Common.{◌-◌, ◌≡◌}
use Rattle.line_states.specs.Walk.{comes_of, IsOnWay}
use Rattle.line_states.proofs.Ways.{whole}
use Rattle.line_states.proofs.settle.Settler.walk.Given as goal

abbrev pub invariant-loop-walk : goal.invariant-loop-walk
invariant-loop-walk g l = record {
  way : IsOnWay l.self (g.Q.Lines.state l.lines) l.walk;
  comes : comes_of l.self (g.Q.Lines.state l.lines) l.walk ≡ whole l.self (g.Q.Lines.state l.initial.lines);
  contents : (g.Q.Lines.state l.lines).contents ≡ (g.Q.Lines.state l.initial.lines).contents;
}

abbrev pub decreases-loop-walk : goal.decreases-loop-walk
decreases-loop-walk g l = l.count - l.walk.passed
