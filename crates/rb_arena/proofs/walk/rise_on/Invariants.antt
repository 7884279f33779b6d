use Rattle.std.proofs.Common.{◌≡◌, ◌+◌, ◌-◌}
use Rattle.rb_arena.specs.Ends.{NearsAbove}
use Rattle.rb_arena.proofs.walk.rise_on.Given as goal

abbrev pub invariant-loop-turn : goal.invariant-loop-turn
invariant-loop-turn g l = record {
  nears : NearsAbove l.fn.tree l.fn.id l.side l.low l.next (128 - l._turn) l._turn;
  steps : l.steps ≡ l.initial.steps + l._turn;
}
