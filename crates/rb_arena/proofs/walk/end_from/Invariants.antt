use Rattle.std.proofs.Common.{◌≡◌, ◌+◌, ◌-◌}
use Rattle.std.specs.Prelude.{IfSome}
use Rattle.raw_arena.specs.Arena.{IsLive}
use Rattle.rb_arena.specs.Ends.{NearsEnd}
use Rattle.rb_arena.proofs.walk.end_from.Given as goal

abbrev pub invariant-loop-turn : goal.invariant-loop-turn
invariant-loop-turn g l = record {
  nears : NearsEnd l.initial.tree l.initial.at l.initial.next l.side l.at l.next (128 - l._turn) l._turn;
  lives : IfSome l.next (λ i. IsLive l.initial.tree.nodes i);
  steps : l.steps ≡ l.initial.steps + l._turn;
}
