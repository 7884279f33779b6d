use Rattle.std.proofs.Common.{◌-◌}
use Rattle.rb_arena.specs.Nodes.{KeepsCount}
use Rattle.rb_arena.specs.Shifting.{MovesSoFar}
use Rattle.rb_arena.proofs.shift.shift_up.Given as goal

abbrev pub invariant-loop-turn : goal.invariant-loop-turn
invariant-loop-turn g l = record {
  so_far : MovesSoFar g.W.Weave l.initial.tree l.tree l.initial.at l.by l.at (128 - l._turn);
  count : KeepsCount l.initial.tree.nodes l.tree.nodes;
}
