use Rattle.std.proofs.Common.{◌≡◌, ◌+◌}
use Rattle.rb_arena.specs.Placing.{PathSoFar}
use Rattle.rb_arena.proofs.insert.shift_to.Given as goal

abbrev pub invariant-loop-turn : goal.invariant-loop-turn
invariant-loop-turn g l = record {
  so_far : PathSoFar g.W.Weave l.fn.tree l.initial.at l.at l.by l._turn;
  steps : l.steps ≡ l.initial.steps + l._turn;
}
