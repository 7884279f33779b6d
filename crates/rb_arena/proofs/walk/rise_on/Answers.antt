use Rattle.std.proofs.Common.{◌+◌, ◌-◌, refl, sym, ◌∙◌, arith}
use Rattle.rb_arena.proofs.Walks.{above_lives, nears_above_next}
use Rattle.rb_arena.proofs.walk.rise_on.Goals as goal

pub visit-slot-requires : goal.visit-slot-requires
visit-slot-requires g c =
    let l = c.loop-turn in
    above_lives c.args.tree.now c.args.id c.args.side l.low l.next l._turn c.in-Some.above (128 - l._turn) c.requires.stands l.invariant.nears c.in-Some.is

pub loop-turn-preserved : goal.loop-turn-preserved
loop-turn-preserved g c =
    let l = c.loop-turn in record {
      nears = nears_above_next c.args.tree.now c.args.id c.args.side l.low l.next l._turn c.in-Some.above c.visit-slot.result c.side_of.result (128 - (l._turn + 1)) c.in-Some.is c.visit-slot.ensures.value c.side_of.ensures
          c.visit-slot.result.parent (128 - l._turn) l.invariant.nears (sym c.eq.ensures ∙ c.if-eq.false) refl (omega (arith, c.loop-turn-test.true));
      steps = omega (arith, l.invariant.steps, c.visit-slot.ensures.step);
    }
