use Rattle.std.proofs.Common.{ℕ, List, ◌-◌, ◌+◌, ◌≤◌, refl, sym, ◌∙◌, subst}
use Rattle.rb_rules.specs.declared.slot.Data.{Data}
use Rattle.rb_rules.specs.Tree.{Tree, height}
use Rattle.rb_rules.specs.Memory.{Made}
use Rattle.rb_rules.specs.Woven.{Woven}
use Rattle.rb_arena.specs.Searching.{StandsIn, CanGoDown, FindsBelow, StepsBelow}
use Rattle.rb_arena.proofs.Searches.{Walk, Visit, walk_starts, walk_ends, walk_over, walk_cost, live_there, visits, found_here, goes_left, goes_right, visit_cost, held_item, held_left, held_sum, held_next, held_by, few_turns, no_turns, no_step, one_step}
use Rattle.rb_arena.proofs.descend.go_down.Given.{Over}
use Rattle.rb_arena.proofs.descend.go_down.Goals.{in-Left, in-Right, After-visit-slot}
use Rattle.rb_arena.proofs.descend.go_down.Goals as goal

pub loop-turn-init : goal.loop-turn-init
unfolding CanGoDown FindsBelow StepsBelow
loop-turn-init g c =
    let t = g.W.Weave in let L = g.met.W.Weave.laws in
    ((λ beside whole made wv le items here. walk_starts t.weaving L t.is_near t.turn c.args.key whole items c.args.from le here), no_step c.args.steps.now, refl)

pub returns-in_default : goal.returns-in_default
unfolding CanGoDown FindsBelow StepsBelow
returns-in_default g c = record {
  found = λ beside whole made wv le items here.
      let t = g.W.Weave in let l = c.loop-turn in
      walk_ends t.weaving g.met.W.Weave.laws t.is_near t.turn c.args.key whole items l.standing l._turn (128 - l._turn) c.in_default.is (l.invariant.0 beside whole made wv le items here);
  cost = λ beside whole made wv le items here.
      let t = g.W.Weave in let l = c.loop-turn in
      walk_cost t.weaving g.met.W.Weave.laws t.is_near t.turn c.args.key whole items l.standing l._turn (128 - l._turn) (l.invariant.0 beside whole made wv le items here) c.args.steps.now l.steps l.invariant.1;
}

pub visit-slot-requires : goal.visit-slot-requires
unfolding CanGoDown FindsBelow StepsBelow
visit-slot-requires g c =
    let t = g.W.Weave in let l = c.loop-turn in let (beside, (whole, (items, made, wv, v, le, here))) = c.requires in
    live_there t.weaving g.met.W.Weave.laws t.is_near t.turn c.args.key whole items beside c.args.tree.now.nodes.live c.args.tree.now.root l.standing l._turn (128 - l._turn) c.in-Some.id made c.in-Some.is
    (l.invariant.0 beside whole made wv le items here)

-- the position of the search after it has read the node
visit : (g : Over) (c : After-visit-slot g) (beside whole : Tree (Data g.row.W-Item.Denot g.row.W-Sum.Denot g.row.W-By.Denot)) → Made beside c.args.tree.now.nodes.live c.args.tree.now.root whole
    → Woven g.W.Weave.weaving g.W.Weave.is_near g.W.Weave.weaving.still whole → height whole ≤ 126
    → (items : List (ℕ × g.row.W-Item.Denot)) → StandsIn g.W.Weave.weaving g.W.Weave.turn c.args.key whole items c.args.from
    → Visit g.W.Weave.weaving g.met.W.Weave.laws g.W.Weave.is_near g.W.Weave.turn c.args.key whole items c.loop-turn.standing c.loop-turn._turn (128 - c.loop-turn._turn) c.in-Some.id c.visit-slot.result
visit g c beside whole made wv le items here =
    let t = g.W.Weave in let l = c.loop-turn in
    visits t.weaving g.met.W.Weave.laws t.is_near t.turn c.args.key whole items beside c.args.tree.now.nodes.live c.args.tree.now.root l.standing l._turn (128 - l._turn) c.in-Some.id made c.in-Some.is
    c.visit-slot.result c.visit-slot.ensures.value wv (l.invariant.0 beside whole made wv le items here)

pub at_node-requires : goal.at_node-requires
unfolding CanGoDown FindsBelow StepsBelow
at_node-requires g c =
    let t = g.W.Weave in let laws = g.met.W.Weave in let (beside, (whole, (items, made, wv, v, le, here))) = c.requires in
    let at = visit g (goal.at.at_node-requires g c).After-visit-slot beside whole made wv le items here in record {
      item = held_item at t.is_item t.is_sum t.is_value laws.sums laws.parts laws.starts_near v;
      left = held_left at t.is_item t.is_sum t.is_value laws.sums laws.parts laws.starts_near v;
      sum = held_sum at t.is_item t.is_sum t.is_value laws.sums laws.parts laws.starts_near v;
    }

pub returns-in-Stop : goal.returns-in-Stop
unfolding CanGoDown FindsBelow StepsBelow
returns-in-Stop g c = record {
  found = λ beside whole made wv le items here.
      let at = c.at_node in
      found_here (visit g (goal.at.returns-in-Stop g c).After-visit-slot beside whole made wv le items here)
      at.result.0 at.result.1 at.ensures.item at.ensures.sum c.turn_at.result c.turn_at.ensures c.in-Stop.is;
  cost = λ beside whole made wv le items here.
      visit_cost (visit g (goal.at.returns-in-Stop g c).After-visit-slot beside whole made wv le items here)
      c.args.steps.now c.loop-turn.steps c.visit-slot.new.steps c.loop-turn.invariant.1 c.visit-slot.ensures.step;
}

pub right_of-standing-requires : goal.right_of-standing-requires
unfolding CanGoDown FindsBelow StepsBelow
right_of-standing-requires g c =
    let t = g.W.Weave in let laws = g.met.W.Weave in let (beside, (whole, (items, made, wv, v, le, here))) = c.requires in
    let at = visit g (goal.at.right_of-standing-requires g c).After-visit-slot beside whole made wv le items here in record {
      sum = held_next at t.is_item t.is_sum t.is_value laws.sums laws.parts laws.starts_near v c.at_node.result.0 c.at_node.result.1 c.at_node.ensures.item c.at_node.ensures.sum;
      shift = held_by at t.is_item t.is_sum t.is_value laws.sums laws.parts laws.starts_near v;
    }

pub loop-turn-preserved : goal.loop-turn-preserved
unfolding CanGoDown FindsBelow StepsBelow
loop-turn-preserved g c =
    let t = g.W.Weave in let L = g.met.W.Weave.laws in let l = c.loop-turn in let at = c.at_node in (
      (λ beside whole made wv le items here.
          let v = visit g (goal.at.loop-turn-preserved g c).After-visit-slot beside whole made wv le items here in
          let fewer = few_turns l._turn c.loop-turn-test.true in
          elim c.match-turn_at.branch [
            | in-Left z ↦
                subst (λ q. Walk t.weaving L t.is_near t.turn c.args.key whole items q (l._turn + 1) (128 - (l._turn + 1))) (sym z.standing-is)
                (goes_left v at.result.0 at.result.1 at.ensures.item at.ensures.sum (128 - (l._turn + 1)) fewer c.turn_at.result c.turn_at.ensures z.in-Left.is)
            | in-Right z ↦
                subst (λ q. Walk t.weaving L t.is_near t.turn c.args.key whole items q (l._turn + 1) (128 - (l._turn + 1))) (sym (z.standing-is ∙ z.right_of-standing.ensures))
                (goes_right v at.result.0 at.result.1 at.ensures.item at.ensures.sum (128 - (l._turn + 1)) fewer c.turn_at.result c.turn_at.ensures z.in-Right.is)
          ]),
      one_step c.args.steps.now l._turn l.steps c.visit-slot.new.steps l.invariant.1 c.visit-slot.ensures.step,
      refl,
    )

pub returns : goal.returns
unfolding CanGoDown FindsBelow StepsBelow
returns g c = record {
  found = λ beside whole made wv le items here.
      let t = g.W.Weave in let L = g.met.W.Weave.laws in let l = c.loop-turn in let walk = l.invariant.0 beside whole made wv le items here in
      walk_ends t.weaving L t.is_near t.turn c.args.key whole items l.standing l._turn (128 - l._turn)
      (walk_over t.weaving L t.is_near t.turn c.args.key whole items l.standing l._turn (128 - l._turn) (no_turns l._turn c.loop-turn-test.false) walk) walk;
  cost = λ beside whole made wv le items here.
      let t = g.W.Weave in let l = c.loop-turn in
      walk_cost t.weaving g.met.W.Weave.laws t.is_near t.turn c.args.key whole items l.standing l._turn (128 - l._turn) (l.invariant.0 beside whole made wv le items here) c.args.steps.now l.steps l.invariant.1;
}
