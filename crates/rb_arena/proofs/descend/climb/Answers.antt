use Rattle.std.proofs.Common.{◌+◌, Some, refl, sym, ap, ◌∙◌, subst}
use Rattle.rb_rules.specs.declared.slot.Side.TheVariants.{Right}
use Rattle.rb_rules.specs.Tree.{plug, depth}
use Rattle.rb_rules.specs.Memory.{here}
use Rattle.rb_rules.proofs.Live.{slot_here}
use Rattle.rb_arena.specs.declared.descend.Standing.{Standing}
use Rattle.rb_arena.specs.Placing.{IsShiftTo, IsWovenPlace, StepsTo}
use Rattle.rb_arena.specs.Searching.{items_after, CanSearchAfter, GoesOn, StepsAfter}
use Rattle.rb_arena.proofs.Climbing.{Climb, climb_starts, climb_ends, climb_over, climb_few, climb_more, slot_of, shallow, both_ways, held_start, left_side, live_upper, stands_upper, held_up, climb_past, live_subtree, held_inside, held_past, held_own, held_far, climb_stops, climb_turns, climb_on, held_more}
use Rattle.rb_arena.proofs.Growing.{same_side, sides_differ}
use Rattle.rb_arena.proofs.Searches.{no_step, one_step}
use Rattle.rb_arena.proofs.descend.climb.Goals.{then-eq, else-eq+in-Right}
use Rattle.rb_arena.proofs.descend.climb.Goals as goal

pub shift_to-by-requires : goal.shift_to-by-requires
unfolding IsWovenPlace CanSearchAfter GoesOn StepsAfter
shift_to-by-requires g c =
    let (s, made, wv, le, v) = c.requires in
    let l = g.met.W.Weave in
    (record { laws = l.laws; sums = l.sums; within_near = l.within_near; starts_within = l.starts_within; widens = l.widens; parts = l.parts; thins = l.thins }, (s.beside, (here s c.args.id, (s.hole, ((c.copy_of.ensures ∙ c.place-at.ensures s made, made), wv, shallow s c.args.id le)))))

pub visit-slot-requires : goal.visit-slot-requires
unfolding CanSearchAfter GoesOn StepsAfter
visit-slot-requires g c = let (s, made, wv, le, v) = c.requires in (_, slot_here c.args.tree.now.nodes.live c.args.tree.now.root s c.args.id made)

pub plus-requires : goal.plus-requires
unfolding IsShiftTo CanSearchAfter GoesOn StepsAfter
plus-requires g c =
    let t = g.W.Weave in let laws = g.met.W.Weave in let (s, made, wv, le, v) = c.requires in
    let path = c.shift_to-by.ensures.shift s.beside (here s c.args.id) s.hole ((c.copy_of.ensures ∙ c.place-at.ensures s made, made), wv, shallow s c.args.id le) in
    let slot = slot_of c.args.tree.now.nodes.live c.args.tree.now.root s c.args.id c.visit-slot.result made c.visit-slot.ensures.value in
    held_start t.weaving laws.laws t.is_near laws.starts_near s c.args.id c.shift_to-by.result c.visit-slot.result.«data» wv path (ap (λ o. o.«data») slot)

pub loop-turn-init : goal.loop-turn-init
unfolding IsShiftTo CanSearchAfter GoesOn StepsAfter
loop-turn-init g c = (
  (λ s made wv le.
      let t = g.W.Weave in let place = c.place-at.ensures s made in
      let path = c.shift_to-by.ensures.shift s.beside (here s c.args.id) s.hole ((c.copy_of.ensures ∙ place, made), wv, shallow s c.args.id le) in
      let slot = slot_of c.args.tree.now.nodes.live c.args.tree.now.root s c.args.id c.visit-slot.result made c.visit-slot.ensures.value in
      climb_starts t.weaving t.turn c.args.key s c.args.id c.place-at.result c.shift_to-by.result c.visit-slot.result c.plus.result c.none.result place path
      (ap (λ o. o.right) slot) (ap (λ o. o.«data») slot) c.plus.ensures c.none.ensures),
  no_step c.visit-slot.new.steps,
  refl,
)

pub returns-in_default : goal.returns-in_default
unfolding StepsTo CanSearchAfter GoesOn StepsAfter
returns-in_default g c = record {
  next = λ s made wv le. climb_ends (c.loop-turn.invariant.0 s made wv le) c.in_default.is;
  cost = λ s made wv le.
      let l = c.loop-turn in
      let up = c.shift_to-by.ensures.cost s.beside (here s c.args.id) s.hole ((c.copy_of.ensures ∙ c.place-at.ensures s made, made), wv, shallow s c.args.id le) in
      both_ways s c.args.id c.args.steps.now c.shift_to-by.new.steps c.visit-slot.new.steps l.steps l._turn up c.visit-slot.ensures.step l.invariant.1 (climb_few (l.invariant.0 s made wv le));
}

pub visit-slot-requires-in-loop-turn : goal.visit-slot-requires-in-loop-turn
unfolding CanSearchAfter GoesOn StepsAfter
visit-slot-requires-in-loop-turn g c =
    let t = g.W.Weave in let laws = g.met.W.Weave in let (s, made, wv, le, v) = c.requires in
    live_upper laws.laws t.is_near laws.starts_near s.beside c.args.tree.now made wv (c.loop-turn.invariant.0 s made wv le) c.in-Some.above c.in-Some.is

pub minus-by-requires : goal.minus-by-requires
unfolding CanSearchAfter GoesOn StepsAfter
minus-by-requires g c =
    let t = g.W.Weave in let laws = g.met.W.Weave in let (s, made, wv, le, v) = c.requires in let above = c.in-Some.above in
    let is_at = c.in-Some.is ∙ ap (λ z. Some (above.0, z)) (same_side above.1 Right (sym c.eq.ensures ∙ c.if-eq.true)) in
    held_up laws.laws t.is_near laws.starts_near s.beside c.args.tree.now made wv (c.loop-turn.invariant.0 s made wv le) above.0 is_at c.visit-slot-in-loop-turn.result c.visit-slot-in-loop-turn.ensures.value

pub item_below-item-requires : goal.item_below-item-requires
unfolding CanSearchAfter GoesOn StepsAfter
item_below-item-requires g c =
    let t = g.W.Weave in let laws = g.met.W.Weave in let (s, made, wv, le, v) = c.requires in let above = c.in-Some.above in
    let is_at = c.in-Some.is ∙ ap (λ z. Some (above.0, z)) (left_side above.1 (sides_differ above.1 Right (sym c.eq.ensures ∙ c.if-eq.false))) in
    held_own laws.laws t.is_near laws.starts_near s.beside c.args.tree.now made wv (c.loop-turn.invariant.0 s made wv le) above.0 is_at c.visit-slot-in-loop-turn.result c.visit-slot-in-loop-turn.ensures.value
    t.is_item t.is_sum t.is_value laws.sums laws.parts v

pub through-sum-requires : goal.through-sum-requires
unfolding CanSearchAfter GoesOn StepsAfter
through-sum-requires g c =
    let t = g.W.Weave in let laws = g.met.W.Weave in let (s, made, wv, le, v) = c.requires in let climb = c.loop-turn.invariant.0 s made wv le in record {
      live = live_subtree laws.laws t.is_near laws.starts_near s.beside c.args.tree.now made wv climb;
      inside = held_inside laws.laws t.is_near laws.starts_near s.beside c.args.tree.now made wv climb t.is_item t.is_sum t.is_value laws.sums laws.parts v;
      sum = held_past laws.laws t.is_near laws.starts_near s.beside c.args.tree.now made wv climb t.is_item t.is_sum t.is_value laws.sums laws.parts v;
    }

pub returns-in-Stop : goal.returns-in-Stop
unfolding StepsTo CanSearchAfter GoesOn StepsAfter
returns-in-Stop g c = record {
  next = λ s made wv le.
      let t = g.W.Weave in let laws = g.met.W.Weave in let above = c.in-Some.above in
      let is_at = c.in-Some.is ∙ ap (λ z. Some (above.0, z)) (left_side above.1 (sides_differ above.1 Right (sym c.eq.ensures ∙ c.if-eq.false))) in
      climb_stops laws.laws t.is_near laws.starts_near s.beside c.args.tree.now made wv (c.loop-turn.invariant.0 s made wv le) above.0 is_at c.visit-slot-in-loop-turn.result c.visit-slot-in-loop-turn.ensures.value
      c.item_below-item.result c.through-sum.result c.item_below-item.ensures c.through-sum.ensures c.turn_at.result c.turn_at.ensures c.in-Stop.is;
  cost = λ s made wv le.
      let l = c.loop-turn in
      let up = c.shift_to-by.ensures.cost s.beside (here s c.args.id) s.hole ((c.copy_of.ensures ∙ c.place-at.ensures s made, made), wv, shallow s c.args.id le) in
      both_ways s c.args.id c.args.steps.now c.shift_to-by.new.steps c.visit-slot.new.steps c.visit-slot-in-loop-turn.new.steps (l._turn + 1) up c.visit-slot.ensures.step
      (one_step c.visit-slot.new.steps l._turn l.steps c.visit-slot-in-loop-turn.new.steps l.invariant.1 c.visit-slot-in-loop-turn.ensures.step) (climb_more (l.invariant.0 s made wv le) c.in-Some.above c.in-Some.is);
}

pub returns-in-Left : goal.returns-in-Left
unfolding StepsTo CanSearchAfter GoesOn StepsAfter
returns-in-Left g c = record {
  next = λ s made wv le.
      let t = g.W.Weave in let laws = g.met.W.Weave in let above = c.in-Some.above in
      let is_at = c.in-Some.is ∙ ap (λ z. Some (above.0, z)) (left_side above.1 (sides_differ above.1 Right (sym c.eq.ensures ∙ c.if-eq.false))) in
      climb_turns laws.laws t.is_near laws.starts_near s.beside c.args.tree.now made wv (c.loop-turn.invariant.0 s made wv le) above.0 is_at c.visit-slot-in-loop-turn.result c.visit-slot-in-loop-turn.ensures.value
      c.item_below-item.result c.through-sum.result c.item_below-item.ensures c.through-sum.ensures c.turn_at.result c.turn_at.ensures c.in-Left.is;
  cost = λ s made wv le.
      let l = c.loop-turn in
      let up = c.shift_to-by.ensures.cost s.beside (here s c.args.id) s.hole ((c.copy_of.ensures ∙ c.place-at.ensures s made, made), wv, shallow s c.args.id le) in
      both_ways s c.args.id c.args.steps.now c.shift_to-by.new.steps c.visit-slot.new.steps c.visit-slot-in-loop-turn.new.steps (l._turn + 1) up c.visit-slot.ensures.step
      (one_step c.visit-slot.new.steps l._turn l.steps c.visit-slot-in-loop-turn.new.steps l.invariant.1 c.visit-slot-in-loop-turn.ensures.step) (climb_more (l.invariant.0 s made wv le) c.in-Some.above c.in-Some.is);
}

pub right_of-standing-requires : goal.right_of-standing-requires
unfolding CanSearchAfter GoesOn StepsAfter
right_of-standing-requires g c =
    let t = g.W.Weave in let laws = g.met.W.Weave in let (s, made, wv, le, v) = c.requires in let climb = c.loop-turn.invariant.0 s made wv le in let above = c.in-Some.above in
    let is_at = c.in-Some.is ∙ ap (λ z. Some (above.0, z)) (left_side above.1 (sides_differ above.1 Right (sym c.eq.ensures ∙ c.if-eq.false))) in record {
      sum = held_more laws.laws t.is_near laws.starts_near s.beside c.args.tree.now made wv climb above.0 is_at c.visit-slot-in-loop-turn.result c.visit-slot-in-loop-turn.ensures.value
          c.item_below-item.result c.through-sum.result c.item_below-item.ensures c.through-sum.ensures t.is_item t.is_sum t.is_value laws.sums laws.parts v;
      shift = held_far laws.laws t.is_near laws.starts_near s.beside c.args.tree.now made wv climb above.0 is_at c.visit-slot-in-loop-turn.result c.visit-slot-in-loop-turn.ensures.value t.is_item t.is_sum t.is_value laws.sums laws.parts v;
    }

pub place-at-requires-in-loop-turn : goal.place-at-requires-in-loop-turn
unfolding CanSearchAfter GoesOn StepsAfter
place-at-requires-in-loop-turn g c =
    let t = g.W.Weave in let laws = g.met.W.Weave in let (s, made, wv, le, v) = c.requires in
    stands_upper laws.laws t.is_near laws.starts_near s.beside c.args.tree.now made wv (c.loop-turn.invariant.0 s made wv le) c.in-Some.above c.in-Some.is

pub loop-turn-preserved : goal.loop-turn-preserved
unfolding CanSearchAfter GoesOn StepsAfter
loop-turn-preserved g c =
    let t = g.W.Weave in let laws = g.met.W.Weave in let l = c.loop-turn in let above = c.in-Some.above in let next = c.place-at-in-loop-turn in (
      (λ s made wv le.
          let climb = l.invariant.0 s made wv le in let whole = plug s.hole (here s c.args.id) in
          elim c.if-eq.branch [
            | then-eq z ↦
                let is_at = c.in-Some.is ∙ ap (λ q. Some (above.0, q)) (same_side above.1 Right (sym c.eq.ensures ∙ z.if-eq.true)) in
                subst (λ q. Climb t.weaving t.turn c.args.key whole (items_after t.weaving s) (depth s.hole) next.result c.if-eq.by q (l._turn + 1)) (sym z.standing-is)
                (climb_past laws.laws t.is_near laws.starts_near s.beside c.args.tree.now made wv climb above.0 is_at c.visit-slot-in-loop-turn.result c.visit-slot-in-loop-turn.ensures.value
                next.result c.if-eq.by next.ensures (z.by-is ∙ z.minus-by.ensures))
            | else-eq+in-Right z ↦
                let is_at = c.in-Some.is ∙ ap (λ q. Some (above.0, q)) (left_side above.1 (sides_differ above.1 Right (sym c.eq.ensures ∙ z.if-eq.false))) in
                subst (λ (q : g.row.W-By.Denot × Standing g.row.W-Item.Denot g.row.W-Sum.Denot g.row.W-By.Denot).
                Climb t.weaving t.turn c.args.key whole (items_after t.weaving s) (depth s.hole) next.result q.0 q.1 (l._turn + 1))
                (sym (λ i. (z.by-is i, (z.standing-is ∙ z.right_of-standing.ensures) i)))
                (climb_on laws.laws t.is_near laws.starts_near s.beside c.args.tree.now made wv climb above.0 is_at c.visit-slot-in-loop-turn.result c.visit-slot-in-loop-turn.ensures.value
                z.item_below-item.result z.through-sum.result z.item_below-item.ensures z.through-sum.ensures z.turn_at.result z.turn_at.ensures z.in-Right.is next.result next.ensures)
          ]),
      one_step c.visit-slot.new.steps l._turn l.steps c.visit-slot-in-loop-turn.new.steps l.invariant.1 c.visit-slot-in-loop-turn.ensures.step,
      refl,
    )

pub returns : goal.returns
unfolding StepsTo CanSearchAfter GoesOn StepsAfter
returns g c = record {
  next = λ s made wv le.
      let climb = c.loop-turn.invariant.0 s made wv le in climb_ends climb (climb_over climb 128 (shallow s c.args.id le) c.loop-turn-test.false);
  cost = λ s made wv le.
      let l = c.loop-turn in
      let up = c.shift_to-by.ensures.cost s.beside (here s c.args.id) s.hole ((c.copy_of.ensures ∙ c.place-at.ensures s made, made), wv, shallow s c.args.id le) in
      both_ways s c.args.id c.args.steps.now c.shift_to-by.new.steps c.visit-slot.new.steps l.steps l._turn up c.visit-slot.ensures.step l.invariant.1 (climb_few (l.invariant.0 s made wv le));
}
