use Rattle.std.proofs.Common.{refl}
use Rattle.rb_rules.proofs.Wider.{can_turn_wider}
use Rattle.rb_arena.specs.Relative.{CanTurnNode, LawsOf, Turns}
use Rattle.rb_arena.proofs.Steps.{own_spot, stands_red, case_found, settled, parent_stands, root_blackened, after_parent, stands_uncle, after_uncle, stands_grand, risen_grand, uncle_above, can_turn_outer, outer_turned, can_turn_inner, inner_turned}
use Rattle.rb_arena.proofs.mend.step.Given.{Over}
use Rattle.rb_arena.proofs.mend.step.Goals as goal

the_laws : (g : Over) → LawsOf g.W.Weave
the_laws g =
    let l = g.met.W.Weave in record { laws = l.laws; sums = l.sums; within_near = l.within_near; starts_within = l.starts_within; widens = l.widens; parts = l.parts; thins = l.thins }

pub find_case-requires : goal.find_case-requires
unfolding CanTurnNode Turns
find_case-requires g c = let (reach, (beside, (es, (n, r, v)))) = c.requires in (own_spot r, stands_red r)

pub paint-requires : goal.paint-requires
unfolding CanTurnNode Turns
paint-requires g c = let (reach, (beside, (es, (n, r, v)))) = c.requires in parent_stands r (case_found r c.find_case.ensures c.in-RedRoot.is).is

pub paint-requires-in-RedUncle : goal.paint-requires-in-RedUncle
unfolding CanTurnNode Turns
paint-requires-in-RedUncle g c = let (reach, (beside, (es, (n, r, v)))) = c.requires in parent_stands r (case_found r c.find_case.ensures c.in-RedUncle.is).is

pub paint-requires-in-RedUncle-2 : goal.paint-requires-in-RedUncle-2
unfolding CanTurnNode Turns
paint-requires-in-RedUncle-2 g c =
    let (reach, (beside, (es, (n, r, v)))) = c.requires in let u = case_found r c.find_case.ensures c.in-RedUncle.is in stands_uncle r u (after_parent r u c.paint-in-RedUncle.ensures.made)

pub paint-requires-in-RedUncle-3 : goal.paint-requires-in-RedUncle-3
unfolding CanTurnNode Turns
paint-requires-in-RedUncle-3 g c =
    let (reach, (beside, (es, (n, r, v)))) = c.requires in let u = case_found r c.find_case.ensures c.in-RedUncle.is in
    stands_grand r u (after_uncle r u (after_parent r u c.paint-in-RedUncle.ensures.made) c.paint-in-RedUncle-2.ensures.made)

pub turn_node-requires : goal.turn_node-requires
unfolding CanTurnNode Turns
turn_node-requires g c =
    let (reach, (beside, (es, (n, r, v)))) = c.requires in let t = g.W.Weave in let laws = g.met.W.Weave in let tree = c.args.tree.now in (
      the_laws g,
      can_turn_wider t.weaving (t.within reach) t.is_near (laws.within_near reach) t.is_item t.is_value tree.nodes.live tree.root c.in-Outer.grand c.in-Outer.side
          (can_turn_outer r laws.laws t.is_item t.is_value (case_found r c.find_case.ensures c.in-Outer.is).1 v),
    )

pub turn_node-requires-in-Inner : goal.turn_node-requires-in-Inner
unfolding CanTurnNode Turns
turn_node-requires-in-Inner g c =
    let (reach, (beside, (es, (n, r, v)))) = c.requires in let t = g.W.Weave in let laws = g.met.W.Weave in let tree = c.args.tree.now in (
      the_laws g,
      can_turn_wider t.weaving (t.within reach) t.is_near (laws.within_near reach) t.is_item t.is_value tree.nodes.live tree.root c.in-Inner.parent c.in-Inner.side
          (can_turn_inner r laws.laws t.is_item t.is_value (case_found r c.find_case.ensures c.in-Inner.is) v),
    )

pub turn_node-requires-in-Inner-2 : goal.turn_node-requires-in-Inner-2
unfolding CanTurnNode Turns
turn_node-requires-in-Inner-2 g c =
    let (reach, (beside, (es, (n, r, v)))) = c.requires in let t = g.W.Weave in let laws = g.met.W.Weave in let tree = c.turn_node-in-Inner.new.tree in
    let (low, outer) = inner_turned r laws.laws t.is_item t.is_value (case_found r c.find_case.ensures c.in-Inner.is) (λ sp h. c.turn_node-in-Inner.ensures.turned sp h reach) in
    rw c.other.ensures (
      the_laws g,
      can_turn_wider t.weaving (t.within reach) t.is_near (laws.within_near reach) t.is_item t.is_value tree.nodes.live tree.root c.in-Inner.grand _
          (can_turn_outer low laws.laws t.is_item t.is_value outer v),
    )

pub returns-in-Settled-clause-risen : goal.returns-in-Settled-clause-risen
unfolding CanTurnNode Turns
returns-in-Settled-clause-risen g c = λ reach beside es n r v. (settled r (case_found r c.find_case.ensures c.in-Settled.is), λ _. refl)

pub returns-in-RedRoot-clause-risen : goal.returns-in-RedRoot-clause-risen
unfolding CanTurnNode Turns
returns-in-RedRoot-clause-risen g c = λ reach beside es n r v. (root_blackened r g.met.W.Weave.laws (case_found r c.find_case.ensures c.in-RedRoot.is) c.paint.ensures.made, λ _. refl)

pub returns-in-RedUncle-clause-risen : goal.returns-in-RedUncle-clause-risen
unfolding CanTurnNode Turns
returns-in-RedUncle-clause-risen g c = λ reach beside es n r v.
    let u = case_found r c.find_case.ensures c.in-RedUncle.is in
    (risen_grand r u g.met.W.Weave.laws (after_uncle r u (after_parent r u c.paint-in-RedUncle.ensures.made) c.paint-in-RedUncle-2.ensures.made) c.paint-in-RedUncle-3.ensures.made, λ e. absurd (uncle_above r u e))

pub returns-in-Outer-clause-risen : goal.returns-in-Outer-clause-risen
unfolding CanTurnNode Turns
returns-in-Outer-clause-risen g c = λ reach beside es n r v.
    let t = g.W.Weave in (outer_turned r g.met.W.Weave.laws t.is_item t.is_value (case_found r c.find_case.ensures c.in-Outer.is).1 (λ sp h. c.turn_node.ensures.turned sp h reach), λ _. refl)

pub returns-in-Inner-clause-risen : goal.returns-in-Inner-clause-risen
unfolding CanTurnNode Turns
returns-in-Inner-clause-risen g c = λ reach beside es n r v.
    let t = g.W.Weave in let laws = g.met.W.Weave in
    let (low, outer) = inner_turned r laws.laws t.is_item t.is_value (case_found r c.find_case.ensures c.in-Inner.is) (λ sp h. c.turn_node-in-Inner.ensures.turned sp h reach) in
    (outer_turned low laws.laws t.is_item t.is_value outer (λ sp h. (rw c.other.ensures at c.turn_node-in-Inner-2.ensures.turned) sp h reach), λ _. refl)
