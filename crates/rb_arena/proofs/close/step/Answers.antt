use Rattle.std.proofs.Common.{ℕ, List, Some, sym, ◌∙◌}
use Rattle.rb_rules.specs.declared.slot.Data.{Data}
use Rattle.rb_rules.specs.Tree.{Tree}
use Rattle.rb_rules.proofs.Wider.{can_turn_wider}
use Rattle.rb_arena.specs.Nodes.{Lives}
use Rattle.rb_arena.specs.Closing.{Short}
use Rattle.rb_arena.specs.Relative.{CanTurnNode, LawsOf, Turns}
use Rattle.rb_arena.proofs.Gaps.{Seen, has_slot, lone, brother_live, sees, can_turn_red, comes_nearer, child_away, child_near, can_turn_outer, outer_stands, outer_mended, can_turn_inner, can_turn_again, inner_stands, inner_mended, plain_stands, plain_live, plain_parent, plain_mended, plain_higher}
use Rattle.rb_arena.proofs.close.step.Given.{Over}
use Rattle.rb_arena.proofs.close.step.Goals.{After-read-2}
use Rattle.rb_arena.proofs.close.step.Goals as goal

the_laws : (g : Over) → LawsOf g.W.Weave
the_laws g =
    let l = g.met.W.Weave in record { laws = l.laws; sums = l.sums; within_near = l.within_near; starts_within = l.starts_within; widens = l.widens; parts = l.parts; thins = l.thins }

-- the values read
module _ (g : Over) (c : After-read-2 g) (reach : g.row.W-By.Denot) (beside : Tree (Data g.row.W-Item.Denot g.row.W-Sum.Denot g.row.W-By.Denot)) (es : List (ℕ × g.row.W-Item.Denot)) (n : ℕ) where
  abbrev IsSeen : Type 0
  IsSeen =
      let t = g.W.Weave in
      Seen t.weaving g.met.W.Weave.laws (t.within reach) t.is_item t.is_value beside c.args.tree.now.nodes.live c.args.tree.now.root es c.args.side c.other-away.result c.args.parent c.in-Some.brother n c.read-2.result

  seen : Short g.W.Weave.weaving (g.W.Weave.within reach) beside c.args.tree.now.nodes.live c.args.tree.now.root es (Some (c.args.parent, c.args.side)) n → IsSeen
  seen short =
      let t = g.W.Weave in
      sees t.weaving g.met.W.Weave.laws (t.within reach) t.is_item t.is_value beside c.args.tree.now.nodes.live c.args.tree.now.root es c.args.side c.other-away.result c.args.parent c.in-Some.brother n
      c.read.result c.other-away.ensures c.read.ensures short c.child.result c.child.ensures c.in-Some.is c.read-2.result c.read-2.ensures

pub read-requires : goal.read-requires
unfolding CanTurnNode Turns Lives
read-requires g c = let (reach, (beside, (es, (n, short, v)))) = c.requires in has_slot short

pub returns-in_default-clause-closing : goal.returns-in_default-clause-closing
unfolding CanTurnNode Turns
returns-in_default-clause-closing g c = λ reach beside es n short v.
    let t = g.W.Weave in
    absurd (lone t.weaving g.met.W.Weave.laws (t.within reach) t.is_item t.is_value beside c.args.tree.now.nodes.live c.args.tree.now.root es c.args.side c.other-away.result c.args.parent c.args.parent n
    c.read.result c.other-away.ensures c.read.ensures short c.child.result c.child.ensures c.in_default.is)

pub read-requires-2 : goal.read-requires-2
unfolding CanTurnNode Turns Lives
read-requires-2 g c =
    let t = g.W.Weave in let (reach, (beside, (es, (n, short, v)))) = c.requires in
    brother_live t.weaving g.met.W.Weave.laws (t.within reach) t.is_item t.is_value beside c.args.tree.now.nodes.live c.args.tree.now.root es c.args.side c.other-away.result c.args.parent c.in-Some.brother n
    c.read.result c.other-away.ensures c.read.ensures short c.child.result c.child.ensures c.in-Some.is

pub turn_node-requires : goal.turn_node-requires
unfolding CanTurnNode Turns
turn_node-requires g c =
    let (reach, (beside, (es, (n, short, v)))) = c.requires in let r = seen g (goal.at.turn_node-requires g c).After-read-2 reach beside es n short in
    let t = g.W.Weave in (
      the_laws g,
      can_turn_wider t.weaving (t.within reach) t.is_near (g.met.W.Weave.within_near reach) t.is_item t.is_value c.args.tree.now.nodes.live c.args.tree.now.root c.args.parent c.other-away.result
          (can_turn_red r c.if-read.true v),
    )

pub returns-then-read-clause-closing : goal.returns-then-read-clause-closing
unfolding CanTurnNode Turns
returns-then-read-clause-closing g c = λ reach beside es n short v.
    let r = seen g (goal.at.returns-then-read-clause-closing g c).After-read-2 reach beside es n short in comes_nearer r c.if-read.true (λ sp h. c.turn_node.ensures.turned sp h reach)

pub red_child-requires : goal.red_child-requires
unfolding CanTurnNode Turns
red_child-requires g c =
    let (reach, (beside, (es, (n, short, v)))) = c.requires in let r = seen g (goal.at.red_child-requires g c).After-read-2 reach beside es n short in
    child_away r c.if-read.false

pub turn_node-requires-in-Some-red_child : goal.turn_node-requires-in-Some-red_child
unfolding CanTurnNode Turns
turn_node-requires-in-Some-red_child g c =
    let (reach, (beside, (es, (n, short, v)))) = c.requires in let r = seen g (goal.at.turn_node-requires-in-Some-red_child g c).After-read-2 reach beside es n short in
    let t = g.W.Weave in (
      the_laws g,
      can_turn_wider t.weaving (t.within reach) t.is_near (g.met.W.Weave.within_near reach) t.is_item t.is_value c.args.tree.now.nodes.live c.args.tree.now.root c.args.parent c.other-away.result
          (can_turn_outer r c.if-read.false c.in-Some-red_child.outer (sym c.red_child.ensures ∙ c.in-Some-red_child.is) v),
    )

pub paint-requires : goal.paint-requires
unfolding CanTurnNode Turns
paint-requires g c =
    let (reach, (beside, (es, (n, short, v)))) = c.requires in let r = seen g (goal.at.paint-requires g c).After-read-2 reach beside es n short in
    outer_stands r c.if-read.false c.in-Some-red_child.outer (sym c.red_child.ensures ∙ c.in-Some-red_child.is) (λ sp h. c.turn_node-in-Some-red_child.ensures.turned sp h reach)

pub returns-in-Some-red_child-clause-closing : goal.returns-in-Some-red_child-clause-closing
unfolding CanTurnNode Turns
returns-in-Some-red_child-clause-closing g c = λ reach beside es n short v.
    let r = seen g (goal.at.returns-in-Some-red_child-clause-closing g c).After-read-2 reach beside es n short in outer_mended r c.if-read.false c.in-Some-red_child.outer (sym c.red_child.ensures ∙ c.in-Some-red_child.is) (λ sp h. c.turn_node-in-Some-red_child.ensures.turned sp h reach) c.paint.ensures.made

pub red_child-requires-2 : goal.red_child-requires-2
unfolding CanTurnNode Turns
red_child-requires-2 g c =
    let (reach, (beside, (es, (n, short, v)))) = c.requires in let r = seen g (goal.at.red_child-requires-2 g c).After-read-2 reach beside es n short in
    child_near r c.if-read.false

pub turn_node-requires-in-Some-red_child-2 : goal.turn_node-requires-in-Some-red_child-2
unfolding CanTurnNode Turns
turn_node-requires-in-Some-red_child-2 g c =
    let (reach, (beside, (es, (n, short, v)))) = c.requires in let r = seen g (goal.at.turn_node-requires-in-Some-red_child-2 g c).After-read-2 reach beside es n short in
    let t = g.W.Weave in (
      the_laws g,
      can_turn_wider t.weaving (t.within reach) t.is_near (g.met.W.Weave.within_near reach) t.is_item t.is_value c.args.tree.now.nodes.live c.args.tree.now.root c.in-Some.brother c.args.side
          (can_turn_inner r c.if-read.false (sym c.red_child.ensures ∙ c.in_default-red_child.is) c.in-Some-red_child-2._inner (sym c.red_child-2.ensures ∙ c.in-Some-red_child-2.is) v),
    )

pub turn_node-requires-in-Some-red_child-2-2 : goal.turn_node-requires-in-Some-red_child-2-2
unfolding CanTurnNode Turns
turn_node-requires-in-Some-red_child-2-2 g c =
    let (reach, (beside, (es, (n, short, v)))) = c.requires in let r = seen g (goal.at.turn_node-requires-in-Some-red_child-2-2 g c).After-read-2 reach beside es n short in
    let t = g.W.Weave in (
      the_laws g,
      can_turn_wider t.weaving (t.within reach) t.is_near (g.met.W.Weave.within_near reach) t.is_item t.is_value c.turn_node-in-Some-red_child-2.new.tree.nodes.live c.turn_node-in-Some-red_child-2.new.tree.root c.args.parent c.other-away.result
          (can_turn_again r c.if-read.false (sym c.red_child.ensures ∙ c.in_default-red_child.is) c.in-Some-red_child-2._inner (sym c.red_child-2.ensures ∙ c.in-Some-red_child-2.is) (λ sp h. c.turn_node-in-Some-red_child-2.ensures.turned sp h reach) v),
    )

pub paint-requires-in-Some-red_child-2 : goal.paint-requires-in-Some-red_child-2
unfolding CanTurnNode Turns
paint-requires-in-Some-red_child-2 g c =
    let (reach, (beside, (es, (n, short, v)))) = c.requires in let r = seen g (goal.at.paint-requires-in-Some-red_child-2 g c).After-read-2 reach beside es n short in
    inner_stands r c.if-read.false (sym c.red_child.ensures ∙ c.in_default-red_child.is) c.in-Some-red_child-2._inner (sym c.red_child-2.ensures ∙ c.in-Some-red_child-2.is) (λ sp h. c.turn_node-in-Some-red_child-2.ensures.turned sp h reach) (λ sp h. c.turn_node-in-Some-red_child-2-2.ensures.turned sp h reach)

pub returns-in-Some-red_child-2-clause-closing : goal.returns-in-Some-red_child-2-clause-closing
unfolding CanTurnNode Turns
returns-in-Some-red_child-2-clause-closing g c = λ reach beside es n short v.
    let r = seen g (goal.at.returns-in-Some-red_child-2-clause-closing g c).After-read-2 reach beside es n short in inner_mended r c.if-read.false (sym c.red_child.ensures ∙ c.in_default-red_child.is) c.in-Some-red_child-2._inner (sym c.red_child-2.ensures ∙ c.in-Some-red_child-2.is) (λ sp h. c.turn_node-in-Some-red_child-2.ensures.turned sp h reach) (λ sp h. c.turn_node-in-Some-red_child-2-2.ensures.turned sp h reach) c.paint-in-Some-red_child-2.ensures.made

pub paint-requires-2 : goal.paint-requires-2
unfolding CanTurnNode Turns
paint-requires-2 g c =
    let (reach, (beside, (es, (n, short, v)))) = c.requires in let r = seen g (goal.at.paint-requires-2 g c).After-read-2 reach beside es n short in
    plain_stands r c.if-read.false (sym c.red_child.ensures ∙ c.in_default-red_child.is) (sym c.red_child-2.ensures ∙ c.in_default-red_child-2.is)

pub read-requires-3 : goal.read-requires-3
unfolding CanTurnNode Turns Lives
read-requires-3 g c =
    let (reach, (beside, (es, (n, short, v)))) = c.requires in let r = seen g (goal.at.read-requires-3 g c).After-read-2 reach beside es n short in
    plain_live r c.if-read.false (sym c.red_child.ensures ∙ c.in_default-red_child.is) (sym c.red_child-2.ensures ∙ c.in_default-red_child-2.is) c.paint-2.ensures.made

pub paint-requires-then-read-2 : goal.paint-requires-then-read-2
unfolding CanTurnNode Turns
paint-requires-then-read-2 g c =
    let (reach, (beside, (es, (n, short, v)))) = c.requires in let r = seen g (goal.at.paint-requires-then-read-2 g c).After-read-2 reach beside es n short in
    plain_parent r c.if-read.false (sym c.red_child.ensures ∙ c.in_default-red_child.is) (sym c.red_child-2.ensures ∙ c.in_default-red_child-2.is) c.paint-2.ensures.made

pub returns-then-read-2-clause-closing : goal.returns-then-read-2-clause-closing
unfolding CanTurnNode Turns
returns-then-read-2-clause-closing g c = λ reach beside es n short v.
    let r = seen g (goal.at.returns-then-read-2-clause-closing g c).After-read-2 reach beside es n short in plain_mended r c.if-read.false (sym c.red_child.ensures ∙ c.in_default-red_child.is) (sym c.red_child-2.ensures ∙ c.in_default-red_child-2.is) c.paint-2.ensures.made c.read-3.result c.read-3.ensures c.if-read-2.true c.paint-then-read-2.ensures.made

pub place-requires : goal.place-requires
unfolding CanTurnNode Turns
place-requires g c =
    let (reach, (beside, (es, (n, short, v)))) = c.requires in let r = seen g (goal.at.place-requires g c).After-read-2 reach beside es n short in
    plain_parent r c.if-read.false (sym c.red_child.ensures ∙ c.in_default-red_child.is) (sym c.red_child-2.ensures ∙ c.in_default-red_child-2.is) c.paint-2.ensures.made

pub returns-clause-closing : goal.returns-clause-closing
unfolding CanTurnNode Turns
returns-clause-closing g c = λ reach beside es n short v.
    let r = seen g (goal.at.returns-clause-closing g c).After-read-2 reach beside es n short in plain_higher r c.if-read.false (sym c.red_child.ensures ∙ c.in_default-red_child.is) (sym c.red_child-2.ensures ∙ c.in_default-red_child-2.is) c.paint-2.ensures.made c.read-3.result c.read-3.ensures c.if-read-2.false c.place.result c.place.ensures
