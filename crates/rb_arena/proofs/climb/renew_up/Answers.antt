use Rattle.std.proofs.Common.{◌≡◌, suc, ◌-◌, ◌+◌, ◌∙◌, ap, refl, arith}
use Rattle.rb_rules.proofs.Climbs.{renew_ready, climbed, ended, none_left}
use Rattle.rb_rules.proofs.Wider.{can_renew_wider}
use Rattle.rb_arena.specs.Relative.{CanRenewNode, IsSlackFrom, LawsOf, Renews, RenewsFrom}
use Rattle.rb_arena.proofs.climb.renew_up.Given.{Over}
use Rattle.rb_arena.proofs.climb.renew_up.Goals as goal

the_laws : (g : Over) → LawsOf g.W.Weave
the_laws g =
    let l = g.met.W.Weave in record { laws = l.laws; sums = l.sums; within_near = l.within_near; starts_within = l.starts_within; widens = l.widens; parts = l.parts; thins = l.thins }

pub loop-turn-init : goal.loop-turn-init
unfolding IsSlackFrom RenewsFrom
loop-turn-init g c = ((λ reach beside whole h. (whole, h, refl)), record { spare = refl; as_many = refl })

pub returns-in_default-clause-made : goal.returns-in_default-clause-made
unfolding IsSlackFrom RenewsFrom
returns-in_default-clause-made g c = λ reach beside whole h.
    let t = g.W.Weave in let laws = g.met.W.Weave in let l = c.loop-turn in let (now, sl, alike) = l.invariant.0 reach beside whole h in
    let (made, wv) = ended t.weaving laws.laws (t.within reach) t.is_item t.is_sum t.is_value laws.sums laws.parts l.tree.nodes.live l.tree.root (128 - l._turn) now (rw c.in_default.is at sl) in
    (now, made, wv, alike)

pub node_of-at-requires : goal.node_of-at-requires
unfolding IsSlackFrom RenewsFrom
node_of-at-requires g c =
    let t = g.W.Weave in let laws = g.met.W.Weave in let l = c.loop-turn in
    let (reach, (beside, (whole, h))) = c.requires in let (now, sl, alike) = l.invariant.0 reach beside whole h in
    let (s, made, wl, wr, v) = renew_ready t.weaving laws.laws (t.within reach) t.is_item t.is_sum t.is_value laws.sums laws.parts l.tree.nodes.live l.tree.root c.in-Some.id (128 - l._turn) now (rw c.in-Some.is at sl) in
    (s, made)

pub renew-requires : goal.renew-requires
unfolding IsSlackFrom RenewsFrom CanRenewNode
renew-requires g c =
    let t = g.W.Weave in let laws = g.met.W.Weave in let l = c.loop-turn in
    let (reach, (beside, (whole, h))) = c.requires in let (now, sl, alike) = l.invariant.0 reach beside whole h in (
      the_laws g,
      can_renew_wider t.weaving (t.within reach) t.is_near (laws.within_near reach) t.is_item t.is_value l.tree.nodes.live l.tree.root c.in-Some.id
          (renew_ready t.weaving laws.laws (t.within reach) t.is_item t.is_sum t.is_value laws.sums laws.parts l.tree.nodes.live l.tree.root c.in-Some.id (128 - l._turn) now (rw c.in-Some.is at sl)),
    )

pub loop-turn-preserved : goal.loop-turn-preserved
unfolding IsSlackFrom RenewsFrom Renews
loop-turn-preserved g c =
    let t = g.W.Weave in let laws = g.met.W.Weave in let l = c.loop-turn in let z = c.renew.new.tree in (
      (λ reach beside whole h.
          let (now, sl, alike) = l.invariant.0 reach beside whole h in
          let fewer : 128 - l._turn ≡ suc (128 - (l._turn + 1)) = omega (arith, c.loop-turn-test.true) in
          let (next, sl2, alike2) = climbed t.weaving laws.laws (t.within reach) t.is_item t.is_sum t.is_value laws.sums laws.parts l.tree.nodes.live l.tree.root
          z.nodes.live z.root c.node_of-at.result.parent c.in-Some.id (128 - (l._turn + 1)) now (rw (c.in-Some.is, fewer) at sl) c.renew.ensures.made (λ s made. ap (λ n. n.parent) (c.node_of-at.ensures.slot s made)) in
          (next, sl2, alike2 ∙ alike)),
      record { spare = c.renew.ensures.count.spare ∙ l.invariant.1.spare; as_many = c.renew.ensures.count.as_many ∙ l.invariant.1.as_many },
    )

pub returns-clause-made : goal.returns-clause-made
unfolding IsSlackFrom RenewsFrom
returns-clause-made g c = λ reach beside whole h.
    let t = g.W.Weave in let laws = g.met.W.Weave in let l = c.loop-turn in let (now, sl, alike) = l.invariant.0 reach beside whole h in
    let over : 128 - l._turn ≡ 0 = omega (arith, c.loop-turn-test.false) in let last = rw over at sl in
    let none = none_left t.weaving laws.laws (t.within reach) t.is_item t.is_sum t.is_value laws.sums laws.parts l.tree.nodes.live l.tree.root l.at now last in
    let (made, wv) = ended t.weaving laws.laws (t.within reach) t.is_item t.is_sum t.is_value laws.sums laws.parts l.tree.nodes.live l.tree.root 0 now (rw none at last) in
    (now, made, wv, alike)
