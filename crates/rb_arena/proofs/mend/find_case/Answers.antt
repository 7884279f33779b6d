use Rattle.std.proofs.Common.{◌≡◌, true, false, sym, ◌∙◌, ap, refl}
use Rattle.rb_rules.specs.Tree.{other}
use Rattle.rb_rules.specs.Memory.{below}
use Rattle.rb_rules.proofs.Ups.{hole_top}
use Rattle.rb_arena.specs.Mending.{case_of}
use Rattle.rb_arena.proofs.Cases.{uncle_red, uncle_black, red_there, has_child}
use Rattle.rb_arena.proofs.Slots.{parent_of}
use Rattle.rb_arena.proofs.mend.find_case.Goals as goal

pub node_of-requires : goal.node_of-requires
node_of-requires g c = let (s, h) = c.requires in let p = parent_of _ _ s c.args.id h c.place.ensures c.in-Some.is in (p.spot, p.made)

pub returns-in_default : goal.returns-in_default
returns-in_default g c = λ s h. sym (ap case_of (hole_top s.hole (sym (c.place.ensures s h) ∙ c.in_default.is)))

pub returns-then-not-node_of : goal.returns-then-not-node_of
returns-then-not-node_of g c = λ s h.
    let p = parent_of _ _ s c.args.id h c.place.ensures c.in-Some.is in
    let black : p.spot.red ≡ false = sym (ap (λ n. n.red) (c.node_of.ensures.slot p.spot p.made)) ∙ c.if-not-node_of.true in rw (p.hole_is, black) refl

pub place-requires-2 : goal.place-requires-2
place-requires-2 g c = let (s, h) = c.requires in let p = parent_of _ _ s c.args.id h c.place.ensures c.in-Some.is in (p.spot, p.made)

pub returns-in_default-place : goal.returns-in_default-place
returns-in_default-place g c = λ s h.
    let p = parent_of _ _ s c.args.id h c.place.ensures c.in-Some.is in
    let red : p.spot.red ≡ true = sym (ap (λ n. n.red) (c.node_of.ensures.slot p.spot p.made)) ∙ c.if-not-node_of.false in
    let top = hole_top p.spot.hole (sym (c.place-2.ensures p.spot p.made) ∙ c.in_default-place.is) in rw (p.hole_is, red, top) refl

pub red_child-requires : goal.red_child-requires
red_child-requires g c =
    let (s, h) = c.requires in let p = parent_of _ _ s c.args.id h c.place.ensures c.in-Some.is in
    let q = parent_of _ _ p.spot c.in-Some.at.0 p.made c.place-2.ensures c.in-Some-place.is in rw c.other.ensures (has_child _ _ q.spot c.in-Some-place.above.0 q.made (other c.in-Some-place.above.1))

pub returns-in-Some-red_child : goal.returns-in-Some-red_child
returns-in-Some-red_child g c = λ s h.
    let p = parent_of _ _ s c.args.id h c.place.ensures c.in-Some.is in let q = parent_of _ _ p.spot c.in-Some.at.0 p.made c.place-2.ensures c.in-Some-place.is in
    let red : p.spot.red ≡ true = sym (ap (λ n. n.red) (c.node_of.ensures.slot p.spot p.made)) ∙ c.if-not-node_of.false in
    let uncle = sym (red_there _ _ q.spot c.in-Some-place.above.0 q.made (other c.in-Some-place.above.1)) ∙ rw c.other.ensures at (sym c.red_child.ensures) ∙ c.in-Some-red_child.is in
    rw (p.hole_is, red, q.hole_is) (uncle_red c.in-Some.at.1 c.in-Some.at.0 c.in-Some-place.above.1 c.in-Some-place.above.0 (below (other c.in-Some-place.above.1) q.spot) c.in-Some-red_child.uncle uncle)

pub returns-in-None : goal.returns-in-None
returns-in-None g c = λ s h.
    let p = parent_of _ _ s c.args.id h c.place.ensures c.in-Some.is in let q = parent_of _ _ p.spot c.in-Some.at.0 p.made c.place-2.ensures c.in-Some-place.is in
    let red : p.spot.red ≡ true = sym (ap (λ n. n.red) (c.node_of.ensures.slot p.spot p.made)) ∙ c.if-not-node_of.false in
    let uncle = sym (red_there _ _ q.spot c.in-Some-place.above.0 q.made (other c.in-Some-place.above.1)) ∙ rw c.other.ensures at (sym c.red_child.ensures) ∙ c.in-None.is in
    rw (p.hole_is, red, q.hole_is) (c.bend.ensures ∙ uncle_black c.in-Some.at.1 c.in-Some.at.0 c.in-Some-place.above.1 c.in-Some-place.above.0 (below (other c.in-Some-place.above.1) q.spot) uncle)
