use Rattle.std.proofs.Common.{None, ◌∙◌}
use Rattle.std.specs.FinMap as map
use Rattle.rb_arena.specs.RbTree.{Kept, listed, items_in, loose_in, seen}
use Rattle.rb_arena.proofs.Listing.{keeps_none, none_in, none_loose}
use Rattle.rb_arena.proofs.tree.RbTree.new.Goals as goal

pub invariant_of-result : goal.invariant_of-result
unfolding Kept
invariant_of-result g c =
    let t = g.W.Weave in let l = g.met.W.Weave in (
      record { laws = l.laws; sums = l.sums; within_near = l.within_near; starts_within = l.starts_within; widens = l.widens; parts = l.parts; thins = l.thins },
      l.fits,
      rw (c.still.ensures, c.new.ensures) (keeps_none t.weaving (t.within t.weaving.still) t.is_item t.is_value l.starts_within c.requires),
    )

pub returns : goal.returns
unfolding seen
returns g c =
    let t = g.W.Weave in
    (λ i. listed (items_in t.weaving (c.new.ensures i).live None) (loose_in t.weaving (c.new.ensures i).live None) (c.new.ensures i).spare)
    ∙ (λ i. listed (none_in t.weaving map.empty i) (none_loose t.weaving map.empty i) 0)
