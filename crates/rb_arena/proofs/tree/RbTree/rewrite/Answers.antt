use Rattle.rb_arena.proofs.RewritingAll.{can_rewrite, kept_rewritten, items_rewritten, loose_rewritten, went_on}
use Rattle.rb_arena.proofs.tree.RbTree.rewrite.Goals as goal

pub rewrite_below-requires : goal.rewrite_below-requires
rewrite_below-requires g c =
    can_rewrite g.W.Weave g.R.Rewriting.rewritten g.R.Rewriting.onward c.self.inside.reach c.self.inside.links c.self.inside.loose c.args.self.now c.args.how.now c.self.invariant c.self.view_is c.requires.values c.still.result c.still.ensures

pub invariant_of-self : goal.invariant_of-self
invariant_of-self g c =
    kept_rewritten g.W.Weave g.R.Rewriting.rewritten g.R.Rewriting.onward c.self.inside.reach c.self.inside.links c.self.inside.loose c.args.self.now c.args.how.now c.self.invariant c.self.view_is c.requires.values c.still.result c.still.ensures c.rewrite_below.new.tree c.rewrite_below.new.how c.rewrite_below.result c.rewrite_below.ensures.count.as_many c.rewrite_below.ensures.made

pub returns-clause-items : goal.returns-clause-items
returns-clause-items g c =
    items_rewritten g.W.Weave g.R.Rewriting.rewritten g.R.Rewriting.onward c.self.inside.reach c.self.inside.links c.self.inside.loose c.args.self.now c.args.how.now c.self.invariant c.self.view_is c.requires.values c.still.result c.still.ensures c.rewrite_below.new.tree c.rewrite_below.new.how c.rewrite_below.result c.rewrite_below.ensures.count.as_many c.rewrite_below.ensures.made

pub returns-clause-onward : goal.returns-clause-onward
returns-clause-onward g c =
    went_on g.W.Weave g.R.Rewriting.rewritten g.R.Rewriting.onward c.self.inside.reach c.self.inside.links c.self.inside.loose c.args.self.now c.args.how.now c.self.invariant c.self.view_is c.requires.values c.still.result c.still.ensures c.rewrite_below.new.tree c.rewrite_below.new.how c.rewrite_below.result c.rewrite_below.ensures.count.as_many c.rewrite_below.ensures.made

pub returns-clause-loose : goal.returns-clause-loose
returns-clause-loose g c =
    loose_rewritten g.W.Weave g.R.Rewriting.rewritten g.R.Rewriting.onward c.self.inside.reach c.self.inside.links c.self.inside.loose c.args.self.now c.args.how.now c.self.invariant c.self.view_is c.requires.values c.still.result c.still.ensures c.rewrite_below.new.tree c.rewrite_below.new.how c.rewrite_below.result c.rewrite_below.ensures.count.as_many c.rewrite_below.ensures.made
