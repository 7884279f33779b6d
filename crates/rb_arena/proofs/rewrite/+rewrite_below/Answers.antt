use Rattle.std.proofs.Common.{◌≡◌, ◌-◌, ◌<◌, Some, sym, ◌∙◌, ap, subst, arith}
use Rattle.rb_rules.specs.Rewriting.{Leaves}
use Rattle.rb_rules.specs.Weaving.{HeldBy, HeldItem}
use Rattle.rb_arena.specs.Relative.{LawsOf}
use Rattle.rb_arena.specs.Rewriting.{CanRewriteAt, RewritesAt}
use Rattle.rb_arena.proofs.RewritingSteps as step
use Rattle.rb_arena.proofs.rewrite.+rewrite_below.Given.{Over}
use Rattle.rb_arena.proofs.rewrite.+rewrite_below.Goals as goal

module _ (g : Over) where
  laws : LawsOf g.W.Weave
  laws = let met = g.met.W.Weave in record {
    laws = met.laws;
    sums = met.sums;
    within_near = met.within_near;
    starts_within = met.starts_within;
    widens = met.widens;
    parts = met.parts;
    thins = met.thins;
  }

pub node_of-slot-requires : goal.node_of-slot-requires
node_of-slot-requires g t c =
    let can : CanRewriteAt g.W.Weave g.R.Rewriting.rewritten g.R.Rewriting.onward c.args.tree.now c.args.how.now (Some c.in-Some.id) c.args.by c.args.levels
    = subst (λ o. CanRewriteAt g.W.Weave g.R.Rewriting.rewritten g.R.Rewriting.onward c.args.tree.now c.args.how.now o c.args.by c.args.levels) c.in-Some.is c.requires in
    step.stands g.W.Weave (laws g) g.R.Rewriting.rewritten g.R.Rewriting.onward c.args.tree.now c.args.how.now c.in-Some.id c.args.by c.args.levels can

pub shift_sum-whole-requires : goal.shift_sum-whole-requires
shift_sum-whole-requires g t c =
    let can : CanRewriteAt g.W.Weave g.R.Rewriting.rewritten g.R.Rewriting.onward c.args.tree.now c.args.how.now (Some c.in-Some.id) c.args.by c.args.levels
    = subst (λ o. CanRewriteAt g.W.Weave g.R.Rewriting.rewritten g.R.Rewriting.onward c.args.tree.now c.args.how.now o c.args.by c.args.levels) c.in-Some.is c.requires in
    step.holds_whole g.W.Weave (laws g) g.R.Rewriting.rewritten g.R.Rewriting.onward c.args.tree.now c.args.how.now c.in-Some.id c.args.by c.args.levels c.node_of-slot.result c.node_of-slot.ensures.slot can

pub returns-then-skips-clause-made : goal.returns-then-skips-clause-made
returns-then-skips-clause-made g t c =
    let leaves = subst (Leaves g.W.Weave.weaving g.W.Weave.is_item g.R.Rewriting.rewritten g.R.Rewriting.onward c.args.how.now) c.shift_sum-whole.ensures (c.skips.ensures c.if-skips.true) in
    subst (λ o. RewritesAt g.W.Weave g.R.Rewriting.rewritten g.R.Rewriting.onward c.args.tree.now c.args.how.now c.args.tree.now c.args.how.now o c.args.by c.args.levels c.node_of-slot.result.«data».whole) (sym c.in-Some.is)
    (step.skips g.W.Weave (laws g) g.R.Rewriting.rewritten g.R.Rewriting.onward c.args.tree.now c.args.how.now c.in-Some.id c.args.by c.args.levels c.node_of-slot.result c.node_of-slot.ensures.slot leaves)

pub rewrite_below-left-requires : goal.rewrite_below-left-requires
rewrite_below-left-requires g t c κs within =
    let can : CanRewriteAt g.W.Weave g.R.Rewriting.rewritten g.R.Rewriting.onward c.args.tree.now c.args.how.now (Some c.in-Some.id) c.args.by c.args.levels
    = subst (λ o. CanRewriteAt g.W.Weave g.R.Rewriting.rewritten g.R.Rewriting.onward c.args.tree.now c.args.how.now o c.args.by c.args.levels) c.in-Some.is c.requires in
    let high = step.tall g.W.Weave (laws g) g.R.Rewriting.rewritten g.R.Rewriting.onward c.args.tree.now c.args.how.now c.in-Some.id c.args.by c.args.levels can in let less : c.args.levels - 1 < t = omega (arith, high, c.decreases) in
    (less, (within.0, (within.1.0, (within.1.1.0, (within.1.1.1.0, (within.1.1.1.1.0, (within.1.1.1.1.1, step.can_left g.W.Weave (laws g) g.R.Rewriting.rewritten g.R.Rewriting.onward c.args.tree.now c.args.how.now c.in-Some.id c.args.by c.args.levels c.node_of-slot.result c.node_of-slot.ensures.slot can)))))))

pub shift-requires : goal.shift-requires
shift-requires g t c =
    let can : CanRewriteAt g.W.Weave g.R.Rewriting.rewritten g.R.Rewriting.onward c.args.tree.now c.args.how.now (Some c.in-Some.id) c.args.by c.args.levels
    = subst (λ o. CanRewriteAt g.W.Weave g.R.Rewriting.rewritten g.R.Rewriting.onward c.args.tree.now c.args.how.now o c.args.by c.args.levels) c.in-Some.is c.requires in
    step.holds_item g.W.Weave (laws g) g.R.Rewriting.rewritten g.R.Rewriting.onward c.args.tree.now c.args.how.now c.in-Some.id c.args.by c.args.levels c.node_of-slot.result c.node_of-slot.ensures.slot can

pub rewrite-own-requires-clause-old : goal.rewrite-own-requires-clause-old
rewrite-own-requires-clause-old g t c =
    let can : CanRewriteAt g.W.Weave g.R.Rewriting.rewritten g.R.Rewriting.onward c.args.tree.now c.args.how.now (Some c.in-Some.id) c.args.by c.args.levels
    = subst (λ o. CanRewriteAt g.W.Weave g.R.Rewriting.rewritten g.R.Rewriting.onward c.args.tree.now c.args.how.now o c.args.by c.args.levels) c.in-Some.is c.requires in
    step.is_old g.W.Weave (laws g) g.R.Rewriting.rewritten g.R.Rewriting.onward c.args.tree.now c.args.how.now c.in-Some.id c.args.by c.args.levels c.node_of-slot.result c.node_of-slot.ensures.slot can c.shift.result c.shift.ensures

pub rewrite-own-requires-clause-new : goal.rewrite-own-requires-clause-new
rewrite-own-requires-clause-new g t c =
    let can : CanRewriteAt g.W.Weave g.R.Rewriting.rewritten g.R.Rewriting.onward c.args.tree.now c.args.how.now (Some c.in-Some.id) c.args.by c.args.levels
    = subst (λ o. CanRewriteAt g.W.Weave g.R.Rewriting.rewritten g.R.Rewriting.onward c.args.tree.now c.args.how.now o c.args.by c.args.levels) c.in-Some.is c.requires in
    step.is_new g.W.Weave (laws g) g.R.Rewriting.rewritten g.R.Rewriting.onward c.args.tree.now c.args.how.now c.in-Some.id c.args.by c.args.levels c.node_of-slot.result c.node_of-slot.ensures.slot can c.shift.result c.shift.ensures c.rewrite_below-left.new.tree c.rewrite_below-left.new.how c.rewrite_below-left.result c.rewrite_below-left.ensures.made

pub minus-requires : goal.minus-requires
minus-requires g t c =
    let can : CanRewriteAt g.W.Weave g.R.Rewriting.rewritten g.R.Rewriting.onward c.args.tree.now c.args.how.now (Some c.in-Some.id) c.args.by c.args.levels
    = subst (λ o. CanRewriteAt g.W.Weave g.R.Rewriting.rewritten g.R.Rewriting.onward c.args.tree.now c.args.how.now o c.args.by c.args.levels) c.in-Some.is c.requires in
    subst (λ b. HeldBy g.W.Weave.weaving g.W.Weave.is_near (g.W.Weave.weaving.minus b c.args.by)) (sym c.still.ensures) (step.holds_back g.W.Weave (laws g) g.R.Rewriting.rewritten g.R.Rewriting.onward c.args.tree.now c.args.how.now c.in-Some.id c.args.by c.args.levels c.node_of-slot.result c.node_of-slot.ensures.slot can c.shift.result c.shift.ensures c.rewrite_below-left.new.tree c.rewrite_below-left.new.how c.rewrite_below-left.result c.rewrite_below-left.ensures.made)

pub shift-item-requires : goal.shift-item-requires
shift-item-requires g t c =
    let can : CanRewriteAt g.W.Weave g.R.Rewriting.rewritten g.R.Rewriting.onward c.args.tree.now c.args.how.now (Some c.in-Some.id) c.args.by c.args.levels
    = subst (λ o. CanRewriteAt g.W.Weave g.R.Rewriting.rewritten g.R.Rewriting.onward c.args.tree.now c.args.how.now o c.args.by c.args.levels) c.in-Some.is c.requires in
    let is : g.W.Weave.weaving.shift c.minus.result c.rewrite-own.result ≡ g.W.Weave.weaving.shift (g.W.Weave.weaving.minus g.W.Weave.weaving.still c.args.by) (g.R.Rewriting.rewritten c.rewrite_below-left.new.how c.shift.result)
    = λ j. g.W.Weave.weaving.shift ((c.minus.ensures ∙ ap (λ b. g.W.Weave.weaving.minus b c.args.by) c.still.ensures) j) (c.rewrite-own.ensures.item j) in
    subst (HeldItem g.W.Weave.weaving g.W.Weave.is_near g.W.Weave.is_item) (sym is) (step.holds_new g.W.Weave (laws g) g.R.Rewriting.rewritten g.R.Rewriting.onward c.args.tree.now c.args.how.now c.in-Some.id c.args.by c.args.levels c.node_of-slot.result c.node_of-slot.ensures.slot can c.shift.result c.shift.ensures c.rewrite_below-left.new.tree c.rewrite_below-left.new.how c.rewrite_below-left.result c.rewrite_below-left.ensures.made)

pub plus-far-requires : goal.plus-far-requires
plus-far-requires g t c =
    let can : CanRewriteAt g.W.Weave g.R.Rewriting.rewritten g.R.Rewriting.onward c.args.tree.now c.args.how.now (Some c.in-Some.id) c.args.by c.args.levels
    = subst (λ o. CanRewriteAt g.W.Weave g.R.Rewriting.rewritten g.R.Rewriting.onward c.args.tree.now c.args.how.now o c.args.by c.args.levels) c.in-Some.is c.requires in
    step.holds_far g.W.Weave (laws g) g.R.Rewriting.rewritten g.R.Rewriting.onward c.args.tree.now c.args.how.now c.in-Some.id c.args.by c.args.levels c.node_of-slot.result c.node_of-slot.ensures.slot can

pub rewrite_below-right-requires : goal.rewrite_below-right-requires
rewrite_below-right-requires g t c κs within =
    let can : CanRewriteAt g.W.Weave g.R.Rewriting.rewritten g.R.Rewriting.onward c.args.tree.now c.args.how.now (Some c.in-Some.id) c.args.by c.args.levels
    = subst (λ o. CanRewriteAt g.W.Weave g.R.Rewriting.rewritten g.R.Rewriting.onward c.args.tree.now c.args.how.now o c.args.by c.args.levels) c.in-Some.is c.requires in
    let high = step.tall g.W.Weave (laws g) g.R.Rewriting.rewritten g.R.Rewriting.onward c.args.tree.now c.args.how.now c.in-Some.id c.args.by c.args.levels can in let less : c.args.levels - 1 < t = omega (arith, high, c.decreases) in
    (less, (within.0, (within.1.0, (within.1.1.0, (within.1.1.1.0, (within.1.1.1.1.0, (within.1.1.1.1.1, step.can_right g.W.Weave (laws g) g.R.Rewriting.rewritten g.R.Rewriting.onward c.args.tree.now c.args.how.now c.in-Some.id c.args.by c.args.levels c.node_of-slot.result c.node_of-slot.ensures.slot can c.shift.result c.shift.ensures c.rewrite_below-left.new.tree c.rewrite_below-left.new.how c.rewrite_below-left.result c.rewrite_below-left.ensures.made c.rewrite-own.new.self c.rewrite-own.ensures.onward c.plus-far.result c.plus-far.ensures)))))))

pub summed-datum-requires : goal.summed-datum-requires
summed-datum-requires g t c =
    let can : CanRewriteAt g.W.Weave g.R.Rewriting.rewritten g.R.Rewriting.onward c.args.tree.now c.args.how.now (Some c.in-Some.id) c.args.by c.args.levels
    = subst (λ o. CanRewriteAt g.W.Weave g.R.Rewriting.rewritten g.R.Rewriting.onward c.args.tree.now c.args.how.now o c.args.by c.args.levels) c.in-Some.is c.requires in
    let item_is : c.shift-item.result ≡ g.W.Weave.weaving.shift (g.W.Weave.weaving.minus g.W.Weave.weaving.still c.args.by) (g.R.Rewriting.rewritten c.rewrite_below-left.new.how c.shift.result)
    = c.shift-item.ensures ∙ (λ j. g.W.Weave.weaving.shift ((c.minus.ensures ∙ ap (λ b. g.W.Weave.weaving.minus b c.args.by) c.still.ensures) j) (c.rewrite-own.ensures.item j)) in
    step.can_sum g.W.Weave (laws g) g.R.Rewriting.rewritten g.R.Rewriting.onward c.args.tree.now c.args.how.now c.in-Some.id c.args.by c.args.levels c.node_of-slot.result c.node_of-slot.ensures.slot can c.shift.result c.shift.ensures c.rewrite_below-left.new.tree c.rewrite_below-left.new.how c.rewrite_below-left.result c.rewrite_below-left.ensures.made c.rewrite-own.new.self c.rewrite-own.ensures.onward c.plus-far.result c.plus-far.ensures c.rewrite_below-right.new.tree c.rewrite_below-right.new.how c.rewrite_below-right.result c.rewrite_below-right.ensures.made c.shift-item.result item_is

pub rewrite-requires : goal.rewrite-requires
rewrite-requires g t c =
    let can : CanRewriteAt g.W.Weave g.R.Rewriting.rewritten g.R.Rewriting.onward c.args.tree.now c.args.how.now (Some c.in-Some.id) c.args.by c.args.levels
    = subst (λ o. CanRewriteAt g.W.Weave g.R.Rewriting.rewritten g.R.Rewriting.onward c.args.tree.now c.args.how.now o c.args.by c.args.levels) c.in-Some.is c.requires in
    let item_is : c.shift-item.result ≡ g.W.Weave.weaving.shift (g.W.Weave.weaving.minus g.W.Weave.weaving.still c.args.by) (g.R.Rewriting.rewritten c.rewrite_below-left.new.how c.shift.result)
    = c.shift-item.ensures ∙ (λ j. g.W.Weave.weaving.shift ((c.minus.ensures ∙ ap (λ b. g.W.Weave.weaving.minus b c.args.by) c.still.ensures) j) (c.rewrite-own.ensures.item j)) in
    step.stands_still g.W.Weave (laws g) g.R.Rewriting.rewritten g.R.Rewriting.onward c.args.tree.now c.args.how.now c.in-Some.id c.args.by c.args.levels c.node_of-slot.result c.node_of-slot.ensures.slot can c.shift.result c.shift.ensures c.rewrite_below-left.new.tree c.rewrite_below-left.new.how c.rewrite_below-left.result c.rewrite_below-left.ensures.made c.rewrite-own.new.self c.rewrite-own.ensures.onward c.plus-far.result c.plus-far.ensures c.rewrite_below-right.new.tree c.rewrite_below-right.new.how c.rewrite_below-right.result c.rewrite_below-right.ensures.made c.shift-item.result item_is

pub returns-clause-made : goal.returns-clause-made
returns-clause-made g t c =
    let item_is : c.shift-item.result ≡ g.W.Weave.weaving.shift (g.W.Weave.weaving.minus g.W.Weave.weaving.still c.args.by) (g.R.Rewriting.rewritten c.rewrite_below-left.new.how c.shift.result)
    = c.shift-item.ensures ∙ (λ j. g.W.Weave.weaving.shift ((c.minus.ensures ∙ ap (λ b. g.W.Weave.weaving.minus b c.args.by) c.still.ensures) j) (c.rewrite-own.ensures.item j)) in
    subst (λ o. RewritesAt g.W.Weave g.R.Rewriting.rewritten g.R.Rewriting.onward c.args.tree.now c.args.how.now c.rewrite.new.tree c.rewrite_below-right.new.how o c.args.by c.args.levels c.summed-datum.result.whole) (sym c.in-Some.is)
    (step.does g.W.Weave (laws g) g.R.Rewriting.rewritten g.R.Rewriting.onward c.args.tree.now c.args.how.now c.in-Some.id c.args.by c.args.levels c.node_of-slot.result c.node_of-slot.ensures.slot c.shift.result c.shift.ensures c.rewrite_below-left.new.tree c.rewrite_below-left.new.how c.rewrite_below-left.result c.rewrite_below-left.ensures.made c.rewrite-own.new.self c.rewrite-own.ensures.onward c.plus-far.result c.plus-far.ensures c.rewrite_below-right.new.tree c.rewrite_below-right.new.how c.rewrite_below-right.result c.rewrite_below-right.ensures.made c.shift-item.result item_is c.rewrite.new.tree c.summed-datum.result c.summed-datum.ensures c.rewrite.ensures.made)
