use Rattle.std.proofs.Common.{ℕ, ◌-◌, length, refl, sym, ap, subst, ◌∙◌, arith}
use Rattle.std.proofs.lemmas.List.{length_push}
use Rattle.model_find.specs.Matching.{AreBorders}
use Rattle.model_find.proofs.Matching.{up_to_fewer, unit_after, one_border_more}
use Rattle.model_find.proofs.borders.borders_of.Goals as goal

pub loop-at-preserved : goal.loop-at-preserved
loop-at-preserved g c =
    let inv = c.loop-at.invariant in
    let kind = c.args.kind in
    let sought = c.args.sought.now in
    let at : ℕ = c.loop-at.at in
    let push = c.in_ok-push-2.ensures in
    let next = c.extended-matched.ensures.longest sought 1 at c.loop-at-test.true (sym (unit_after sought at inv.first)) refl
    (up_to_fewer kind sought sought (length sought - 1) 1 at c.loop-at.matched inv.longest (omega arith)) in
    record {
      first = omega arith;
      count = ap length push.items ∙ length_push c.loop-at.borders.items c.extended-matched.result ∙ omega (arith, inv.count);
      borders = subst (AreBorders kind sought) (sym push.items) (one_border_more kind sought c.loop-at.borders.items at c.extended-matched.result inv.count inv.borders next);
      longest = next;
      cost = omega (arith, c.extended-matched.ensures.cost, inv.cost, inv.first);
    }
