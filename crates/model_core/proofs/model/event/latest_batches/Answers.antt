use Rattle.std.proofs.Common.{◌≡◌, ◌-◌, [], ◌∷◌, length, slice_get, Some, ap, sym, subst, ◌∙◌, arith}
use Rattle.std.proofs.lemmas.Grind.{common_steps}
use Rattle.edit_stack.specs.Element.{step_of}
use Rattle.model_page.specs.declared.change.Way.TheVariants.{On}
use Rattle.model_page.specs.Changes.{ops_by}
use Rattle.model_core.specs.declared.latest.Latest.TheVariants.{Made}
use Rattle.model_core.specs.History.{way_to}
use Rattle.model_core.specs.Ways.{next_steps}
use Rattle.model_core.proofs.LastChanges.{batches_made}
use Rattle.model_core.proofs.model.event.latest_batches.Goals as goal

pub returns-in_ok-push-in-Made : goal.returns-in_ok-push-in-Made
returns-in_ok-push-in-Made c = λ now.
    let s = c.args.history.now.stack in
    let step = step_of c.in-Some.step.now in
    let change = c.change.result.now in
    let made : c.args.latest ≡ Made = grind (arith, common_steps) in
    let next : slice_get (next_steps (way_to c.args.latest) s) 0 ≡ Some step = grind (arith, common_steps) in
    let at : slice_get step.changes (length step.changes - 1) ≡ Some change = subst (λ k. slice_get step.changes (k - 1) ≡ Some change) c.len.ensures c.change.ensures in
    let items : c.push.new.self.items ≡ ops_by On change ∷ [] = grind (arith, common_steps) in
    batches_made c.args.latest now s step change made next at ∙ ap Some (sym items)
