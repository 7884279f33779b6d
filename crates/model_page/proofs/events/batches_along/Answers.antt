use Rattle.std.proofs.Common.{◌≡◌, ◌++◌, [], ◌∷◌, List, slice_get, Some, ap, sym, subst, ◌∙◌, append_assoc, arith}
use Rattle.std.proofs.lemmas.Grind.{common_steps}
use Rattle.edit_stack.specs.Element.{step_of}
use Rattle.text_rules.specs.declared.Op.{Op}
use Rattle.model_page.specs.Changes.{ops_by}
use Rattle.model_page.specs.Ways.{batches_by, place_at}
use Rattle.model_page.proofs.Turns.{batches_left, all_left, none_left}
use Rattle.model_page.proofs.events.batches_along.Goals as goal

pub loop-done-init : goal.loop-done-init
loop-done-init c =
    let none : c.in_ok-batches.batches.items ≡ [] = c.in_ok-batches.ensures.items in
    rw none (ap (batches_by c.args.way) (all_left c.args.way (step_of c.args.step.now).changes))

pub loop-done-preserved : goal.loop-done-preserved
loop-done-preserved c =
    let way = c.args.way in
    let cs = (step_of c.args.step.now).changes in
    let done = c.loop-done.done in
    let at = c.place_at.ensures ∙ ap (λ count. place_at way count done) c.len-in-loop-done.ensures in
    let is = subst (λ k. slice_get cs k ≡ Some c.change-change.result.now) at c.change-change.ensures in
    let next = batches_left way cs done c.change-change.result.now (omega arith) is in
    let batch : c.in_ok-batch_along.field-0 ≡ ops_by way c.change-change.result.now = c.in_ok-batch_along.ensures in
    let pushed : c.push.new.self.items ≡ c.loop-done.batches.items ++ c.in_ok-batch_along.field-0 ∷ [] = c.in_ok-push.ensures.items in
    rw (pushed, batch, append_assoc) (ap (λ (rest : List (List Op)). c.loop-done.batches.items ++ rest) (sym next) ∙ c.loop-done.invariant)

pub returns : goal.returns
returns c =
    let cs = (step_of c.args.step.now).changes in
    let none = none_left c.args.way cs c.loop-done.done (omega arith) in
    grind (arith, common_steps)
