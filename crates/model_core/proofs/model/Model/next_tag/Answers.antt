use Rattle.std.proofs.Common.{◌≡◌, slice_get, Option, Some, None, option_and_then, ap, sym, ◌∙◌, arith}
use Rattle.std.proofs.lemmas.Grind.{common_steps}
use Rattle.undo_rules.specs.declared.Tag.{Tag}
use Rattle.undo_rules.specs.Stack.{Step}
use Rattle.edit_stack.specs.Element.{step_of}
use Rattle.model_page.specs.declared.change.Change.{Change}
use Rattle.model_page.specs.State.{flat_text}
use Rattle.model_core.specs.State.{ModelState}
use Rattle.model_core.specs.Ways.{next_steps}
use Rattle.model_core.proofs.Tags.{next_tag-history}
use Rattle.model_core.proofs.model.Model.next_tag.Goals as goal
use Rattle.model_core.proofs.model.Model.next_tag.Goals.{After-next_step}

-- the tag of the kept step is that of the flat document
shown : (c : After-next_step) (next : Option (Step Change)) → slice_get (next_steps c.args.way c.self.inside.history.stack) 0 ≡ next
    → option_and_then (λ step. step.tag) next ≡ option_and_then (λ step. step.tag) (slice_get (next_steps c.args.way c.args.self.now.document.history) 0)
shown c next is =
    let m = c.self.inside in
    ap (option_and_then (λ (step : Step Change). step.tag)) (sym is) ∙ sym (next_tag-history (flat_text m.page.text) m.history.stack c.args.way)
    ∙ ap (λ (s : ModelState). option_and_then (λ step. step.tag) (slice_get (next_steps c.args.way s.document.history) 0)) c.self.view_is

pub returns-in_err-next_step : goal.returns-in_err-next_step
returns-in_err-next_step c =
    let next : slice_get (next_steps c.args.way c.self.inside.history.stack) 0 ≡ None = grind (arith, common_steps) in
    let none : Option Tag = None in
    let is : c.from_residual.result ≡ none = grind (arith, common_steps) in
    is ∙ shown (goal.at.returns-in_err-next_step c).After-next_step None next

pub returns : goal.returns
returns c =
    let next : slice_get (next_steps c.args.way c.self.inside.history.stack) 0 ≡ Some (step_of c.in_ok-next_step.field-0.now) = grind (arith, common_steps) in
    c.tag.ensures ∙ shown (goal.at.returns c).After-next_step (Some (step_of c.in_ok-next_step.field-0.now)) next
