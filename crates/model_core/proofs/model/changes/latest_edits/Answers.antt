use Rattle.std.proofs.Common.{◌≡◌, ◌-◌, ℕ, slice_get, Some, ap, sym, ◌∙◌, arith}
use Rattle.std.proofs.lemmas.Grind.{common_steps}
use Rattle.edit_stack.specs.Element.{step_of}
use Rattle.model_page.specs.declared.change.Way.TheVariants.{On}
use Rattle.model_page.specs.InTurn.{all_edits_along}
use Rattle.model_page.specs.Ways.{rest_on}
use Rattle.model_core.specs.declared.latest.Latest.TheVariants.{Made}
use Rattle.model_core.specs.History.{way_to}
use Rattle.model_core.specs.Ways.{next_steps}
use Rattle.model_core.proofs.LastChanges.{edits_made}
use Rattle.model_core.proofs.model.changes.latest_edits.Goals as goal

pub returns-in-Made : goal.returns-in-Made
returns-in-Made c = λ now.
    let s = c.args.history.now.stack in
    let step = step_of c.in-Some.step.now in
    let made : c.args.latest ≡ Made = grind (arith, common_steps) in
    let next : slice_get (next_steps (way_to c.args.latest) s) 0 ≡ Some step = grind (arith, common_steps) in
    c.new.ensures ∙ ap (λ (k : ℕ). all_edits_along On (rest_on On (k - 1) step.changes)) c.len.ensures
    ∙ sym (edits_made c.args.latest now s step made next)
