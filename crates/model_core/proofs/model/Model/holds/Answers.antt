use Rattle.std.proofs.Common.{ap, sym, ◌∙◌}
use Rattle.undo_rules.specs.Tags.{holds}
use Rattle.model_page.specs.State.{flat_text}
use Rattle.model_core.specs.State.{ModelState}
use Rattle.model_core.proofs.Tags.{holds-history}
use Rattle.model_core.proofs.model.Model.holds.Goals as goal

pub returns : goal.returns
returns c =
    let m = c.self.inside in
    c.holds.ensures ∙ sym (holds-history (flat_text m.page.text) m.history.stack c.args.tag) ∙ ap (λ (s : ModelState). holds s.document.history c.args.tag) c.self.view_is
