use Rattle.std.proofs.Common.{length, ap, sym, ◌∙◌}
use Rattle.model_page.specs.State.{flat_text}
use Rattle.model_core.specs.State.{ModelState}
use Rattle.model_core.proofs.Tags.{length-undo, length-redo}
use Rattle.model_core.proofs.model.Model.counts.Goals as goal

pub returns-clause-undo : goal.returns-clause-undo
returns-clause-undo c =
    let m = c.self.inside in
    c.counts.ensures.undo ∙ sym (length-undo (flat_text m.page.text) m.history.stack) ∙ ap (λ (s : ModelState). length s.document.history.undo) c.self.view_is

pub returns-clause-redo : goal.returns-clause-redo
returns-clause-redo c =
    let m = c.self.inside in
    c.counts.ensures.redo ∙ sym (length-redo (flat_text m.page.text) m.history.stack) ∙ ap (λ (s : ModelState). length s.document.history.redo) c.self.view_is
