use Rattle.std.proofs.Common.{length, ap, sym, ◌∙◌, arith}
use Rattle.undo_rules.specs.Tags.{all_steps, tag_at}
use Rattle.model_page.specs.State.{flat_text}
use Rattle.model_core.specs.State.{ModelState}
use Rattle.model_core.proofs.Tags.{length-all_steps, tag_at-history}
use Rattle.model_core.proofs.model.Model.tag_at.Goals as goal

pub tag_at-requires : goal.tag_at-requires
tag_at-requires c =
    let m = c.self.inside in
    omega (arith, c.requires, length-all_steps (flat_text m.page.text) m.history.stack, ap (λ (s : ModelState). length (all_steps s.document.history)) c.self.view_is)

pub returns : goal.returns
returns c =
    let m = c.self.inside in
    c.tag_at.ensures ∙ sym (tag_at-history (flat_text m.page.text) m.history.stack c.args.k) ∙ ap (λ (s : ModelState). tag_at s.document.history c.args.k) c.self.view_is
