use Rattle.std.proofs.Common.{◌≡◌, IfSome, Option, ap, sym, subst, ◌∙◌}
use Rattle.document_rules.specs.Document.{LastChange, edits_of}
use Rattle.document_rules.specs.InTurn.{edited_in_turn}
use Rattle.model_page.specs.State.{flat_text}
use Rattle.model_core.specs.declared.latest.Latest.{Latest}
use Rattle.model_core.specs.History.{last_of}
use Rattle.model_core.specs.State.{ModelState}
use Rattle.model_core.proofs.Taking.{last_told}
use Rattle.model_core.proofs.model.Model.changes.Goals as goal

pub returns-clause-changes : goal.returns-clause-changes
returns-clause-changes c =
    let m = c.self.inside in
    c.latest_edits.ensures (flat_text m.page.text)
    ∙ ap (λ (l : Option Latest). edits_of (last_of l (flat_text m.page.text) m.history.stack)) (sym c.in-Some.is)
    ∙ ap (λ (s : ModelState). edits_of s.document.last) c.self.view_is

pub returns-clause-texts : goal.returns-clause-texts
returns-clause-texts c =
    let m = c.self.inside in
    subst (λ (s : ModelState). IfSome s.document.last (λ (last : LastChange). edited_in_turn last.before last.edits ≡ s.document.units)) c.self.view_is
    (last_told m.latest (flat_text m.page.text) m.history.stack c.self.invariant.1)
