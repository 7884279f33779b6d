use Rattle.std.proofs.Common.{◌≡◌, ap, sym, subst, ◌∙◌}
use Rattle.document_rules.specs.Document.{flat_untag}
use Rattle.document_rules.specs.Paired.{IsPairedState}
use Rattle.document_rules.proofs.PairedStates.{untagged_paired}
use Rattle.snapshots.specs.Shown as shelves
use Rattle.model_page.specs.State.{flat_text}
use Rattle.model_core.specs.State.{ModelState}
use Rattle.model_core.proofs.Stepping.{document_of}
use Rattle.model_core.proofs.Retagging.{kept_then, document_then, is_untagged}
use Rattle.model_core.proofs.model.Model.untag.Goals as goal
use Rattle.model_core.proofs.model.Model.untag.Goals.{After-untag}

pub invariant_of-self : goal.invariant_of-self
invariant_of-self c =
    let m = c.self.inside in
    let old = c.self.invariant in
    let retagged = is_untagged c.args.tag (flat_text m.page.text) m.history.stack in
    let kept = kept_then _ _ _ _ retagged _ c.untag.ensures.stack m.latest m.version old.1 old.3 in
    (old.0, kept.0, old.2, kept.1)

document : (c : After-untag) → let m = c.self.inside in
    document_of (flat_text m.page.text) m.version m.alternative m.page.decorations m.page.scanner (shelves.shown m.page.text.buffers m.shelf) m.latest c.untag.new.self.stack
    ≡ flat_untag c.args.self.now.document c.args.tag
document c =
    let m = c.self.inside in
    document_then _ _ _ _ (is_untagged c.args.tag (flat_text m.page.text) m.history.stack) _ c.untag.ensures.stack m.version m.alternative m.page.decorations m.page.scanner _ m.latest
    ∙ ap (λ (s : ModelState). flat_untag s.document c.args.tag) c.self.view_is

pub returns-clause-document : goal.returns-clause-document
returns-clause-document c = document (goal.at.returns-clause-document c).After-untag

pub returns-clause-paired_state : goal.returns-clause-paired_state
returns-clause-paired_state c =
    λ paired. subst IsPairedState (sym (document (goal.at.returns-clause-paired_state c).After-untag)) (untagged_paired c.args.self.now.document c.args.tag paired)
