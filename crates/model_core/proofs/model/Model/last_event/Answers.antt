use Rattle.std.proofs.Common.{IfSome, subst}
use Rattle.batch_rules.specs.Events.{TakeTo}
use Rattle.document_rules.specs.Document.{LastChange}
use Rattle.model_page.specs.State.{flat_text}
use Rattle.model_core.specs.State.{ModelState}
use Rattle.model_core.proofs.Taking.{last_taken}
use Rattle.model_core.proofs.model.Model.last_event.Goals as goal
use Rattle.model_core.proofs.model.Model.last_event.Goals.{In-Some}

taken : (c : In-Some) → let f = c.args.self.now.document in IfSome f.last (λ (last : LastChange). TakeTo last.before last.batches f.units)
taken c =
    let m = c.self.inside in
    subst (λ (s : ModelState). IfSome s.document.last (λ (last : LastChange). TakeTo last.before last.batches s.document.units)) c.self.view_is
    (last_taken m.latest (flat_text m.page.text) m.history.stack c.self.invariant.1)

pub returns-in_err-batches-clause-texts : goal.returns-in_err-batches-clause-texts
returns-in_err-batches-clause-texts c = taken (goal.at.returns-in_err-batches-clause-texts c).In-Some

pub returns-clause-texts : goal.returns-clause-texts
returns-clause-texts c = taken (goal.at.returns-clause-texts c).In-Some
