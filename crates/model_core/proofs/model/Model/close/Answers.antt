use Rattle.std.proofs.Common.{sym, subst}
use Rattle.document_rules.specs.Paired.{IsPairedState}
use Rattle.model_core.specs.State.{ModelState}
use Rattle.model_core.proofs.Shelving.{IsShelf-closed, closed_paired}
use Rattle.model_core.proofs.model.Model.close.Goals as goal

pub invariant_of-self : goal.invariant_of-self
invariant_of-self c =
    let m = c.self.inside in
    let old = c.self.invariant in
    let shelf = IsShelf-closed m.page.text.buffers m.shelf c.close.new.self (c.close.ensures.inside m.page.text.buffers old.2.inside) old.2
    c.close.result c.args.id (c.close.ensures.change m.page.text.buffers) in
    (old.0, old.1, shelf, old.3)

pub returns-clause-paired_state : goal.returns-clause-paired_state
returns-clause-paired_state c =
    λ paired.
    closed_paired _ _ (subst (λ (s : ModelState). IsPairedState s.document) (sym c.self.view_is) paired)
    c.close.result c.args.id (c.close.ensures.change c.self.inside.page.text.buffers)
