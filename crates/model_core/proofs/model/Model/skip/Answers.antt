use Rattle.std.proofs.Common.{sym, subst}
use Rattle.document_rules.specs.Paired.{IsPairedState}
use Rattle.document_rules.specs.Snapshots.{EndsBesidePairs}
use Rattle.model_core.specs.State.{ModelState}
use Rattle.model_core.proofs.Shelving.{IsShelf-skipped, skipped_paired}
use Rattle.model_core.proofs.model.Model.skip.Goals as goal

pub invariant_of-self : goal.invariant_of-self
invariant_of-self c =
    let m = c.self.inside in
    let old = c.self.invariant in
    let shelf = IsShelf-skipped m.page.text.buffers m.shelf c.skip.new.self (c.skip.ensures.inside m.page.text.buffers old.2.inside) old.2
    c.args.id c.args.n (c.skip.ensures.change m.page.text.buffers old.2.inside) in
    (old.0, old.1, shelf, old.3)

pub returns-clause-paired_state : goal.returns-clause-paired_state
returns-clause-paired_state c =
    λ whole paired.
    let kept = c.self.invariant.2 in
    skipped_paired _ _ (subst (λ (s : ModelState). IsPairedState s.document) (sym c.self.view_is) paired) c.args.id c.args.n
    kept.sound (c.skip.ensures.change c.self.inside.page.text.buffers kept.inside)
    (subst (λ (s : ModelState). EndsBesidePairs s.document c.args.id c.args.n) (sym c.self.view_is) whole)
