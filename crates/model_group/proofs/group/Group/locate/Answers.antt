use Rattle.std.proofs.Common.{sym, ap, ◌∙◌}
use Rattle.document_rules.specs.Document.{flat_offset}
use Rattle.model_group.proofs.Lists.{doc_in-is}
use Rattle.model_group.proofs.Committing.{model_at}
use Rattle.model_core.specs.State.{ModelState}
use Rattle.model_group.proofs.Grouping.{group_kept, kept_same}
use Rattle.model_group.proofs.group.Group.locate.Goals as goal

pub returns-clause-found : goal.returns-clause-found
returns-clause-found c =
    let g = c.args.self.now in
    let at = model_at g c.self.inside.models.items c.args.doc c.index_mut.result.now c.self.view_is c.self.invariant.count c.requires
    c.index_mut.ensures.value in
    c.locate.ensures.offset ∙ ap (λ f. flat_offset f c.args.p) (sym (doc_in-is g c.args.doc c.index_mut.result.now at))

pub invariant_of-self : goal.invariant_of-self
invariant_of-self c =
    group_kept _ _ _ _ c.self.invariant c.requires c.index_mut.ensures.value (kept_same _ _ (ap (λ (m : ModelState). m.document) c.locate.ensures.same))
