use Rattle.std.proofs.Common.{◌≡◌, length, replicate, sym, subst, ap, ◌∙◌, arith}
use Rattle.document_rules.specs.Document.{empty_document}
use Rattle.group_rules.specs.declared.TheConstants.{DOC_COUNT}
use Rattle.group_rules.specs.Group.{new_group}
use Rattle.group_rules.specs.Shared.{AreShared}
use Rattle.group_rules.proofs.Shared.{shared_new}
use Rattle.model_group.specs.State.{documents}
use Rattle.model_group.proofs.Lists.{length-documents}
use Rattle.model_group.proofs.group.Group.new.Goals as goal

pub invariant_of-result : goal.invariant_of-result
invariant_of-result c =
    let items = c.loop.models.items in
    let all : c.loop.counter ≡ DOC_COUNT = omega (arith, c.loop.auto.counter-end, c.loop-test.false) in
    let is : documents items ≡ new_group = c.loop.invariant ∙ ap (λ n. replicate n empty_document) all in
    record { count = sym (length-documents items) ∙ ap length is; shared = subst AreShared (sym is) shared_new }
