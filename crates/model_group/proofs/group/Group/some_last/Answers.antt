use Rattle.std.proofs.Common.{ap, sym, ◌∙◌}
use Rattle.group_rules.specs.Going.{some_last_from}
use Rattle.model_group.specs.State.{documents}
use Rattle.model_group.proofs.Goings.{last_found, last_passed, no_more}
use Rattle.model_group.proofs.group.Group.some_last.Goals as goal

pub returns-then-is_last : goal.returns-then-is_last
returns-then-is_last c =
    sym (last_found c.args.tag _ _ _ c.loop-doc-test.true c.model-item.is _ c.is_last.ensures c.if-is_last.true) ∙ c.loop-doc.invariant
    ∙ ap (λ models. some_last_from 0 c.args.tag (documents models)) (c.deref-model-items.ensures.value ∙ c.self.view_is)

pub loop-doc-preserved : goal.loop-doc-preserved
loop-doc-preserved c =
    sym (last_passed c.args.tag _ _ _ c.loop-doc-test.true c.model-item.is _ c.is_last.ensures c.if-is_last.false) ∙ c.loop-doc.invariant

pub returns : goal.returns
returns c =
    let none = no_more c.deref-model-items.result.now c.loop-doc.doc c.loop-doc-test.false in
    sym (ap (some_last_from c.loop-doc.doc c.args.tag) none) ∙ c.loop-doc.invariant
    ∙ ap (λ models. some_last_from 0 c.args.tag (documents models)) (c.deref-model-items.ensures.value ∙ c.self.view_is)
