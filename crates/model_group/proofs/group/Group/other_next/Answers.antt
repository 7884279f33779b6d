use Rattle.std.proofs.Common.{ap, sym, ◌∙◌}
use Rattle.group_rules.specs.Going.{other_next_from}
use Rattle.model_group.specs.State.{documents}
use Rattle.model_group.specs.Prepared.{going_along}
use Rattle.model_group.proofs.Goings.{other_found, other_passed, no_more}
use Rattle.model_group.proofs.group.Group.other_next.Goals as goal

pub returns-then-is_other : goal.returns-then-is_other
returns-then-is_other c =
    sym (other_found c.args.tag _ _ _ c.loop-doc-test.true c.model-item.is (going_along c.args.way) _ c.is_other.ensures c.if-is_other.true) ∙ c.loop-doc.invariant
    ∙ ap (λ models. other_next_from 0 (going_along c.args.way) c.args.tag (documents models)) (c.deref-model-items.ensures.value ∙ c.self.view_is)

pub loop-doc-preserved : goal.loop-doc-preserved
loop-doc-preserved c =
    sym (other_passed c.args.tag _ _ _ c.loop-doc-test.true c.model-item.is (going_along c.args.way) _ c.is_other.ensures c.if-is_other.false) ∙ c.loop-doc.invariant

pub returns : goal.returns
returns c =
    let none = no_more c.deref-model-items.result.now c.loop-doc.doc c.loop-doc-test.false in
    sym (ap (other_next_from c.loop-doc.doc (going_along c.args.way) c.args.tag) none) ∙ c.loop-doc.invariant
    ∙ ap (λ models. other_next_from 0 (going_along c.args.way) c.args.tag (documents models)) (c.deref-model-items.ensures.value ∙ c.self.view_is)
