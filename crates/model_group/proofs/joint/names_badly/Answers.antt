use Rattle.std.proofs.Common.{get_or, sym, subst, ap, ◌∙◌, map}
use Rattle.std.proofs.lemmas.List.{take_all}
use Rattle.group_rules.specs.Joint.{docs_of, names_badly}
use Rattle.model_group.proofs.Naming.{HaveSet, batch_of, docs_back, one_taken, one_among, have_more, have_none_more}
use Rattle.model_group.proofs.joint.names_badly.Goals as goal

pub returns-in-None : goal.returns-in-None
returns-in-None c =
    let docs = c.args.docs.now in
    let i = c.loop-doc.doc-index in
    sym (ap names_badly (sym (docs_back docs)) ∙ ap (λ batches. names_badly (docs_of batches)) (one_among batch_of docs i 0 c.loop-doc-test.true)
    ∙ have_none_more _ _ (batch_of (get_or docs i 0)) c.loop-doc.invariant _ (sym c.more.ensures ∙ c.in-None.is))

pub loop-doc-preserved : goal.loop-doc-preserved
loop-doc-preserved c =
    let docs = c.args.docs.now in
    let i = c.loop-doc.doc-index in
    subst (λ batches. HaveSet batches c.in-Some.more) (sym (one_taken batch_of docs i 0 c.loop-doc-test.true))
    (have_more _ _ (batch_of (get_or docs i 0)) c.loop-doc.invariant _ (sym c.more.ensures ∙ c.in-Some.is))

pub returns : goal.returns
returns c =
    let docs = c.args.docs.now in
    sym (ap names_badly (sym (docs_back docs))
    ∙ ap (λ ns. names_badly (docs_of (map batch_of ns))) (sym (take_all c.loop-doc.doc-index docs c.loop-doc-test.false)) ∙ c.loop-doc.invariant.named)
