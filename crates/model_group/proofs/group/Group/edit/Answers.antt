use Rattle.std.proofs.Common.{◌≡◌, Err, rules}
use Rattle.document_rules.specs.Document.{flat_edit}
use Rattle.model_core.specs.Prepared.{CanCommit}
use Rattle.model_group.proofs.Committing.{kept_all}
use Rattle.model_group.proofs.Changing.{all_stay, kept_on, refused_change, prepared_on, edit_is_change, made_change, edited}
use Rattle.model_group.proofs.group.Group.edit.Goals as goal

pub returns-in_err-ready : goal.returns-in_err-ready
returns-in_err-ready c =
    let on = c.in_err-ready.ensures in
    let kept = kept_all _ _ _ _ on in
    let is : c.from_residual.result ≡ Err c.in_err-ready.field-0.0 = search rules in
    rw is (record {
      documents = refused_change _ _ _ _ on c.in_err-ready.field-0.0 (λ f. flat_edit f c.args.ops.items) on.done.ready;
      models = kept_on _ _ _ kept.parses;
      stay = all_stay _ _ _ kept.documents;
    })

pub commit-requires : goal.commit-requires
commit-requires c =
    let on = c.in_ok-ready.ensures in
    record { ready = prepared_on _ _ _ _ on CanCommit _ c.requires on.done.ready.can; change = edit_is_change _ _ _ on.done.ready }

pub returns : goal.returns
returns c =
    let done = edited _ c.in_ok-ready.ready _ _ _ c.args.ops.items c.in_ok-ready.ensures c.commit.ensures in
    record { documents = made_change _ _ _ done.documents _ done.rule; models = done.models; stay = done.stay }
