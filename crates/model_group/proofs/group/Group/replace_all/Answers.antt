use Rattle.std.proofs.Common.{◌≡◌, Err, rules, ap}
use Rattle.search_rules.specs.Replacing.{edited_alone, flat_replace_all}
use Rattle.model_core.specs.Prepared.{CanCommit}
use Rattle.model_group.proofs.Committing.{kept_all}
use Rattle.model_group.proofs.Changing.{all_stay, kept_on, refused_move, idle_there, prepared_on, edit_is_change, made_move, replaced}
use Rattle.model_group.proofs.group.Group.replace_all.Goals as goal

pub returns-in_err-ready : goal.returns-in_err-ready
returns-in_err-ready c =
    let on = c.in_err-ready.ensures in
    let kept = kept_all _ _ _ _ on in
    let is : c.from_residual.result ≡ Err c.in_err-ready.field-0.0 = search rules in
    rw is (record {
      documents = refused_move _ _ _ _ on c.in_err-ready.field-0.0 (λ f. flat_replace_all f c.args.sought.now c.args.with.now) on.done.ready.0;
      models = kept_on _ _ _ kept.parses;
      stay = all_stay _ _ _ kept.documents;
    })

pub returns-in_default : goal.returns-in_default
returns-in_default c =
    let on = rw c.in_default.is at c.in_ok-ready.ensures in
    let kept = kept_all _ _ _ _ on in
    record {
      documents = idle_there _ _ _ _ on (λ f. flat_replace_all f c.args.sought.now c.args.with.now) (ap (edited_alone on.after.document) on.done.ready);
      models = kept_on _ _ _ kept.parses;
      stay = all_stay _ _ _ kept.documents;
    }

pub commit-requires : goal.commit-requires
commit-requires c =
    let on = rw c.in-Some.is at c.in_ok-ready.ensures in
    let edit = on.done.ready.ready in
    record { ready = prepared_on _ _ _ _ on CanCommit _ c.requires.there edit.can; change = edit_is_change _ _ _ edit }

pub returns : goal.returns
returns c =
    let done = replaced _ c.in-Some.ready _ _ _ c.args.sought.now c.args.with.now (rw c.in-Some.is at c.in_ok-ready.ensures) c.commit.ensures in
    record { documents = made_move _ _ _ done.documents _ done.rule; models = done.models; stay = done.stay }
