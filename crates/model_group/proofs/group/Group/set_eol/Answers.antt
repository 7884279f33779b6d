use Rattle.std.proofs.Common.{◌≡◌, Err, refl, rules, sym, subst}
use Rattle.document_rules.specs.Document.{flat_eol}
use Rattle.model_core.specs.Prepared.{CanCommit}
use Rattle.model_group.specs.Prepared.{IsChange}
use Rattle.model_group.proofs.Committing.{kept_all}
use Rattle.model_group.proofs.Changing.{all_stay, kept_on, refused_move, idle_there, prepared_on, made_move, recast}
use Rattle.model_group.proofs.group.Group.set_eol.Goals as goal

pub returns-in_err-ready : goal.returns-in_err-ready
returns-in_err-ready c =
    let on = c.in_err-ready.ensures in
    let kept = kept_all _ _ _ _ on in
    let is : c.from_residual.result ≡ Err c.in_err-ready.field-0.0 = search rules in
    rw is (record {
      documents = refused_move _ _ _ _ on c.in_err-ready.field-0.0 (λ f. flat_eol f c.args.kind) on.done.ready;
      models = kept_on _ _ _ kept.parses;
      stay = all_stay _ _ _ kept.documents;
    })

pub returns-in_default : goal.returns-in_default
returns-in_default c =
    let on = rw c.in_default.is at c.in_ok-ready.ensures in
    let kept = kept_all _ _ _ _ on in
    record {
      documents = idle_there _ _ _ _ on (λ f. flat_eol f c.args.kind) (rw on.done.ready refl);
      models = kept_on _ _ _ kept.parses;
      stay = all_stay _ _ _ kept.documents;
    }

pub commit-requires : goal.commit-requires
commit-requires c =
    let on = rw c.in-Some.is at c.in_ok-ready.ensures in
    record { ready = prepared_on _ _ _ _ on CanCommit _ c.requires on.done.ready.can; change = subst IsChange (sym on.done.ready.action) tt }

pub returns : goal.returns
returns c =
    let done = recast _ c.in-Some.ready _ _ _ c.args.kind (rw c.in-Some.is at c.in_ok-ready.ensures) c.commit.ensures in
    record { documents = made_move _ _ _ done.documents _ done.rule; models = done.models; stay = done.stay }
