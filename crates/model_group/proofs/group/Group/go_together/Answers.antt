use Rattle.std.proofs.Common.{◌≡◌, Ok, Some, All, length, sym, subst, ap, ◌∙◌, arith}
use Rattle.group_rules.specs.Going.{go_by, go_together}
use Rattle.model_core.specs.Prepared.{Acts, CanCommit}
use Rattle.model_group.specs.Prepared.{CommitAll, IsReadyIn, going_along}
use Rattle.model_group.specs.State.{documents}
use Rattle.model_group.proofs.Goings.{steps_in, gone_models, gone_together}
use Rattle.model_group.proofs.Grouping.{put_back, lent_back, group_before, group_gone}
use Rattle.model_group.proofs.group.Group.go_together.Goals as goal
use Rattle.model_group.proofs.group.Group.go_together.Goals.{After-commit_all}

pub commit_all-requires-clause-each : goal.commit_all-requires-clause-each
commit_all-requires-clause-each c =
    subst (λ g. All (IsReadyIn CanCommit g) c.in_ok-ready.ready.items) (sym (c.deref_mut.ensures.value ∙ c.self.view_is))
    (steps_in c.args.way c.args.tag c.prepare_steps.new.self c.in_ok-ready.ready.items c.in_ok-ready.ensures.ready)

back : (c : After-commit_all) → put_back c.self.inside.models.items c.self.inside.models.len c.commit_all.new.models ≡ c.commit_all.new.models
back c =
    let models = c.self.inside.models in
    lent_back models.items c.commit_all.new.models models.len (omega (arith, models.ok.0))
    (omega (arith, c.commit_all.auto.models, ap length c.deref_mut.ensures.value))

done : (c : After-commit_all) → CommitAll Acts c.in_ok-ready.ready.items c.prepare_steps.new.self c.commit_all.new.models
done c =
    subst (λ g. CommitAll Acts c.in_ok-ready.ready.items g c.commit_all.new.models) (c.deref_mut.ensures.value ∙ c.self.view_is) c.commit_all.ensures

gone : (c : After-commit_all) → go_together (going_along c.args.way) (documents c.args.self.now) c.args.tag
    ≡ Ok (Some (documents c.commit_all.new.models))
gone c =
    gone_together _ c.args.tag _ _ _ _ c.in_ok-ready.ensures.kept c.in_ok-ready.ensures.count c.in_ok-ready.ensures.ready (done c)
    (sym c.some_last.ensures ∙ c.if-some_last.false) (sym c.in_default.ensures)

pub returns : goal.returns
returns c =
    let after = (goal.at.returns c).After-commit_all in
    rw (back after) (record {
      documents = gone after;
      models = gone_models _ c.args.tag _ _ _ _ c.in_ok-ready.ensures.kept c.in_ok-ready.ensures.count c.in_ok-ready.ensures.ready (done after);
    })

pub invariant_of-self : goal.invariant_of-self
invariant_of-self c =
    let after = (goal.at.invariant_of-self c).After-commit_all in
    let before = group_before c.args.self.now c.prepare_steps.new.self c.self.inside.models.items c.self.invariant c.self.view_is
    c.in_ok-ready.ensures.kept.documents in
    let count : length c.commit_all.new.models ≡ length c.args.self.now =
    omega (arith, c.commit_all.auto.models, ap length c.deref_mut.ensures.value, c.self.invariant.count, before.count) in
    rw (back after) (group_gone c.args.way c.args.doc c.args.self.now c.commit_all.new.models before count
    (ap (go_by (going_along c.args.way) (documents c.args.self.now) c.args.doc) (sym c.requires.next) ∙ gone after))
