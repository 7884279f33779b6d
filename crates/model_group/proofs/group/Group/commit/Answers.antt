use Rattle.std.proofs.Common.{◌≡◌, true, length, sym, subst, ap, ◌∙◌, arith}
use Rattle.model_group.specs.Losing.{has_doc}
use Rattle.model_group.specs.Prepared.{CanIn, Commits, acts_in}
use Rattle.model_group.specs.State.{IsGroup}
use Rattle.model_group.proofs.Changing.{still_ready, commits}
use Rattle.model_group.proofs.Grouping.{put_back, lent_back, group_committed}
use Rattle.model_group.proofs.Losses.{has_doc-one, none_before}
use Rattle.model_group.proofs.group.Group.commit.Goals as goal
use Rattle.model_group.proofs.group.Group.commit.Goals.{After-commit_step}

pub lose_redo-requires-clause-spared : goal.lose_redo-requires-clause-spared
lose_redo-requires-clause-spared c = subst (λ spared. has_doc spared c.args.one.doc ≡ true) (sym c.one.ensures) (has_doc-one c.args.one.doc)

pub lose_redo-requires-clause-next : goal.lose_redo-requires-clause-next
lose_redo-requires-clause-next c = none_before _ _ _ _ (subst IsGroup (sym c.as_mut_slice-models.ensures.value) c.self.invariant)

pub commit_step-requires : goal.commit_step-requires
commit_step-requires c = record {
  count = c.lose_redo.ensures.count ∙ ap length c.as_mut_slice-models.ensures.value ∙ c.self.invariant.count;
  ready = still_ready _ _ _ _ (c.as_mut_slice-models.ensures.value ∙ c.self.view_is) _ c.one.ensures c.lose_redo.ensures (CanIn c.args.manner) c.requires.ready;
}

done : (c : After-commit_step) → Commits (acts_in c.args.manner) c.args.one c.args.self.now
    (put_back c.self.inside.models.items c.self.inside.models.len c.commit_step.new.models)
done c =
    let models = c.self.inside.models in
    let back = lent_back models.items c.commit_step.new.models models.len (omega (arith, models.ok.0))
    (omega (arith, c.commit_step.auto.models, c.lose_redo.auto.models, ap length c.as_mut_slice-models.ensures.value)) in
    subst (Commits (acts_in c.args.manner) c.args.one c.args.self.now) (sym back)
    (commits _ _ _ _ (c.as_mut_slice-models.ensures.value ∙ c.self.view_is) _ c.one.ensures c.lose_redo.ensures (acts_in c.args.manner) _ c.commit_step.ensures)

pub returns : goal.returns
returns c = done (goal.at.returns c).After-commit_step

pub invariant_of-self : goal.invariant_of-self
invariant_of-self c =
    group_committed c.args.manner c.args.one c.args.self.now _ (subst IsGroup c.self.view_is c.self.invariant) c.requires.ready.there c.requires.change
    (done (goal.at.invariant_of-self c).After-commit_step)
