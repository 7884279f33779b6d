use Rattle.std.proofs.Common.{◌<◌, length, map, refl, sym, subst, ap, ◌∙◌, arith}
use Rattle.std.proofs.lemmas.Grind.{common_steps}
use Rattle.std.proofs.lemmas.List.Elements.{All-map}
use Rattle.group_rules.specs.Joint.{FlatBatch, flat_batch, tag_of}
use Rattle.model_group.specs.State.{documents}
use Rattle.model_group.specs.Prepared.{AreBatchesReady}
use Rattle.group_rules.proofs.Together.{joint_others_stay, joint_all_go_on}
use Rattle.model_group.proofs.Lists.{length-documents}
use Rattle.model_group.proofs.Committing.{keep_same}
use Rattle.model_group.proofs.Losses.{lost_as}
use Rattle.model_group.proofs.Grouping.{put_back, lent_back, group_before, group_joined}
use Rattle.model_group.proofs.Changing.{all_stay}
use Rattle.model_group.proofs.Naming.{HaveSet}
use Rattle.model_group.proofs.Joining.{IsJoined, refused_models, all_spared, all_left, all_joined}
use Rattle.model_group.proofs.group.Group.joint.Goals as goal
use Rattle.model_group.proofs.group.Group.joint.Goals.{After-commit_all}

pub lose_redo_of-requires-clause-each : goal.lose_redo_of-requires-clause-each
lose_redo_of-requires-clause-each c =
    let batches = map flat_batch c.args.batches.items in
    let have : HaveSet batches c.in_ok-members.members = record { named = grind (arith, common_steps); set = grind (arith, common_steps) } in
    all_spared batches c.deref-3.result.now c.prepare_batches.new.self c.in_ok-members.members have
    (subst (AreBatchesReady c.prepare_batches.new.self batches) (sym c.deref-3.ensures.value) c.in_ok-ready.ensures.ready)

pub commit_all-requires-clause-apart : goal.commit_all-requires-clause-apart
commit_all-requires-clause-apart c = c.in_ok-ready.ensures.ready.all.apart

pub commit_all-requires-clause-each : goal.commit_all-requires-clause-each
commit_all-requires-clause-each c =
    let batches = map flat_batch c.args.batches.items in
    let have : HaveSet batches c.in_ok-members.members = record { named = grind (arith, common_steps); set = grind (arith, common_steps) } in
    all_left _ batches _ _ _ _ have (lost_as c.in_ok-ready.ready.items _ _ _ _ _ c.deref-3.ensures.value
    (c.as_mut_slice-models.ensures.value ∙ c.self.view_is) c.lose_redo_of.ensures) c.in_ok-ready.ensures.ready

joined : (c : After-commit_all) → IsJoined (map flat_batch c.args.batches.items) c.args.self.now
    (put_back c.self.inside.models.items c.self.inside.models.len c.commit_all.new.models)
joined c =
    let batches = map flat_batch c.args.batches.items in
    let have : HaveSet batches c.in_ok-members.members = record { named = grind (arith, common_steps); set = grind (arith, common_steps) } in
    let models = c.self.inside.models in
    let tag_is = c.tag_of-tag.ensures ∙ ap (λ xs. tag_of (documents c.args.self.now) (map flat_batch xs)) c.deref-2.ensures.value in
    let back = lent_back models.items c.commit_all.new.models models.len (omega (arith, models.ok.0))
    (omega (arith, c.commit_all.auto.models, c.lose_redo_of.auto.models, ap length c.as_mut_slice-models.ensures.value)) in
    subst (IsJoined batches c.args.self.now) (sym back)
    (all_joined batches c.in_ok-ready.ready.items c.in_ok-members.members c.tag_of-tag.result c.args.self.now c.prepare_batches.new.self
    c.lose_redo_of.new.models c.commit_all.new.models have (All-map (λ (b : FlatBatch). 0 < length b.ops) flat_batch c.args.batches.items c.requires.some)
    tag_is c.in_ok-ready.ensures.kept c.in_ok-ready.ensures.ready (lost_as c.in_ok-ready.ready.items _ _ _ _ _ c.deref-3.ensures.value
    (c.as_mut_slice-models.ensures.value ∙ c.self.view_is) c.lose_redo_of.ensures) c.commit_all.ensures c.in_ok-ready.ensures.accepted)

pub returns : goal.returns
returns c =
    let is = joined (goal.at.returns c).After-commit_all in
    record {
      documents = is.documents;
      models = is.models;
      stay = joint_others_stay _ _ _ is.documents;
      all = joint_all_go_on _ _ _ (length-documents c.args.self.now ∙ c.in_ok-ready.ensures.count) is.documents
          (All-map (λ (b : FlatBatch). 0 < length b.ops) flat_batch c.args.batches.items c.requires.some);
    }

pub invariant_of-self : goal.invariant_of-self
invariant_of-self c =
    let before = group_before c.args.self.now c.prepare_batches.new.self c.self.inside.models.items c.self.invariant c.self.view_is
    c.in_ok-ready.ensures.kept.documents in
    group_joined (map flat_batch c.args.batches.items) c.args.self.now _ before
    (All-map (λ (b : FlatBatch). 0 < length b.ops) flat_batch c.args.batches.items c.requires.some)
    (joined (goal.at.invariant_of-self c).After-commit_all).documents

pub returns-in_err-members-clause-models : goal.returns-in_err-members-clause-models
returns-in_err-members-clause-models c =
    refused_models _ c.from_residual.result c.args.self.now c.args.self.now c.from_residual.ensures.0 (keep_same c.args.self.now).parses

pub returns-in_err-members-clause-stay : goal.returns-in_err-members-clause-stay
returns-in_err-members-clause-stay c = all_stay _ (documents c.args.self.now) (documents c.args.self.now) refl

pub returns-in_err-ready-clause-models : goal.returns-in_err-ready-clause-models
returns-in_err-ready-clause-models c =
    refused_models _ c.from_residual-in_err-ready.result c.args.self.now c.prepare_batches.new.self c.from_residual-in_err-ready.ensures.0
    c.in_err-ready.ensures.kept.parses

pub returns-in_err-ready-clause-stay : goal.returns-in_err-ready-clause-stay
returns-in_err-ready-clause-stay c = all_stay _ (documents c.args.self.now) (documents c.prepare_batches.new.self) c.in_err-ready.ensures.kept.documents
