use Rattle.std.proofs.Common.{◌≡◌, ◌<◌, ◌++◌, map, Ok, Err, sym, ap, ◌∙◌, subst, arith}
use Rattle.std.specs.List.{All}
use Rattle.std.proofs.lemmas.Result.{err_from_is_err_and}
use Rattle.group_rules.specs.declared.TheConstants.{DOC_COUNT}
use Rattle.group_rules.specs.Joint.{flat_batch, group_joint}
use Rattle.group_rules.specs.Outcomes.{ChangesAll}
use Rattle.model_group.specs.State.{documents}
use Rattle.script_lines.specs.declared.request.DocEdit.{DocEdit}
use Rattle.session_rules.specs.Step.{joint_reply}
use Rattle.sessions.proofs.JointLemmas.{found_some, all_there, edits_there, tells_badly, tells_unfound, tells_unjoined, tells_joined}
use Rattle.sessions.proofs.joint_replies.joint_reply.Goals as goal
use Rattle.sessions.proofs.joint_replies.joint_reply.Goals.{After-names_badly}

docs_are : (c : After-names_badly) → c.as_slice-2.result.now ≡ map (λ (edit : DocEdit). edit.doc) c.args.edits
docs_are c = c.as_slice-2.ensures.value ∙ c.in_ok-docs.ensures ∙ ap (map (λ (edit : DocEdit). edit.doc)) c.as_slice.ensures

pub returns-then-names_badly : goal.returns-then-names_badly
returns-then-names_badly c =
    tells_badly (documents c.args.group.now) c.args.edits c.as_slice-2.result.now (docs_are (goal.at.returns-then-names_badly c).After-names_badly)
    (sym c.names_badly.ensures ∙ c.if-names_badly.true)

pub batches_at-requires : goal.batches_at-requires
batches_at-requires c =
    let good = sym c.names_badly.ensures ∙ c.if-names_badly.false in
    edits_there c.args.edits
    (subst (All (λ n. n < DOC_COUNT)) (docs_are (goal.at.batches_at-requires c).After-names_badly) (all_there c.as_slice-2.result.now good))

pub returns-in_err-batches : goal.returns-in_err-batches
returns-in_err-batches c =
    let good = sym c.names_badly.ensures ∙ c.if-names_badly.false in
    let p = err_from_is_err_and c.from_residual-in_err-batches.result c.from_residual-in_err-batches.ensures.1 in
    rw (p.1, p.2) (tells_unfound (documents c.args.group.now) c.args.edits c.as_slice-2.result.now
    (docs_are (goal.at.returns-in_err-batches c).After-names_badly) good c.in_err-batches.field-0.0 (documents c.batches_at.new.group)
    (ap documents c.in_err-batches.ensures.same) c.in_err-batches.ensures.found)

pub joint-requires-clause-several : goal.joint-requires-clause-several
joint-requires-clause-several c =
    let found = found_some (documents c.args.group.now) c.args.edits c.in_ok-batches.batches.items c.in_ok-batches.ensures.found c.requires.some in
    omega (arith, found.0, c.requires.several)

pub joint-requires-clause-some : goal.joint-requires-clause-some
joint-requires-clause-some c =
    (found_some (documents c.args.group.now) c.args.edits c.in_ok-batches.batches.items c.in_ok-batches.ensures.found c.requires.some).1

pub returns-in_err-joint : goal.returns-in_err-joint
returns-in_err-joint c =
    let good = sym c.names_badly.ensures ∙ c.if-names_badly.false in
    let e = c.in_err-joint.field-0.0 in
    let batches = map flat_batch c.in_ok-batches.batches.items in
    let p = err_from_is_err_and c.from_residual-in_err-joint.result c.from_residual-in_err-joint.ensures.1 in
    rw (p.1, p.2) (tells_unjoined (documents c.args.group.now) c.args.edits c.as_slice-2.result.now
    (docs_are (goal.at.returns-in_err-joint c).After-names_badly) good batches e (documents c.joint.new.self) c.in_ok-batches.ensures.found
    (subst (λ s. ChangesAll (Err e) (documents s) (documents c.joint.new.self) (group_joint (documents s) batches)) c.in_ok-batches.ensures.same
    c.in_err-joint.ensures.documents))

pub tell_all-requires-clause-there : goal.tell_all-requires-clause-there
tell_all-requires-clause-there c =
    subst (All (λ n. n < DOC_COUNT)) (c.as_slice-2.ensures.value ∙ sym c.as_slice-3.ensures.value)
    (all_there c.as_slice-2.result.now (sym c.names_badly.ensures ∙ c.if-names_badly.false))

pub returns : goal.returns
returns c =
    let good = sym c.names_badly.ensures ∙ c.if-names_badly.false in
    let batches = map flat_batch c.in_ok-batches.batches.items in
    let new = documents c.joint.new.self in
    let docs = c.as_slice-2.result.now in
    tells_joined (documents c.args.group.now) c.args.edits docs (docs_are (goal.at.returns c).After-names_badly) good batches new _
    c.in_ok-batches.ensures.found
    (subst (λ s. group_joint (documents s) batches ≡ Ok new) c.in_ok-batches.ensures.same c.in_ok-joint.ensures.documents)
    (c.tell_all.ensures.told ∙ ap (λ x. x ++ joint_reply new c.as_slice-3.result.now) c.in_ok-reply.ensures.empty
    ∙ ap (joint_reply new) (c.as_slice-3.ensures.value ∙ sym c.as_slice-2.ensures.value))
