use Rattle.std.proofs.Common.{◌≡◌, ◌<◌, ◌∷◌, [], ◌++◌, inl, inr, List, map, length, Option, Some, None, Err, refl, sym, ap, ◌∙◌, subst, append_assoc, append-nil, arith}
use Rattle.std.proofs.lemmas.Grind.{common_steps}
use Rattle.std.proofs.lemmas.List.{map-append}
use Rattle.std.proofs.lemmas.Result.{err_from_is_err_and}
use Rattle.std.specs.List.{All}
use Rattle.std.specs.Vec.Iter.{into_iter_items}
use Rattle.text_rules.specs.declared.Op.{Op}
use Rattle.document_rules.specs.declared.ModelError.{ModelError}
use Rattle.group_rules.specs.declared.DocBatch.{DocBatch}
use Rattle.group_rules.specs.declared.TheConstants.{DOC_COUNT}
use Rattle.group_rules.specs.Group.{doc_in}
use Rattle.group_rules.specs.Joint.{FlatBatch, flat_batch}
use Rattle.model_group.specs.State.{documents}
use Rattle.script_lines.specs.declared.request.DocEdit.{DocEdit}
use Rattle.session_rules.specs.Step.{ops_at, batches_at}
use Rattle.sessions.specs.Bytes.{AreFound}
use Rattle.sessions.specs.Joint.{AreBatchesFound}
use Rattle.sessions.proofs.JointLemmas.{all_at, batches_at-more, batches_at-refused}
use Rattle.sessions.proofs.joint_replies.batches_at.Goals as goal

nothing_left : (edits : List DocEdit) → length edits ≡ 0 → edits ≡ []
nothing_left [] none = refl
nothing_left (edit ∷ edits) none = absurd (omega arith)

pub loop-edit-init : goal.loop-edit-init
loop-edit-init c = record {
  all = c.into_iter-edit-iterator.ensures.into_iter_gives.0 ∙ c.into_vec-edits.ensures;
  len = grind (arith, common_steps);
  found = grind (arith, common_steps);
  same = refl;
}

pub ops_at-requires : goal.ops_at-requires
ops_at-requires c =
    let steps : into_iter_items c.loop-edit.edit-iterator ≡ c.in-Some.edit ∷ into_iter_items c.next.new.self = c.in-Some.ensures.steps.0 in
    let there = λ (edit : DocEdit). edit.doc < DOC_COUNT in
    all_at there c.loop-edit.yielded c.in-Some.edit (into_iter_items c.next.new.self)
    (subst (All there) (sym c.loop-edit.invariant.all ∙ ap (λ rest. c.loop-edit.yielded ++ rest) steps) c.requires)

-- what refuses the ops of one batch refuses all batches
unfound : (e : ModelError) (rule : Option (List Op)) (rule' : Option (List FlatBatch)) → (rule ≡ None → rule' ≡ None) → AreFound (Err e) rule → AreBatchesFound (Err e) rule'
unfound e rule rule' on (inl memory) = inl memory
unfound e rule rule' on (inr range) = inr (range.0, on range.1)

pub returns-in_err-ops-clause-found : goal.returns-in_err-ops-clause-found
returns-in_err-ops-clause-found c =
    let g = documents c.args.group.now in
    let edit = c.in-Some.edit in
    let steps : into_iter_items c.loop-edit.edit-iterator ≡ edit ∷ into_iter_items c.next.new.self = c.in-Some.ensures.steps.0 in
    let all = ap (batches_at g) (sym c.loop-edit.invariant.all ∙ ap (λ rest. c.loop-edit.yielded ++ rest) steps) in
    let p = err_from_is_err_and c.from_residual-in_err-ops.result c.from_residual-in_err-ops.ensures.1 in
    rw (p.1, p.2) (unfound c.in_err-ops.field-0.0 (ops_at (doc_in (documents c.loop-edit.group) edit.doc) edit.ops) (batches_at g c.args.edits)
    (λ none. all ∙ batches_at-refused g c.loop-edit.yielded edit (into_iter_items c.next.new.self)
    (ap (λ s. ops_at (doc_in (documents s) edit.doc) edit.ops) (sym c.loop-edit.invariant.same) ∙ none)) c.in_err-ops.ensures.found)

pub returns-in_err-ops-clause-same : goal.returns-in_err-ops-clause-same
returns-in_err-ops-clause-same c = c.in_err-ops.ensures.same ∙ c.loop-edit.invariant.same

pub loop-edit-preserved : goal.loop-edit-preserved
loop-edit-preserved c =
    let g = documents c.args.group.now in
    let edit = c.in-Some.edit in
    let ops = c.in_ok-ops.ops in
    let steps : into_iter_items c.loop-edit.edit-iterator ≡ edit ∷ into_iter_items c.next.new.self = c.in-Some.ensures.steps.0 in
    let here : ops_at (doc_in g edit.doc) edit.ops ≡ Some ops.items =
    ap (λ s. ops_at (doc_in (documents s) edit.doc) edit.ops) (sym c.loop-edit.invariant.same) ∙ c.in_ok-ops.ensures.found in
    let batch : DocBatch = record { doc = edit.doc; ops = ops } in
    let pushed : c.push.new.self.items ≡ c.loop-edit.batches.items ++ batch ∷ [] = grind (arith, common_steps) in
    let gone = c.in-Some.ensures.steps.1 in
    let short = ap length steps in
    record {
      all = append_assoc c.loop-edit.yielded (edit ∷ []) _ ∙ ap (λ rest. c.loop-edit.yielded ++ rest) (sym steps) ∙ c.loop-edit.invariant.all;
      len = omega (arith, c.loop-edit.invariant.len, gone, short);
      found = batches_at-more g c.loop-edit.yielded edit (map flat_batch c.loop-edit.batches.items) ops.items c.loop-edit.invariant.found here
          ∙ ap Some (sym (ap (map flat_batch) pushed ∙ map-append flat_batch c.loop-edit.batches.items (batch ∷ [])));
      same = c.ops_at.ensures.same ∙ c.loop-edit.invariant.same;
    }

pub returns-clause-found : goal.returns-clause-found
returns-clause-found c =
    let g = documents c.args.group.now in
    let empty : into_iter_items c.loop-edit.edit-iterator ≡ [] = nothing_left _ (sym c.loop-edit.invariant.len ∙ c.in-None.ensures.steps.0) in
    let all = sym (append-nil c.loop-edit.yielded) ∙ ap (λ rest. c.loop-edit.yielded ++ rest) (sym empty) ∙ c.loop-edit.invariant.all in
    sym (ap (batches_at g) all) ∙ c.loop-edit.invariant.found
