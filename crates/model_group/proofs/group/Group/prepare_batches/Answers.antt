use Rattle.std.proofs.Common.{◌≡◌, ◌∷◌, [], ◌++◌, List, false, nat_le, map, length, Some, subst, ap, sym, ◌∙◌, append_assoc, arith}
use Rattle.std.proofs.lemmas.Grind.{common_steps}
use Rattle.std.proofs.lemmas.List.{map-append}
use Rattle.std.proofs.lemmas.Bool.{or_parts, leb-false}
use Rattle.group_rules.specs.declared.TheConstants.{DOC_COUNT}
use Rattle.std.specs.Vec.Iter.{into_iter_items, into_iter_len}
use Rattle.group_rules.specs.Joint.{FlatBatch, flat_batch}
use Rattle.model_group.specs.declared.ready.DocReady.{DocReady}
use Rattle.model_group.specs.State.{documents}
use Rattle.model_group.specs.Prepared.{AreBatchesReady, IsFirstOf}
use Rattle.model_group.proofs.Naming.{is_bad, batch_fine}
use Rattle.model_group.proofs.Committing.{keep_then, kept_all}
use Rattle.model_group.proofs.Joining.{prepared_more, accepted_more, refused_more, unless_told}
use Rattle.model_group.proofs.group.Group.prepare_batches.Goals as goal
use Rattle.model_group.proofs.group.Group.prepare_batches.Goals.{In-Some}

steps : (c : In-Some) → into_iter_items c.loop-batch.batch-iterator ≡ c.in-Some.batch ∷ into_iter_items c.next.new.self
steps c = c.in-Some.ensures.steps.0

whole : (c : In-Some) → c.loop-batch.yielded ++ c.in-Some.batch ∷ into_iter_items c.next.new.self ≡ c.args.batches.items
whole c = ap (λ rest. c.loop-batch.yielded ++ rest) (sym (steps c)) ∙ c.loop-batch.invariant.all

count : (c : In-Some) → into_iter_len c.next.new.self ≡ length (into_iter_items c.next.new.self)
count c = omega (arith, c.loop-batch.invariant.len, c.in-Some.ensures.steps.1, ap length (steps c))

fine : (c : In-Some) → is_bad c.in-Some.batch.doc (map flat_batch c.loop-batch.yielded) ≡ false
fine c = batch_fine c.loop-batch.yielded c.in-Some.batch (into_iter_items c.next.new.self) c.args.batches.items (whole c) c.requires

pub prepare_batch-requires : goal.prepare_batch-requires
prepare_batch-requires c =
    let n = c.in-Some.batch.doc in leb-false DOC_COUNT n (or_parts (nat_le DOC_COUNT n) _ (fine (goal.at.prepare_batch-requires c).In-Some)).0

pub loop-batch-preserved-in-Continue-branch-2 : goal.loop-batch-preserved-in-Continue-branch-2
loop-batch-preserved-in-Continue-branch-2 c =
    let at = (goal.at.loop-batch-preserved-in-Continue-branch-2 c).In-Some in
    let xs = c.loop-batch.yielded in
    let b : FlatBatch = flat_batch c.in-Some.batch in
    let old = c.loop-batch.self in
    let new = c.prepare_batch.new.self in
    let r : DocReady = record { doc = b.doc; ready = c.in-Ok.one } in
    let more = map-append flat_batch xs (c.in-Some.batch ∷ []) in
    let pushed : c.push.new.self.items ≡ c.loop-batch.ready.items ++ r ∷ [] = grind (arith, common_steps) in
    record {
      all = append_assoc xs (c.in-Some.batch ∷ []) _ ∙ whole at;
      len = count at;
      kept = keep_then c.args.self.now old new c.loop-batch.invariant.kept (kept_all b.doc _ old new c.in-Ok.ensures);
      ready = unless_told c.loop-batch.refusal
          (λ h. subst (λ (batches : List FlatBatch). AreBatchesReady new batches c.push.new.self.items) (sym more)
          (subst (λ (ready : List DocReady). AreBatchesReady new (map flat_batch xs ++ b ∷ []) ready) (sym pushed)
          (prepared_more b c.in-Ok.one old new c.in-Ok.ensures (map flat_batch xs) c.loop-batch.ready.items (fine at) h)))
          c.loop-batch.invariant.ready;
      first = subst (λ (batches : List FlatBatch). IsFirstOf (documents c.args.self.now) batches c.loop-batch.refusal) (sym more)
          (accepted_more b c.in-Ok.one old new c.in-Ok.ensures (documents c.args.self.now) (map flat_batch xs) c.loop-batch.refusal
          c.loop-batch.invariant.kept.documents c.loop-batch.invariant.first);
    }

pub returns-in_err-map_err-in-Ok-clause-kept : goal.returns-in_err-map_err-in-Ok-clause-kept
returns-in_err-map_err-in-Ok-clause-kept c =
    keep_then c.args.self.now c.loop-batch.self c.prepare_batch.new.self c.loop-batch.invariant.kept
    (kept_all c.in-Some.batch.doc _ c.loop-batch.self c.prepare_batch.new.self c.in-Ok.ensures)

pub loop-batch-preserved : goal.loop-batch-preserved
loop-batch-preserved c =
    let at = (goal.at.loop-batch-preserved c).In-Some in
    let xs = c.loop-batch.yielded in
    let b : FlatBatch = flat_batch c.in-Some.batch in
    let old = c.loop-batch.self in
    let new = c.prepare_batch.new.self in
    let more = map-append flat_batch xs (c.in-Some.batch ∷ []) in
    record {
      all = append_assoc xs (c.in-Some.batch ∷ []) _ ∙ whole at;
      len = count at;
      kept = keep_then c.args.self.now old new c.loop-batch.invariant.kept (kept_all b.doc _ old new c.in-Err.ensures);
      ready = tt;
      first = subst (λ (batches : List FlatBatch). IsFirstOf (documents c.args.self.now) batches (Some c.first_of.result)) (sym more)
          (subst (λ e. IsFirstOf (documents c.args.self.now) (map flat_batch xs ++ b ∷ []) (Some e)) (sym c.first_of.ensures)
          (refused_more b c.in-Err.error old new c.in-Err.ensures (documents c.args.self.now) (map flat_batch xs) c.loop-batch.refusal
          c.loop-batch.invariant.kept.documents c.loop-batch.invariant.first));
    }
