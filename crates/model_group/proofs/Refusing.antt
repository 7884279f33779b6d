-- Which refusal is told of a joint edit.
use Rattle.std.proofs.Common.{◌≡◌, ◌||◌, nat_le, Bool, true, false, if◌then◌else◌, List, [], ◌∷◌, ◌++◌, Option, Some, None, Result, Ok, Err, refl, ap, ◌∙◌}
use Rattle.std.proofs.Math.Bool.{or-false}
use Rattle.std.proofs.lemmas.Bool.{or_left, or_right, or_from}
use Rattle.std.proofs.lemmas.List.Folds.{list_any-append}
use Rattle.text_rules.specs.declared.Op.{Op}
use Rattle.batch_rules.specs.Refusals.{BatchRefusal}
use Rattle.batch_rules.specs.Refusals as refused
use Rattle.batch_rules.specs.Batches.{checked_batch}
use Rattle.document_rules.specs.declared.ModelError.{ModelError}
use Rattle.document_rules.specs.declared.ModelError.TheVariants.{Unknown, Range, Overlap, Limit, Memory}
use Rattle.document_rules.specs.Refusals.{FlatRefusal, unknown, range, overlap, limit}
use Rattle.document_rules.specs.Outcomes.{RefusedFor}
use Rattle.document_rules.specs.Document.{greatest_version, FlatState, after_batch, edited_by, flat_edit}
use Rattle.group_rules.specs.Outcomes.{IsRefusedFor}
use Rattle.group_rules.specs.Group.{FlatGroup, doc_in}
use Rattle.group_rules.specs.Joint.{FlatBatch, docs_of, names_badly, is_refused_for, some_refused, joint_refusal, joined, unless_refused, group_joint}
use Rattle.model_group.specs.Errors.{group_error_of}
use Rattle.model_group.specs.Prepared.{first_of, Told, IsFirstOf}

-- ---- one batch

at_limit : (refused : Bool) (new : FlatState) → (if refused then Err limit else Ok new) ≡ Err unknown → ⊥
at_limit true new is = absurd cc
at_limit false new is = absurd cc

never_unknown : (f : FlatState) (answer : Result (List Op) BatchRefusal) → edited_by f answer ≡ Err unknown → ⊥
never_unknown f (Err refused.range) is = absurd cc
never_unknown f (Err why) is = absurd cc
never_unknown f (Ok ops) is = at_limit (nat_le greatest_version f.version) (after_batch f ops) is

-- what the batch is refused for is told of it
told_of_one : (f : FlatState) (ops : List Op) (e : ModelError) → RefusedFor e (flat_edit f ops)
    → Told (is_refused_for range (flat_edit f ops)) (is_refused_for overlap (flat_edit f ops)) (is_refused_for limit (flat_edit f ops)) (Some e)
told_of_one f ops Unknown why = absurd (never_unknown f (checked_batch f.kind f.units ops) why)
told_of_one f ops Range why = rw why refl
told_of_one f ops Overlap why = rw why (refl, refl)
told_of_one f ops Limit why = rw why (refl, refl, refl)
told_of_one f ops Memory why = tt

-- ---- one more

-- the first of two refusals is that of both
both_told : (bad crossed large also_bad also_crossed also_large : Bool) (refusal : Option ModelError) (e : ModelError)
    → Told bad crossed large refusal
    → Told also_bad also_crossed also_large (Some e)
    → Told (bad || also_bad) (crossed || also_crossed) (large || also_large) (Some (first_of refusal e))
both_told b c l x y z refusal Unknown h k = absurd k
both_told b c l x y z (Some Unknown) e h k = absurd h
both_told b c l x y z refusal Memory h k = tt
both_told b c l x y z (Some Memory) e h k = tt
both_told b c l x y z (Some Range) e h k = or_left b x h
both_told b c l x y z refusal Range h k = or_right b x k
both_told b c l x y z (Some Overlap) e h k = (or_from b x h.0 k.0, or_left c y h.1)
both_told b c l x y z None Overlap h k = (or_from b x h.0 k.0, or_right c y k.1)
both_told b c l x y z (Some Limit) Overlap h k = (or_from b x h.0 k.0, or_right c y k.1)
both_told b c l x y z None Limit h k = (or_from b x h.0 k.0, or_from c y h.1 k.1, or_right l z k.2)
both_told b c l x y z (Some Limit) Limit h k = (or_from b x h.0 k.0, or_from c y h.1 k.1, or_left l z h.2)

module _ (g : FlatGroup) (batches : List FlatBatch) (b : FlatBatch) where
  one_more_refused : (why : FlatRefusal)
      → some_refused why g (batches ++ b ∷ []) ≡ (some_refused why g batches || is_refused_for why (flat_edit (doc_in g b.doc) b.ops))
  one_more_refused why =
      list_any-append (λ (b : FlatBatch). is_refused_for why (flat_edit (doc_in g b.doc) b.ops)) batches (b ∷ [])
      ∙ ap (λ t. some_refused why g batches || t) (or-false (is_refused_for why (flat_edit (doc_in g b.doc) b.ops)))

  pub more_refused : (refusal : Option ModelError) (e : ModelError) → IsFirstOf g batches refusal → RefusedFor e (flat_edit (doc_in g b.doc) b.ops)
      → IsFirstOf g (batches ++ b ∷ []) (Some (first_of refusal e))
  more_refused refusal e told why =
      rw (one_more_refused range, one_more_refused overlap, one_more_refused limit)
      (both_told _ _ _ _ _ _ refusal e told (told_of_one (doc_in g b.doc) b.ops e why))

  pub more_accepted : (refusal : Option ModelError) (new : FlatState) → IsFirstOf g batches refusal → flat_edit (doc_in g b.doc) b.ops ≡ Ok new
      → IsFirstOf g (batches ++ b ∷ []) refusal
  more_accepted refusal new told is =
      let same : (why : FlatRefusal) → some_refused why g (batches ++ b ∷ []) ≡ some_refused why g batches = λ why.
      one_more_refused why ∙ ap (λ answer. some_refused why g batches || is_refused_for why answer) is ∙ or-false (some_refused why g batches) in
      rw (same range, same overlap, same limit) told

-- ---- of all batches

told_refused : (bad crossed large : Bool) (new : FlatGroup) (e : ModelError) → Told bad crossed large (Some e)
    → IsRefusedFor (group_error_of e)
    (unless_refused new (if bad then Some range else (if crossed then Some overlap else (if large then Some limit else None))))
told_refused b c l new Unknown told = absurd told
told_refused b c l new Range told = rw told refl
told_refused b c l new Overlap told = rw (told.0, told.1) refl
told_refused b c l new Limit told = rw (told.0, told.1, told.2) refl
told_refused b c l new Memory told = tt

module _ (g : FlatGroup) (batches : List FlatBatch) (good : names_badly (docs_of batches) ≡ false) where
  pub joint_refused : (e : ModelError) → IsFirstOf g batches (Some e) → IsRefusedFor (group_error_of e) (group_joint g batches)
  joint_refused e told = rw good (told_refused _ _ _ (joined g batches) e told)

  pub joint_accepted : IsFirstOf g batches None → joint_refusal g batches ≡ None
  joint_accepted told = rw (good, told.0, told.1, told.2) refl
