use Rattle.std.proofs.Common.{◌≡◌, ℕ, List, [], ◌∷◌, length, drop, refl, sym, ◌∙◌, ap, map, arith}
use Rattle.std.proofs.lemmas.Grind.{common_steps}
use Rattle.std.proofs.lemmas.List.{drop_all}
use Rattle.group_rules.specs.Joint.{flat_batch}
use Rattle.textmodel_c.specs.JointOps.{batches_from}
use Rattle.textmodel_c.proofs.BatchLemmas.{all_have_ops}
use Rattle.textmodel_c.proofs.joint.batches_of.Goals as goal

no_more : (xs : List ℕ) → length xs ≡ 0 → xs ≡ []
no_more [] none = refl
no_more (x ∷ xs) none = absurd (omega (arith, none))

pub returns-clause-some : goal.returns-clause-some
returns-clause-some c =
    let empty : length c.loop-op.rest.now ≡ 0 = grind (arith, common_steps, c.is_empty.ensures, c.if-not-is_empty.false) in
    let end = drop_all c.loop-op.op-index c.args.ops.now (omega (arith, c.loop-op-test.false)) in
    let found = map flat_batch c.loop-op.batches.items in
    all_have_ops c.args.ops.now c.args.text.now c.loop-op.batches.items
    (sym c.loop-op.invariant ∙ ap (λ ops. batches_from found ops c.loop-op.rest.now) end ∙ ap (batches_from found []) (no_more c.loop-op.rest.now empty))
