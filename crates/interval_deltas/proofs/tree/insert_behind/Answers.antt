use Rattle.std.proofs.Common.{◌∷◌, ◌++◌, subst}
use Rattle.interval_deltas.specs.Weave.{is_mark}
use Rattle.interval_deltas.specs.Kept.{AreMarks}
use Rattle.interval_deltas.proofs.Items.{each_left, each_right, each_both, sum_low}
use Rattle.interval_deltas.proofs.tree.insert_behind.Goals as goal

pub insert_after-requires-clause-sum : goal.insert_after-requires-clause-sum
insert_after-requires-clause-sum c = λ us x vs is.
    let id = c.in-Some.id in let all = subst AreMarks is c.requires.values in let rest = each_right is_mark us ((id, x) ∷ vs) all in
    sum_low (us ++ (id, x) ∷ (0, c.args.mark) ∷ vs) (each_both is_mark us ((id, x) ∷ (0, c.args.mark) ∷ vs) (each_left is_mark us ((id, x) ∷ vs) all) (rest.0, (c.requires.value, rest.1)))

pub insert_first-requires-clause-sum : goal.insert_first-requires-clause-sum
insert_first-requires-clause-sum c = sum_low ((0, c.args.mark) ∷ c.args.tree.now.items) (c.requires.value, c.requires.values)
