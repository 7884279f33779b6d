use Rattle.std.proofs.Common.{◌≡◌, ltb, subst, rules}
use Rattle.std.specs.List.{IsAllAdjacentAnswer}
use Rattle.std.specs.List.Sorted.{IsPermutation}
use Rattle.std.proofs.lemmas.List.Sorted.{answers_always, IsNonDecreasingBy-from_sort}
use Rattle.textmodel_c.proofs.Repeats.{has_repeat-sorted}
use Rattle.textmodel_c.proofs.faults.has_repeat.Goals as goal

pub returns : goal.returns
returns c =
    has_repeat-sorted c.args.ids.now c.sort_unstable.new.self.items c.is_sorted_by.result
    (subst (λ xs. IsPermutation xs c.sort_unstable.new.self.items) c.in_ok-sorted.ensures.items c.sort_unstable.ensures.permutation)
    (IsNonDecreasingBy-from_sort (λ n. n) c.sort_unstable.new.self.items c.sort_unstable.ensures.sorted)
    (subst (λ xs. IsAllAdjacentAnswer (λ x y b. b ≡ ltb x y) xs c.is_sorted_by.result) c.deref.ensures.value
    (c.is_sorted_by.ensures.cases ltb (answers_always _ _ _ (λ f a r g h. search rules))))
