use Rattle.std.proofs.Common.{rules}
use Rattle.std.proofs.lemmas.List.Sorted.{answers_always}
use Rattle.batch_rules.specs.Batches.{stands_before}
use Rattle.edit_batches.proofs.Keys.{told_in_order, told_out_of_order}
use Rattle.edit_batches.proofs.order.are_in_order.Goals as goal

pub returns-clause-yes : goal.returns-clause-yes
returns-clause-yes c =
    let told = c.is_sorted_by.ensures.cases stands_before (answers_always _ _ _ (λ f a r f' h. search rules)) in
    told_in_order _ _ told

pub returns-clause-no : goal.returns-clause-no
returns-clause-no c =
    let told = c.is_sorted_by.ensures.cases stands_before (answers_always _ _ _ (λ f a r f' h. search rules)) in
    told_out_of_order _ _ told
