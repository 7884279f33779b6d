use Rattle.std.proofs.Common.{◌≡◌, ℕ, ◌+◌, ℤ, true, List, w64, to_z, of_z, refl, sym, ◌∙◌, subst, arith}
use Rattle.std.specs.List.Sorted.{IsPermutation}
use Rattle.std.proofs.lemmas.Int.{ints}
use Rattle.std.proofs.lemmas.List.Sorted.{IsPermutation-refl}
use Rattle.decoration_rules.specs.declared.Edit.{Edit}
use Rattle.decoration_rules.specs.Moves.{moved_mark}
use Rattle.interval_deltas.specs.declared.weave.KeptMark.{KeptMark}
use Rattle.interval_deltas.specs.Kept.{AreMarks, capped, moved_items}
use Rattle.interval_deltas.specs.Sorting.{CrossIn}
use Rattle.interval_deltas.proofs.Crossing.{ordered_from}
use Rattle.interval_deltas.proofs.MovedAll.{cross_moved}
use Rattle.interval_deltas.proofs.Moving.{moved_are}
use Rattle.interval_deltas.proofs.Trees.{lengths_changed, distinct_all_changed}
use Rattle.interval_deltas.proofs.accept.move_in_order.Goals as goal

abbrev own : ℤ → ℤ
own z = to_z w64 (of_z w64 z)

same : (edit : Edit) (old new : List (ℕ × KeptMark)) → new ≡ moved_items edit old → IsPermutation (moved_items edit old) new
same edit old new is = subst (IsPermutation (moved_items edit old)) (sym is) (IsPermutation-refl (moved_items edit old))

pub sort_in-requires-clause-count : goal.sort_in-requires-clause-count
sort_in-requires-clause-count c =
    let edit = c.args.edit.now in let old = c.args.tree.now.items in let new = c.move_all.new.tree.items in
    c.requires.count ∙ sym (lengths_changed (moved_mark edit) (λ _. refl) old new (same edit old new c.move_all.ensures.moved))

pub sort_in-requires-clause-values : goal.sort_in-requires-clause-values
sort_in-requires-clause-values c = subst AreMarks (sym c.move_all.ensures.moved) (moved_are c.args.edit.now c.args.tree.now.items c.requires.fits)

pub sort_in-requires-clause-distinct : goal.sort_in-requires-clause-distinct
sort_in-requires-clause-distinct c =
    let edit = c.args.edit.now in let old = c.args.tree.now.items in let new = c.move_all.new.tree.items in
    distinct_all_changed (moved_mark edit) (λ _. refl) old new (same edit old new c.move_all.ensures.moved) c.requires.distinct

pub sort_in-requires-clause-cross : goal.sort_in-requires-clause-cross
sort_in-requires-clause-cross c =
    let edit = c.args.edit.now in let old = c.args.tree.now.items in let bound = own c.capped-then-not-move_all.result in
    let offset : own c.capped.result ≡ capped edit.start = omega (arith, ints, c.capped.ensures) in
    let bound_is : own c.capped-then-not-move_all.result ≡ capped (edit.start + edit.units) = omega (arith, ints, c.capped-then-not-move_all.ensures, c.saturating_add-bound.ensures) in
    subst (CrossIn (own c.capped.result) bound) (sym c.move_all.ensures.moved)
    (subst (λ z. CrossIn z bound (moved_items edit old)) (sym offset) (cross_moved edit bound old c.requires.upright bound_is c.requires.values c.requires.fits c.requires.ordered))

pub returns-else-not-move_all-clause-ordered : goal.returns-else-not-move_all-clause-ordered
returns-else-not-move_all-clause-ordered c =
    let edit = c.args.edit.now in let old = c.args.tree.now.items in let new = c.move_all.new.tree.items in
    let seen : c.move_all.result ≡ true = search (c.if-not-move_all.false) in
    ordered_from new (c.move_all.ensures.sorted seen) (distinct_all_changed (moved_mark edit) (λ _. refl) old new (same edit old new c.move_all.ensures.moved) c.requires.distinct)

pub returns-else-not-move_all-clause-values : goal.returns-else-not-move_all-clause-values
returns-else-not-move_all-clause-values c = subst AreMarks (sym c.move_all.ensures.moved) (moved_are c.args.edit.now c.args.tree.now.items c.requires.fits)
