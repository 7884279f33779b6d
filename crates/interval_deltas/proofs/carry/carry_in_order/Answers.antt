use Rattle.std.proofs.Common.{◌≡◌, ℕ, ℤ, List, w64, to_z, of_z, refl, sym, ◌∙◌, ap, subst, arith}
use Rattle.std.specs.List.Sorted.{IsPermutation}
use Rattle.std.proofs.lemmas.Int.{ints}
use Rattle.std.proofs.lemmas.List.Sorted.{IsPermutation-refl}
use Rattle.decoration_rules.specs.declared.LineMove.{LineMove}
use Rattle.decoration_rules.specs.Lines.{carried_mark}
use Rattle.interval_deltas.specs.declared.weave.KeptMark.{KeptMark}
use Rattle.interval_deltas.specs.Carrier.{Carried}
use Rattle.interval_deltas.specs.Kept.{AreMarks, changed_items}
use Rattle.interval_deltas.specs.Sorting.{CrossIn}
use Rattle.interval_deltas.proofs.Trees.{lengths_changed, distinct_all_changed}
use Rattle.interval_deltas.proofs.WithLines.{carried_is, carried_marks, values_carried, cross_carried}
use Rattle.interval_deltas.proofs.carry.carry_in_order.Goals as goal

abbrev own : ℤ → ℤ
own z = to_z w64 (of_z w64 z)

abbrev lines_of : Carried → List LineMove
lines_of v = v.lines

same : (lines : List LineMove) (old new : List (ℕ × KeptMark)) → new ≡ changed_items (carried_mark lines) old → IsPermutation (changed_items (carried_mark lines) old) new
same lines old new is = subst (IsPermutation (changed_items (carried_mark lines) old)) (sym is) (IsPermutation-refl (changed_items (carried_mark lines) old))

pub rewrite-requires : goal.rewrite-requires
rewrite-requires c = record { values = values_carried c.args.moves.now c.requires.lines c.new-carrier.result c.args.tree.now.items (ap lines_of c.new-carrier.ensures) c.requires.values }

pub sort_in-requires-clause-count : goal.sort_in-requires-clause-count
sort_in-requires-clause-count c =
    let lines = c.args.moves.now in let old = c.args.tree.now.items in let new = c.rewrite.new.self.items in
    let is = c.rewrite.ensures.items ∙ carried_is lines c.requires.lines c.new-carrier.result old (ap lines_of c.new-carrier.ensures) in
    c.requires.count ∙ sym (lengths_changed (carried_mark lines) (λ _. refl) old new (same lines old new is))

pub sort_in-requires-clause-values : goal.sort_in-requires-clause-values
sort_in-requires-clause-values c =
    let lines = c.args.moves.now in let old = c.args.tree.now.items in
    let is = c.rewrite.ensures.items ∙ carried_is lines c.requires.lines c.new-carrier.result old (ap lines_of c.new-carrier.ensures) in
    subst AreMarks (sym is) (carried_marks lines c.requires.lines old c.requires.values)

pub sort_in-requires-clause-distinct : goal.sort_in-requires-clause-distinct
sort_in-requires-clause-distinct c =
    let lines = c.args.moves.now in let old = c.args.tree.now.items in let new = c.rewrite.new.self.items in
    let is = c.rewrite.ensures.items ∙ carried_is lines c.requires.lines c.new-carrier.result old (ap lines_of c.new-carrier.ensures) in
    distinct_all_changed (carried_mark lines) (λ _. refl) old new (same lines old new is) c.requires.distinct

pub sort_in-requires-clause-cross : goal.sort_in-requires-clause-cross
sort_in-requires-clause-cross c =
    let lines = c.args.moves.now in let old = c.args.tree.now.items in
    let is = c.rewrite.ensures.items ∙ carried_is lines c.requires.lines c.new-carrier.result old (ap lines_of c.new-carrier.ensures) in
    let cross = cross_carried lines c.requires.lines c.new-carrier.result c.rewrite.new.how old (ap lines_of c.new-carrier.ensures) c.rewrite.ensures.onward c.requires.values c.requires.ordered in
    let after = c.rewrite.new.how in
    let first : own c.crossed-first.result.0 ≡ after.first = omega (arith, ints, c.crossed-first.ensures.first, c.crossed-first.type_inv) in
    let last : own c.crossed-first.result.1 ≡ after.last = omega (arith, ints, c.crossed-first.ensures.last, c.crossed-first.type_inv) in
    subst (λ l. CrossIn (own c.crossed-first.result.0) (own c.crossed-first.result.1) l) (sym is)
    (subst (λ z. CrossIn z (own c.crossed-first.result.1) (changed_items (carried_mark lines) old)) (sym first)
    (subst (λ z. CrossIn after.first z (changed_items (carried_mark lines) old)) (sym last) cross))

pub returns-clause-carried : goal.returns-clause-carried
returns-clause-carried c =
    let lines = c.args.moves.now in let old = c.args.tree.now.items in let new = c.rewrite.new.self.items in
    let is = c.rewrite.ensures.items ∙ carried_is lines c.requires.lines c.new-carrier.result old (ap lines_of c.new-carrier.ensures) in
    subst (λ l. IsPermutation l c.sort_in.new.tree.items) is c.sort_in.ensures.same
