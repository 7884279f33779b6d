use Rattle.std.proofs.Common.{◌≡◌, ℕ, ◌≤◌, ℤ, ◌-ℤ◌, ◌++◌, pos, w64, to_z, of_z, FitsSigned, List, [], Option, ◌∙◌, sym, ap, subst, rules, arith}
use Rattle.std.proofs.lemmas.Int.{ints}
use Rattle.rb_rules.specs.Shifts.{shifted}
use Rattle.rb_arena.specs.Names.{HaveOwnNames}
use Rattle.rb_arena.specs.RbTree.{AtPlace}
use Rattle.decoration_rules.specs.declared.Edit.{Edit}
use Rattle.decoration_rules.specs.Moves.{removed}
use Rattle.interval_deltas.specs.declared.weave.KeptMark.{KeptMark}
use Rattle.interval_deltas.specs.Weave.{marks, is_mark}
use Rattle.interval_deltas.specs.Kept.{Each, AreMarks, CanFollow, CanFollowAfter, MovesNone, moved_items}
use Rattle.interval_deltas.proofs.Items.{each_left, each_right, each_both, sum_low}
use Rattle.interval_deltas.proofs.Lists.{same_after}
use Rattle.interval_deltas.proofs.Moving.{past_items, moved_are}
use Rattle.interval_deltas.proofs.Untouched.{follow_still}
use Rattle.interval_deltas.proofs.accept.shift_behind.Goals as goal

-- a property of the items after one position with that name holds after each such position
follow_at : (edit : Edit) (items : List (ℕ × KeptMark)) → HaveOwnNames items [] → (id : Option ℕ) → CanFollowAfter edit items id → AtPlace items id (λ us vs. CanFollow edit vs)
follow_at edit items names id (ws, (zs, split, follow)) us vs s = subst (CanFollow edit) (same_after items [] names id ws zs us vs split s).1 follow

-- the shift moves them as the edit does
shifts : (edit : Edit) (items : List (ℕ × KeptMark)) (by : ℤ) → edit.start ≤ edit.end → by ≡ pos edit.units -ℤ pos (removed edit) → AreMarks items → (us vs : List (ℕ × KeptMark)) → items ≡ us ++ vs → CanFollow edit vs
    → shifted marks by vs ≡ moved_items edit vs
shifts edit items by up is values us vs whole follow = past_items edit by vs up is (each_right is_mark us vs (subst AreMarks whole values)) follow.1

pub shift_after-requires-clause-values : goal.shift_after-requires-clause-values
shift_after-requires-clause-values c = λ us vs s.
    let edit = c.args.edit.now in let items = c.args.tree.now.items in
    let own : FitsSigned w64 c.in-Some.by = search rules in
    let is : to_z w64 (of_z w64 c.in-Some.by) ≡ pos edit.units -ℤ pos (removed edit) = omega (arith, ints, own, c.in-Some.ensures.some) in
    let follow = follow_at edit items c.requires.names c.args.last c.requires.follow us vs s in
    subst (Each is_mark) (sym (shifts edit items (to_z w64 (of_z w64 c.in-Some.by)) c.requires.upright is c.requires.values us vs s.0 follow)) (moved_are edit vs follow.0)

pub shift_after-requires-clause-sum : goal.shift_after-requires-clause-sum
shift_after-requires-clause-sum c = λ us vs s.
    let edit = c.args.edit.now in let items = c.args.tree.now.items in
    let own : FitsSigned w64 c.in-Some.by = search rules in let by = to_z w64 (of_z w64 c.in-Some.by) in
    let is : by ≡ pos edit.units -ℤ pos (removed edit) = omega (arith, ints, own, c.in-Some.ensures.some) in
    let follow = follow_at edit items c.requires.names c.args.last c.requires.follow us vs s in
    sum_low (us ++ shifted marks by vs)
    (each_both is_mark us (shifted marks by vs) (each_left is_mark us vs (subst AreMarks s.0 c.requires.values))
    (subst (Each is_mark) (sym (shifts edit items by c.requires.upright is c.requires.values us vs s.0 follow)) (moved_are edit vs follow.0)))

pub returns-clause-moved : goal.returns-clause-moved
returns-clause-moved c = λ us vs s follow.
    let edit = c.args.edit.now in
    let own : FitsSigned w64 c.in-Some.by = search rules in let by = to_z w64 (of_z w64 c.in-Some.by) in
    let is : by ≡ pos edit.units -ℤ pos (removed edit) = omega (arith, ints, own, c.in-Some.ensures.some) in
    c.shift_after.ensures.items us vs s ∙ ap (λ l. us ++ l) (shifts edit c.args.tree.now.items by c.requires.upright is c.requires.values us vs s.0 follow)

pub returns-in_default-clause-moved : goal.returns-in_default-clause-moved
returns-in_default-clause-moved c = λ us vs s follow.
    let edit = c.args.edit.now in let none : MovesNone edit = c.in_default.ensures.none in
    s.0 ∙ ap (λ l. us ++ l) (sym (follow_still edit vs c.requires.upright none (each_right is_mark us vs (subst AreMarks s.0 c.requires.values)) follow))
