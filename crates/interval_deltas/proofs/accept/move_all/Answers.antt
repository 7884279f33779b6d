use Rattle.std.proofs.Common.{◌≡◌, ℕ, ℤ, ◌<ℤ◌, false, List, ◌∷◌, w64, to_z, of_z, sym, subst, arith}
use Rattle.std.specs.Prelude.{int_le}
use Rattle.std.proofs.lemmas.Int.{ints}
use Rattle.rb_arena.specs.RbTree.{SplitsAt}
use Rattle.interval_deltas.specs.declared.weave.KeptMark.{KeptMark}
use Rattle.interval_deltas.specs.Weave.{is_mark}
use Rattle.interval_deltas.specs.Kept.{Each, AreMarks, capped}
use Rattle.interval_deltas.specs.Sorting.{AreSorted}
use Rattle.interval_deltas.proofs.Items.{each_right}
use Rattle.interval_deltas.proofs.Passing.{all_stay, stay_sorted, named, follow, moved_past, sorted_past}
use Rattle.interval_deltas.proofs.accept.move_all.Goals.{In_default}
use Rattle.interval_deltas.proofs.accept.move_all.Goals as goal

abbrev own : ℤ → ℤ
own z = to_z w64 (of_z w64 z)

-- the found decoration starts after the offset
starts_high : (items us : List (ℕ × KeptMark)) (id : ℕ) (m : KeptMark) (vs : List (ℕ × KeptMark)) → AreMarks items → SplitsAt items id us m vs → (z : ℤ) (offset : ℕ) → z ≡ capped offset → int_le (own m.start) (own z) ≡ false
    → capped offset <ℤ m.start
starts_high items us id m vs values is z offset e over =
    let value = (each_right is_mark us ((id, m) ∷ vs) (subst AreMarks is values)).0 in let lt = not_le (own m.start) (own z) over in omega (arith, ints, lt, e, value.0, value.1, value.2)
  where
    not_le : (a b : ℤ) → int_le a b ≡ false → b <ℤ a
    not_le a b f = grind (arith, ints)

none_reaches : (c : In_default) → Each (λ m. m.end <ℤ capped c.args.edit.now.start) c.args.tree.now.items
none_reaches c =
    let is_own : own c.capped.result ≡ capped c.args.edit.now.start = omega (arith, ints, c.capped.ensures) in
    subst (λ z. Each (λ m. m.end <ℤ z) c.args.tree.now.items) is_own c.in_default.ensures

pub returns-in_default-clause-moved : goal.returns-in_default-clause-moved
returns-in_default-clause-moved c = all_stay c.args.edit.now c.requires.upright c.args.tree.now.items c.requires.values (none_reaches c)

pub returns-in_default-clause-sorted : goal.returns-in_default-clause-sorted
returns-in_default-clause-sorted c = λ _. stay_sorted c.args.edit.now c.requires.upright c.args.tree.now.items c.requires.values (none_reaches c) c.requires.ordered

pub shift_behind-requires-clause-named : goal.shift_behind-requires-clause-named
shift_behind-requires-clause-named c =
    let first = c.in-Some.first in let (us, (vs, is, under, reach)) = c.in-Some.ensures in
    let is_own : own c.capped.result ≡ capped c.args.edit.now.start = omega (arith, ints, c.capped.ensures) in
    let low = subst (λ z. Each (λ m. m.end <ℤ z) us) is_own under in
    let high = starts_high c.args.tree.now.items us first.0 first.1 vs c.requires.values is c.capped-2.result c.args.edit.now.end c.capped-2.ensures c.if-first-capped.false in
    named c.args.edit.now c.requires.upright c.args.tree.now.items c.requires.values c.requires.ordered c.requires.fits us first.0 first.1 vs is low high c.prev-last.result (c.prev-last.ensures us first.1 vs is)

pub shift_behind-requires-clause-follow : goal.shift_behind-requires-clause-follow
shift_behind-requires-clause-follow c =
    let first = c.in-Some.first in let (us, (vs, is, under, reach)) = c.in-Some.ensures in
    let is_own : own c.capped.result ≡ capped c.args.edit.now.start = omega (arith, ints, c.capped.ensures) in
    let low = subst (λ z. Each (λ m. m.end <ℤ z) us) is_own under in
    let high = starts_high c.args.tree.now.items us first.0 first.1 vs c.requires.values is c.capped-2.result c.args.edit.now.end c.capped-2.ensures c.if-first-capped.false in
    follow c.args.edit.now c.requires.upright c.args.tree.now.items c.requires.values c.requires.ordered c.requires.fits us first.0 first.1 vs is low high c.prev-last.result (c.prev-last.ensures us first.1 vs is)

pub returns-clause-moved : goal.returns-clause-moved
returns-clause-moved c =
    let first = c.in-Some.first in let (us, (vs, is, under, reach)) = c.in-Some.ensures in
    let is_own : own c.capped.result ≡ capped c.args.edit.now.start = omega (arith, ints, c.capped.ensures) in
    let low = subst (λ z. Each (λ m. m.end <ℤ z) us) is_own under in
    let high = starts_high c.args.tree.now.items us first.0 first.1 vs c.requires.values is c.capped-2.result c.args.edit.now.end c.capped-2.ensures c.if-first-capped.false in
    moved_past c.args.edit.now c.requires.upright c.args.tree.now.items c.requires.values c.requires.ordered c.requires.fits us first.0 first.1 vs is low high c.prev-last.result (c.prev-last.ensures us first.1 vs is) c.shift_behind.new.tree.items c.shift_behind.ensures.moved

pub returns-clause-sorted : goal.returns-clause-sorted
returns-clause-sorted c = λ _.
    let first = c.in-Some.first in let (us, (vs, is, under, reach)) = c.in-Some.ensures in
    let is_own : own c.capped.result ≡ capped c.args.edit.now.start = omega (arith, ints, c.capped.ensures) in
    let low = subst (λ z. Each (λ m. m.end <ℤ z) us) is_own under in
    let high = starts_high c.args.tree.now.items us first.0 first.1 vs c.requires.values is c.capped-2.result c.args.edit.now.end c.capped-2.ensures c.if-first-capped.false in
    subst AreSorted (sym (moved_past c.args.edit.now c.requires.upright c.args.tree.now.items c.requires.values c.requires.ordered c.requires.fits us first.0 first.1 vs is low high c.prev-last.result (c.prev-last.ensures us first.1 vs is) c.shift_behind.new.tree.items c.shift_behind.ensures.moved)) (sorted_past c.args.edit.now c.requires.upright c.args.tree.now.items c.requires.values c.requires.ordered c.requires.fits us first.0 first.1 vs is low high c.prev-last.result (c.prev-last.ensures us first.1 vs is))
