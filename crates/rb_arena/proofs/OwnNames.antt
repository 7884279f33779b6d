-- No name occurs twice in a tree and the chain of loose items beside it.
use Rattle.std.proofs.Common.{◌≡◌, ℕ, ◌==◌, cond, Option, List, ◌∷◌, refl, arith}
use Rattle.std.specs.Ordering.{nat_cmp}
use Rattle.std.specs.FinMap as map
use Rattle.std.proofs.lemmas.List.Sums.{sum_by-append, sum_by-cons}
use Rattle.rb_rules.specs.declared.slot.Data.{Data}
use Rattle.rb_rules.specs.declared.slot.Slot.{Slot}
use Rattle.rb_rules.specs.Tree.{Tree, tip, fork, count}
use Rattle.rb_rules.specs.Weaving.{Weaving}
use Rattle.rb_rules.specs.Woven.{entries}
use Rattle.rb_rules.specs.Memory.{Made}
use Rattle.rb_arena.specs.Names.{times_named, HaveOwnNames}

module _ {X S B : Type 0} (w : Weaving X S B) where
  count_is : (id : ℕ) (acc : B) (t : Tree (Data X S B)) → times_named id (entries w acc t) ≡ count id t
  count_is id acc tip = refl
  count_is id acc (fork c i d x y) =
      let named : (ℕ × X) → ℕ = λ item. cond (id == item.0) 1 0 in
      let low : List (ℕ × X) = entries w acc x in
      let high : List (ℕ × X) = entries w (w.plus acc d.delta) y in
      let here : ℕ × X = (i, w.shift acc d.item) in
      let all = sum_by-append named low (here ∷ high) in
      let one = sum_by-cons named here high in
      let left = count_is id acc x in
      let right = count_is id (w.plus acc d.delta) y in
      omega (arith, all, one, left, right)

  pub own_names : (m : map.FinMap nat_cmp (Slot (Data X S B))) (beside : Tree (Data X S B)) (root : Option ℕ) (t : Tree (Data X S B)) → Made beside m root t
      → HaveOwnNames (entries w w.still t) (entries w w.still beside)
  own_names m beside root t made = λ id.
      let first = count_is id w.still t in
      let second = count_is id w.still beside in
      let once = made.once id in
      omega (arith, first, second, once)
