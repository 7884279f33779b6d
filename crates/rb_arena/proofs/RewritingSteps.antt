-- The walk that rewrites a subtree, step by step.
use Rattle.std.proofs.Common.{◌≡◌, ℕ, ◌-◌, ◌<◌, Option, Some, sym, ap, ◌∙◌, subst, arith}
use Rattle.rb_rules.specs.declared.slot.Data.{Data}
use Rattle.rb_rules.specs.declared.slot.Slot.{Slot}
use Rattle.rb_rules.specs.declared.weave.Weave.{Ghosts}
use Rattle.rb_rules.specs.Memory.{AtSpot, Stands, Made}
use Rattle.rb_rules.specs.Rewriting.{Leaves}
use Rattle.rb_rules.specs.Tree.{Tree, fork, Hole, plug, root_of}
use Rattle.rb_rules.specs.Weaving.{CanSumUp, HeldItem, HeldSum, HeldBy, summed}
use Rattle.rb_arena.specs.declared.links.Links.{Links}
use Rattle.rb_arena.specs.Nodes.{Rewrites, slot_of}
use Rattle.rb_arena.specs.Relative.{LawsOf, CanSumOver, IsSummed}
use Rattle.rb_arena.specs.Rewriting.{CanRewrite, CanRewriteAt, RewritesAt, Rewrote}
use Rattle.rb_arena.proofs.Levelling.{spot, held_item, held_whole, held_right}
use Rattle.rb_arena.proofs.Rewriting as part

module _ {W X S B K V : Type 0} (w : Ghosts W X S B K) (l : LawsOf w) (rewritten : V → X → X) (onward : V → X → V) where
  abbrev Can : Tree (Data X S B) → Links (Data X S B) → V → Option ℕ → B → ℕ → Hole (Data X S B) → Tree (Data X S B) → Type 0
  Can beside tree v at acc n k t = CanRewrite w rewritten onward beside tree v at acc n k t

  abbrev CanAt : Links (Data X S B) → V → Option ℕ → B → ℕ → Type 0
  CanAt tree v at acc n = CanRewriteAt w rewritten onward tree v at acc n

  abbrev DoesAt : Links (Data X S B) → V → Links (Data X S B) → V → Option ℕ → B → ℕ → S → Type 0
  DoesAt old v new after at acc n sum = RewritesAt w rewritten onward old v new after at acc n sum

  pub stands : (old : Links (Data X S B)) (v : V) (i : ℕ) (acc : B) (n : ℕ) → CanAt old v (Some i) acc n → Stands old.nodes.live old.root i
  unfolding CanRewriteAt
  stands old v i acc n (beside, (t, (k, can))) = let z = part.z w l rewritten onward beside old v i acc n k t can in (spot z, z.can.0)

  pub tall : (old : Links (Data X S B)) (v : V) (i : ℕ) (acc : B) (n : ℕ) → CanAt old v (Some i) acc n → 0 < n
  unfolding CanRewriteAt
  tall old v i acc n (beside, (t, (k, can))) = let z = part.z w l rewritten onward beside old v i acc n k t can in let high = z.can.4 in omega (arith, high)

  module _ (old : Links (Data X S B)) (v : V) (i : ℕ) (acc : B) (n : ℕ) (slot : Slot (Data X S B)) (read : AtSpot old.nodes.live old.root i (λ s. slot ≡ slot_of s)) where
    module _ (beside t : Tree (Data X S B)) (k : Hole (Data X S B)) (can : Can beside old v (Some i) acc n k t) where
      -- the root is unchanged since it was read
      is : slot ≡ slot_of (spot (part.z w l rewritten onward beside old v i acc n k t can))
      is = let z = part.z w l rewritten onward beside old v i acc n k t can in read (spot z) z.can.0

      whole_held : HeldSum w.weaving w.is_near w.is_sum w.is_value (w.weaving.shift_sum acc slot.«data».whole)
      whole_held =
          subst (λ (s : Slot (Data X S B)). HeldSum w.weaving w.is_near w.is_sum w.is_value (w.weaving.shift_sum acc s.«data».whole)) (sym is)
          (held_whole (part.z w l rewritten onward beside old v i acc n k t can))

      item_held : HeldItem w.weaving w.is_near w.is_item (w.weaving.shift acc slot.«data».item)
      item_held =
          subst (λ (s : Slot (Data X S B)). HeldItem w.weaving w.is_near w.is_item (w.weaving.shift acc s.«data».item)) (sym is)
          (held_item (part.z w l rewritten onward beside old v i acc n k t can))

      far_held : HeldBy w.weaving w.is_near (w.weaving.plus acc slot.«data».delta)
      far_held =
          subst (λ (s : Slot (Data X S B)). HeldBy w.weaving w.is_near (w.weaving.plus acc s.«data».delta)) (sym is)
          (held_right (part.z w l rewritten onward beside old v i acc n k t can))

      skips_here : Leaves w.weaving w.is_item rewritten onward v (w.weaving.shift_sum acc slot.«data».whole) → Rewrote w rewritten onward beside old v v acc k t slot.«data».whole
      skips_here leaves =
          subst (λ (s : Slot (Data X S B)). Rewrote w rewritten onward beside old v v acc k t s.«data».whole) (sym is)
          (part.skipped w l rewritten onward beside old v i acc n k t can (subst (λ (s : Slot (Data X S B)). Leaves w.weaving w.is_item rewritten onward v (w.weaving.shift_sum acc s.«data».whole)) is leaves))

      left_can : Can beside old v slot.left acc (n - 1) (part.on_left w l rewritten onward beside old v i acc n k t can) (part.z w l rewritten onward beside old v i acc n k t can).left
      left_can =
          subst (λ (s : Slot (Data X S B)). Can beside old v s.left acc (n - 1) (part.on_left w l rewritten onward beside old v i acc n k t can) (part.z w l rewritten onward beside old v i acc n k t can).left) (sym is)
          (part.left_can w l rewritten onward beside old v i acc n k t can)

      module _ (own : X) (own_is : own ≡ w.weaving.shift acc slot.«data».item) where
        own_at : own ≡ (part.mine w l rewritten onward beside old v i acc n k t can).1
        own_at = own_is ∙ ap (λ (s : Slot (Data X S B)). w.weaving.shift acc s.«data».item) is

        old_value : w.is_item own
        old_value = subst w.is_item (sym own_at) (part.own_item w l rewritten onward beside old v i acc n k t can)

        module _ (mid : Links (Data X S B)) (v1 : V) (sum : S) (goes : DoesAt old v mid v1 slot.left acc (n - 1) sum) where
          left_done : Rewrote w rewritten onward beside mid v v1 acc (part.on_left w l rewritten onward beside old v i acc n k t can) (part.z w l rewritten onward beside old v i acc n k t can).left sum
          unfolding RewritesAt
          left_done = goes beside (part.z w l rewritten onward beside old v i acc n k t can).left (part.on_left w l rewritten onward beside old v i acc n k t can) left_can

          new_value : w.is_item (rewritten v1 own)
          new_value = subst (λ x. w.is_item (rewritten v1 x)) (sym own_at) (part.new_item w l rewritten onward beside old v i acc n k t can mid v1 sum left_done)

          back_held : HeldBy w.weaving w.is_near (w.weaving.minus w.weaving.still acc)
          back_held = part.held_back w l rewritten onward beside old v i acc n k t can mid v1 sum left_done

          new_held : HeldItem w.weaving w.is_near w.is_item (w.weaving.shift (w.weaving.minus w.weaving.still acc) (rewritten v1 own))
          new_held =
              subst (λ x. HeldItem w.weaving w.is_near w.is_item (w.weaving.shift (w.weaving.minus w.weaving.still acc) (rewritten v1 x))) (sym own_at)
              (part.held_new w l rewritten onward beside old v i acc n k t can mid v1 sum left_done)

          module _ (v2 : V) (passed : v2 ≡ onward v1 own) (far : B) (far_is : far ≡ w.weaving.plus acc slot.«data».delta) where
            passed_at : v2 ≡ onward v1 (part.mine w l rewritten onward beside old v i acc n k t can).1
            passed_at = passed ∙ ap (onward v1) own_at

            far_at : far ≡ part.far w l rewritten onward beside old v i acc n k t can
            far_at = far_is ∙ ap (λ (s : Slot (Data X S B)). w.weaving.plus acc s.«data».delta) is

            abbrev under : Hole (Data X S B)
            under = part.on_right w l rewritten onward beside old v i acc n k t can mid v1 sum left_done

            right_can : Can beside mid v2 slot.right far (n - 1) under (part.z w l rewritten onward beside old v i acc n k t can).right
            right_can =
                subst (λ (s : Slot (Data X S B)). Can beside mid v2 s.right far (n - 1) under (part.z w l rewritten onward beside old v i acc n k t can).right) (sym is)
                (subst (λ b. Can beside mid v2 (root_of (part.z w l rewritten onward beside old v i acc n k t can).right) b (n - 1) under (part.z w l rewritten onward beside old v i acc n k t can).right) (sym far_at)
                (part.right_can w l rewritten onward beside old v i acc n k t can mid v1 sum left_done v2 passed_at))

            module _ (last : Links (Data X S B)) (v3 : V) (rest : S) (goes_on : DoesAt mid v2 last v3 slot.right far (n - 1) rest) (item : X)
                (item_is : item ≡ w.weaving.shift (w.weaving.minus w.weaving.still acc) (rewritten v1 own)) where
              right_done : Rewrote w rewritten onward beside last v2 v3 (part.far w l rewritten onward beside old v i acc n k t can) under (part.z w l rewritten onward beside old v i acc n k t can).right rest
              unfolding RewritesAt
              right_done =
                  subst (λ b. Rewrote w rewritten onward beside last v2 v3 b under (part.z w l rewritten onward beside old v i acc n k t can).right rest) far_at
                  (goes_on beside (part.z w l rewritten onward beside old v i acc n k t can).right under right_can)

              item_at : item ≡ part.item w l rewritten onward beside old v i acc n k t can mid v1 sum left_done v2 passed_at last v3 rest right_done
              item_at = item_is ∙ ap (λ x. w.weaving.shift (w.weaving.minus w.weaving.still acc) (rewritten v1 x)) own_at

              sum_can : CanSumOver w item slot.«data».delta sum rest
              unfolding CanSumOver
              sum_can =
                  subst (λ x. CanSumUp w.weaving w.is_near w.is_item w.is_sum w.is_value x slot.«data».delta sum rest) (sym item_at)
                  (subst (λ (s : Slot (Data X S B)). CanSumUp w.weaving w.is_near w.is_item w.is_sum w.is_value
                  (part.item w l rewritten onward beside old v i acc n k t can mid v1 sum left_done v2 passed_at last v3 rest right_done) s.«data».delta sum rest) (sym is)
                  (part.can_sum w l rewritten onward beside old v i acc n k t can mid v1 sum left_done v2 passed_at last v3 rest right_done))

              still_stands : Stands last.nodes.live last.root i
              still_stands = (part.there w l rewritten onward beside old v i acc n k t can mid v1 sum left_done v2 passed_at last v3 rest right_done, right_done.made)

              module _ (new : Links (Data X S B)) (datum : Data X S B) (datum_is : IsSummed w item slot.«data».delta sum rest datum) (made : Rewrites last new i slot.red datum) where
                datum_at : datum ≡ summed w.weaving (part.item w l rewritten onward beside old v i acc n k t can mid v1 sum left_done v2 passed_at last v3 rest right_done)
                    (part.z w l rewritten onward beside old v i acc n k t can).datum.delta sum rest
                unfolding IsSummed
                datum_at = datum_is ∙ (λ j. summed w.weaving (item_at j) (is j).«data».delta sum rest)

                all_done : Rewrote w rewritten onward beside new v v3 acc k t datum.whole
                unfolding Rewrites
                all_done =
                    let there = part.there w l rewritten onward beside old v i acc n k t can mid v1 sum left_done v2 passed_at last v3 rest right_done in
                    let lies = subst (λ (d : Data X S B). Made beside new.nodes.live new.root (plug k (fork (part.z w l rewritten onward beside old v i acc n k t can).red i d left_done.subtree right_done.subtree))) datum_at
                    (subst (λ (s : Slot (Data X S B)). Made beside new.nodes.live new.root (plug k (fork s.red i datum left_done.subtree right_done.subtree))) is (made there right_done.made)) in
                    subst (λ (d : Data X S B). Rewrote w rewritten onward beside new v v3 acc k t d.whole) (sym datum_at)
                    (part.done w l rewritten onward beside old v i acc n k t can mid v1 sum left_done v2 passed_at last v3 rest right_done new lies)

    module _ (can : CanAt old v (Some i) acc n) where
      pub holds_whole : HeldSum w.weaving w.is_near w.is_sum w.is_value (w.weaving.shift_sum acc slot.«data».whole)
      unfolding CanRewriteAt
      holds_whole = let (beside, (t, (k, at))) = can in whole_held beside t k at

      pub holds_item : HeldItem w.weaving w.is_near w.is_item (w.weaving.shift acc slot.«data».item)
      unfolding CanRewriteAt
      holds_item = let (beside, (t, (k, at))) = can in item_held beside t k at

      pub holds_far : HeldBy w.weaving w.is_near (w.weaving.plus acc slot.«data».delta)
      unfolding CanRewriteAt
      holds_far = let (beside, (t, (k, at))) = can in far_held beside t k at

      pub can_left : CanAt old v slot.left acc (n - 1)
      unfolding CanRewriteAt
      can_left = let (beside, (t, (k, at))) = can in (beside, (_, (part.on_left w l rewritten onward beside old v i acc n k t at, left_can beside t k at)))

      module _ (own : X) (own_is : own ≡ w.weaving.shift acc slot.«data».item) where
        pub is_old : w.is_item own
        unfolding CanRewriteAt
        is_old = let (beside, (t, (k, at))) = can in old_value beside t k at own own_is

        module _ (mid : Links (Data X S B)) (v1 : V) (sum : S) (goes : DoesAt old v mid v1 slot.left acc (n - 1) sum) where
          pub is_new : w.is_item (rewritten v1 own)
          unfolding CanRewriteAt
          is_new = let (beside, (t, (k, at))) = can in new_value beside t k at own own_is mid v1 sum goes

          pub holds_back : HeldBy w.weaving w.is_near (w.weaving.minus w.weaving.still acc)
          unfolding CanRewriteAt
          holds_back = let (beside, (t, (k, at))) = can in back_held beside t k at own own_is mid v1 sum goes

          pub holds_new : HeldItem w.weaving w.is_near w.is_item (w.weaving.shift (w.weaving.minus w.weaving.still acc) (rewritten v1 own))
          unfolding CanRewriteAt
          holds_new = let (beside, (t, (k, at))) = can in new_held beside t k at own own_is mid v1 sum goes

          module _ (v2 : V) (passed : v2 ≡ onward v1 own) (far : B) (far_is : far ≡ w.weaving.plus acc slot.«data».delta) where
            pub can_right : CanAt mid v2 slot.right far (n - 1)
            unfolding CanRewriteAt
            can_right = let (beside, (t, (k, at))) = can in (beside, (_, (part.on_right w l rewritten onward beside old v i acc n k t at mid v1 sum (left_done beside t k at own own_is mid v1 sum goes), right_can beside t k at own own_is mid v1 sum goes v2 passed far far_is)))

            module _ (last : Links (Data X S B)) (v3 : V) (rest : S) (goes_on : DoesAt mid v2 last v3 slot.right far (n - 1) rest) (item : X)
                (item_is : item ≡ w.weaving.shift (w.weaving.minus w.weaving.still acc) (rewritten v1 own)) where
              pub can_sum : CanSumOver w item slot.«data».delta sum rest
              unfolding CanRewriteAt
              can_sum = let (beside, (t, (k, at))) = can in sum_can beside t k at own own_is mid v1 sum goes v2 passed far far_is last v3 rest goes_on item item_is

              pub stands_still : Stands last.nodes.live last.root i
              unfolding CanRewriteAt
              stands_still = let (beside, (t, (k, at))) = can in still_stands beside t k at own own_is mid v1 sum goes v2 passed far far_is last v3 rest goes_on item item_is

    pub skips : Leaves w.weaving w.is_item rewritten onward v (w.weaving.shift_sum acc slot.«data».whole) → DoesAt old v old v (Some i) acc n slot.«data».whole
    unfolding RewritesAt
    skips leaves = λ beside t k can. skips_here beside t k can leaves

    pub does : (own : X) (own_is : own ≡ w.weaving.shift acc slot.«data».item) (mid : Links (Data X S B)) (v1 : V) (sum : S) → DoesAt old v mid v1 slot.left acc (n - 1) sum
        → (v2 : V) → v2 ≡ onward v1 own → (far : B) → far ≡ w.weaving.plus acc slot.«data».delta
        → (last : Links (Data X S B)) (v3 : V) (rest : S) → DoesAt mid v2 last v3 slot.right far (n - 1) rest
        → (item : X) → item ≡ w.weaving.shift (w.weaving.minus w.weaving.still acc) (rewritten v1 own)
        → (new : Links (Data X S B)) (datum : Data X S B) → IsSummed w item slot.«data».delta sum rest datum → Rewrites last new i slot.red datum → DoesAt old v new v3 (Some i) acc n datum.whole
    unfolding RewritesAt
    does own own_is mid v1 sum goes v2 passed far far_is last v3 rest goes_on item item_is new datum datum_is made = λ beside t k can.
        all_done beside t k can own own_is mid v1 sum goes v2 passed far far_is last v3 rest goes_on item item_is new datum datum_is made
