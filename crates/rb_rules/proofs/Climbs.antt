-- A walk up that recomputes the sums of the nodes above a tree.
use Rattle.std.proofs.Common.{◌≡◌, ℕ, suc, ◌≤◌, Option, Some, None, refl, sym, ap, ◌∙◌, subst, arith}
use Rattle.std.specs.Option.{unwrap_or}
use Rattle.std.proofs.lemmas.Option.{none-some}
use Rattle.std.specs.Ordering.{nat_cmp}
use Rattle.std.specs.FinMap as map
use Rattle.rb_rules.specs.declared.slot.Data.{Data}
use Rattle.rb_rules.specs.declared.slot.Side.TheVariants.{Left, Right}
use Rattle.rb_rules.specs.declared.slot.Slot.{Slot}
use Rattle.rb_rules.specs.Tree.{Tree, fork, Hole, top, on, plug, above, depth}
use Rattle.rb_rules.specs.Memory.{Made, Spot, here}
use Rattle.rb_rules.specs.Shape.{shape}
use Rattle.rb_rules.specs.Weaving.{Weaving, Lawful, Sums, CanSumUp}
use Rattle.rb_rules.specs.Woven.{entries, Woven, Valued, whole_at, shift_at}
use Rattle.rb_rules.specs.Sound.{Slack, renewed, CanRenew, IsSlack}
use Rattle.rb_rules.proofs.Shapes.{each-plug, same_items}
use Rattle.rb_rules.proofs.Weaves.{woven_at, woven_summed}
use Rattle.rb_rules.proofs.Knots.{valued_at}
use Rattle.rb_rules.proofs.Held.{can_sum_up}

module _ {X S B : Type 0} (w : Weaving X S B) (L : Lawful w) (is_near : B → Type 0) (is_item : X → Type 0) (is_sum is_value : S → Type 0)
    (sums : Sums w is_item is_sum) (parts : (a b : S) → is_value (w.join a b) → is_value a × is_value b) where
  pub slack_of : (k : Hole (Data X S B)) (t : Tree (Data X S B)) → Woven w is_near w.still (plug k t) → Slack w is_near k
  slack_of top t h = tt
  slack_of (on Left c i d x k) t h = let (a, b, l, r) = woven_at w L is_near k (fork c i d t x) h in (r, slack_of k (fork c i d t x) h)
  slack_of (on Right c i d x k) t h = let (a, b, l, r) = woven_at w L is_near k (fork c i d x t) h in (l, slack_of k (fork c i d x t) h)

  module _ (m : map.FinMap nat_cmp (Slot (Data X S B))) (root : Option ℕ) where
    pub renew_ready : (id n : ℕ) (whole : Tree (Data X S B)) → {beside : Tree (Data X S B)} → IsSlack w is_near is_item is_value beside m root (Some id) n whole → CanRenew w is_near is_item is_value m root id
    renew_ready id n whole {beside} (top, (t, same, made, at, wt, sl, v, le)) = absurd (none-some id (sym at))
    renew_ready id n whole {beside} (on Left c i d x k, (t, same, made, at, wt, (wx, sl), v, le)) =
        subst (λ z. CanRenew w is_near is_item is_value m root z) (sym (ap (λ o. unwrap_or o 0) at))
        (record { beside = beside; hole = k; red = c; datum = d; left = t; right = x }, made, wt, wx, valued_at w L is_near is_item is_sum is_value sums parts k (fork c i d t x) v)
    renew_ready id n whole {beside} (on Right c i d x k, (t, same, made, at, wt, (wx, sl), v, le)) =
        subst (λ z. CanRenew w is_near is_item is_value m root z) (sym (ap (λ o. unwrap_or o 0) at))
        (record { beside = beside; hole = k; red = c; datum = d; left = x; right = t }, made, wx, wt, valued_at w L is_near is_item is_sum is_value sums parts k (fork c i d x t) v)

    module _ (m2 : map.FinMap nat_cmp (Slot (Data X S B))) (root2 : Option ℕ) where
      abbrev Renewed : ℕ → Type 0
      Renewed id = (s : Spot (Data X S B)) → Made s.beside m root (plug s.hole (here s id)) → Made s.beside m2 root2 (plug s.hole (fork s.red id (renewed w s) s.left s.right))

      abbrev Parent : ℕ → Option ℕ → Type 0
      Parent id p = (s : Spot (Data X S B)) → Made s.beside m root (plug s.hole (here s id)) → p ≡ above s.hole

      abbrev Climbed : Tree (Data X S B) → Option ℕ → ℕ → Tree (Data X S B) → Type 0
      Climbed beside p n whole = (next : Tree (Data X S B)) × IsSlack w is_near is_item is_value beside m2 root2 p n next × (shape next ≡ shape whole)

      step : (p : Option ℕ) (id i n : ℕ) (whole : Tree (Data X S B)) (s : Spot (Data X S B)) → id ≡ i → whole ≡ plug s.hole (here s i) → Made s.beside m root (plug s.hole (here s i))
          → Woven w is_near (shift_at w s.hole) s.left → Woven w is_near (w.plus (shift_at w s.hole) s.datum.delta) s.right → Slack w is_near s.hole
          → Valued w is_item is_value (entries w w.still (plug s.hole (here s i))) → depth s.hole ≤ n → Renewed id → Parent id p → Climbed s.beside p n whole
      step p id i n whole s is same made wl wr sl v le done parent =
          let d = renewed w s in let t = fork s.red i d s.left s.right in
          let alike = each-plug (λ (e : Data X S B). (e.item, e.delta)) s.hole t (here s i) refl in
          let made_id = subst (λ z. Made s.beside m root (plug s.hole (here s z))) (sym is) made in (
            plug s.hole t,
            (
              s.hole,
              (
                t,
                refl,
                subst (λ z. Made s.beside m2 root2 (plug s.hole (fork s.red z d s.left s.right))) is (done s made_id),
                parent s made_id,
                woven_summed w L is_near (shift_at w s.hole) s.red i s.datum.item s.datum.delta s.left s.right wl wr,
                sl,
                subst (Valued w is_item is_value) (sym (same_items w w.still (plug s.hole t) (plug s.hole (here s i)) alike)) v,
                le,
              ),
            ),
            alike ∙ ap shape (sym same),
          )

      pub climbed : (p : Option ℕ) (id n : ℕ) (whole : Tree (Data X S B)) → {beside : Tree (Data X S B)} → IsSlack w is_near is_item is_value beside m root (Some id) (suc n) whole → Renewed id → Parent id p
          → Climbed beside p n whole
      climbed p id n whole {beside} (top, (t, same, made, at, wt, sl, v, le)) done parent = absurd (none-some id (sym at))
      climbed p id n whole {beside} (on Left c i d x k, (t, same, made, at, wt, (wx, sl), v, le)) done parent =
          step p id i n whole (record { beside = beside; hole = k; red = c; datum = d; left = t; right = x }) (ap (λ o. unwrap_or o 0) at) same made wt wx sl v (omega (arith, le)) done parent
      climbed p id n whole {beside} (on Right c i d x k, (t, same, made, at, wt, (wx, sl), v, le)) done parent =
          step p id i n whole (record { beside = beside; hole = k; red = c; datum = d; left = x; right = t }) (ap (λ o. unwrap_or o 0) at) same made wx wt sl v (omega (arith, le)) done parent

    -- at the root all sums are right
    pub ended : (n : ℕ) (whole : Tree (Data X S B)) → {beside : Tree (Data X S B)} → IsSlack w is_near is_item is_value beside m root None n whole → Made beside m root whole × Woven w is_near w.still whole
    ended n whole {beside} (top, (t, same, made, at, wt, sl, v, le)) = (subst (Made beside m root) (sym same) made, subst (Woven w is_near w.still) (sym same) wt)
    ended n whole {beside} (on s c i d x k, (t, same, made, at, wt, sl, v, le)) = absurd (none-some i at)

    pub none_left : (at : Option ℕ) (whole : Tree (Data X S B)) → {beside : Tree (Data X S B)} → IsSlack w is_near is_item is_value beside m root at 0 whole → at ≡ None
    none_left at whole (top, (t, same, made, e, wt, sl, v, le)) = e
    none_left at whole (on s c i d x k, (t, same, made, e, wt, sl, v, le)) = absurd (omega arith)

  -- the new sums of a node can be computed
  pub can_renew : (i : ℕ) (s : Spot (Data X S B)) → Woven w is_near (shift_at w s.hole) s.left → Woven w is_near (w.plus (shift_at w s.hole) s.datum.delta) s.right
      → Valued w is_item is_value (entries w (shift_at w s.hole) (here s i)) → CanSumUp w is_near is_item is_sum is_value s.datum.item s.datum.delta (whole_at w s.left) (whole_at w s.right)
  can_renew i s wl wr v = can_sum_up w L is_near is_item is_sum is_value sums parts (shift_at w s.hole) i s.datum.item s.datum.delta s.left s.right wl wr v
