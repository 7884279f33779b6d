-- Replacement of a node's item. The sums of its ancestors are recomputed unless the node's own sum is unchanged.
use Rattle.std.proofs.Common.{◌≡◌, ℕ, ◌∷◌, List, Some, refl, sym, ap, ◌∙◌, subst}
use Rattle.std.specs.FinMap as map
use Rattle.rb_rules.specs.declared.slot.Data.{Data}
use Rattle.rb_rules.specs.declared.slot.Side.TheVariants.{Left, Right}
use Rattle.rb_rules.specs.declared.slot.Slot.{Slot}
use Rattle.rb_rules.specs.declared.weave.Weave.{Ghosts}
use Rattle.rb_rules.specs.Tree.{Tree, fork, Hole, top, on, plug}
use Rattle.rb_rules.specs.Memory.{Made, Spot, here}
use Rattle.rb_rules.specs.Shape.{shape}
use Rattle.rb_rules.specs.Sound.{IsSlack, RenewedFrom, renewed}
use Rattle.rb_rules.specs.Weaving.{Weaving, Lawful, summed}
use Rattle.rb_rules.specs.Woven.{entries, sum_of, Woven, Valued, shift_at, whole_in}
use Rattle.rb_rules.proofs.Climbs.{can_renew, slack_of}
use Rattle.rb_rules.proofs.Knots.{valued_at}
use Rattle.rb_rules.proofs.Shapes.{each-plug, same_items}
use Rattle.rb_rules.proofs.Spots.{upper_is}
use Rattle.rb_rules.proofs.Weaves.{sum-append, woven_at, woven_summed}
use Rattle.rb_rules.proofs.Wider.{woven_wider}
use Rattle.rb_arena.specs.declared.links.Links.{Links}
use Rattle.rb_arena.specs.Nodes.{Rewrites}
use Rattle.rb_arena.specs.RbTree.{with_item}
use Rattle.rb_arena.specs.Relative.{CanSumOver, IsSlackFrom, IsSummed, LawsOf, RenewsFrom}
use Rattle.rb_arena.specs.Stopping.{CanSet, CanSetAt, Sets, with_own}
use Rattle.rb_arena.proofs.Renewing.{data_is, lefts_is, rights_is}

module _ {X S B : Type 0} (w : Weaving X S B) (L : Lawful w) (is_near : B → Type 0) where
  -- another tree with the same sum in the hole
  pub swapped : (k : Hole (Data X S B)) (t u : Tree (Data X S B)) → Woven w is_near w.still (plug k t) → sum_of w (entries w (shift_at w k) t) ≡ sum_of w (entries w (shift_at w k) u)
      → Woven w is_near (shift_at w k) u → Woven w is_near w.still (plug k u)
  swapped top t u h e v = v
  swapped (on Left c i d x k) t u h e v =
      let (a, b, l, r) = woven_at w L is_near k (fork c i d t x) h in
      let behind : List (ℕ × X) = (i, w.shift (shift_at w k) d.item) ∷ entries w (w.plus (shift_at w k) d.delta) x in
      let all = sum-append w L (entries w (shift_at w k) t) behind ∙ ap (λ z. w.join z (sum_of w behind)) e ∙ sym (sum-append w L (entries w (shift_at w k) u) behind) in
      swapped k (fork c i d t x) (fork c i d u x) h all (a ∙ e, b ∙ all, v, r)
  swapped (on Right c i d x k) t u h e v =
      let (a, b, l, r) = woven_at w L is_near k (fork c i d x t) h in
      let es = entries w (shift_at w k) x in let one = w.one (w.shift (shift_at w k) d.item) in let acc = w.plus (shift_at w k) d.delta in
      let all = sum-append w L es ((i, w.shift (shift_at w k) d.item) ∷ entries w acc t) ∙ ap (λ z. w.join (sum_of w es) (w.join one z)) e ∙ sym (sum-append w L es ((i, w.shift (shift_at w k) d.item) ∷ entries w acc u)) in
      swapped k (fork c i d x t) (fork c i d x u) h all (a, b ∙ all, l, v)

-- replacement of the item at a node
module _ {W X S B K : Type 0} (w : Ghosts W X S B K) (old : Links (Data X S B)) (id : ℕ) (item : X) where
  module _ (slot : Slot (Data X S B)) (found : map.get old.nodes.live id ≡ Some slot) (left right : S)
      (left_is : left ≡ whole_in w.weaving old.nodes.live slot.left) (right_is : right ≡ whole_in w.weaving old.nodes.live slot.right) where
    module _ (s : Spot (Data X S B)) where
      -- the node with that item
      abbrev own : Spot (Data X S B)
      own = record { beside = s.beside; hole = s.hole; red = s.red; datum = with_item s.datum item; left = s.left; right = s.right }

    pub can_sum_own : CanSet w old id item → CanSumOver w item slot.«data».delta left right
    unfolding CanSet CanSumOver
    can_sum_own (l, (reach, (s, h))) =
        let wv = woven_at w.weaving l.laws w.is_near s.hole (here s id) (woven_wider w.weaving (w.within reach) w.is_near (l.within_near reach) w.weaving.still (plug s.hole (here s id)) h.1) in
        rw (lefts_is w old id slot found left right left_is right_is s h.0, rights_is w old id slot found left right left_is right_is s h.0, data_is w old id slot found left right left_is right_is s h.0)
        (can_renew w.weaving l.laws w.is_near w.is_item w.is_sum w.is_value l.sums l.parts id (own s) wv.2 wv.3
        (valued_at w.weaving l.laws w.is_near w.is_item w.is_sum w.is_value l.sums l.parts s.hole (here (own s) id) h.2))

    module _ (datum : Data X S B) (is : IsSummed w item slot.«data».delta left right datum) (mid : Links (Data X S B)) (done : Rewrites old mid id slot.red datum) where
      module _ (l : LawsOf w) (reach : B) (s : Spot (Data X S B)) (h : CanSetAt w old id item reach s) where
        abbrev now : Tree (Data X S B)
        now = fork s.red id (renewed w.weaving (own s)) s.left s.right

        datum_is : datum ≡ renewed w.weaving (own s)
        unfolding IsSummed
        datum_is =
            is ∙ (λ i. summed w.weaving item (data_is w old id slot found left right left_is right_is s h.0 i).delta (lefts_is w old id slot found left right left_is right_is s h.0 i)
            (rights_is w old id slot found left right left_is right_is s h.0 i))

        made_now : Made s.beside mid.nodes.live mid.root (plug s.hole now)
        unfolding Rewrites
        made_now =
            let colour : slot.red ≡ s.red = ap (λ n. n.red) (upper_is old.nodes.live old.root s id h.0 Left slot found) in rw (datum_is, colour) at (done s h.0)

        was_woven : Woven w.weaving (w.within reach) (shift_at w.weaving s.hole) (here s id)
        was_woven = woven_at w.weaving l.laws (w.within reach) s.hole (here s id) h.1

        now_woven : Woven w.weaving (w.within reach) (shift_at w.weaving s.hole) now
        now_woven = woven_summed w.weaving l.laws (w.within reach) (shift_at w.weaving s.hole) s.red id item s.datum.delta s.left s.right was_woven.2 was_woven.3

        alike : shape (plug s.hole now) ≡ shape (with_own s id item)
        alike = each-plug (λ (e : Data X S B). (e.item, e.delta)) s.hole now (here (own s) id) refl

        -- the sum is unchanged
        stays : datum.whole ≡ slot.«data».whole → RenewedFrom w.weaving (w.within reach) s.beside mid.nodes.live mid.root (with_own s id item)
        stays same =
            let whole = sym (ap (λ d. d.whole) (data_is w old id slot found left right left_is right_is s h.0)) ∙ sym same ∙ ap (λ d. d.whole) datum_is in
            let sums = sym was_woven.1 ∙ ap (w.weaving.shift_sum (shift_at w.weaving s.hole)) whole ∙ now_woven.1 in
            (plug s.hole now, made_now, swapped w.weaving l.laws (w.within reach) s.hole (here s id) now h.1 sums now_woven, alike)

        -- otherwise the sums above are still to be recomputed
        slack_now : IsSlack w.weaving (w.within reach) w.is_item w.is_value s.beside mid.nodes.live mid.root slot.parent 128 (plug s.hole now)
        slack_now = (
          s.hole,
          (
            now,
            refl,
            made_now,
            ap (λ n. n.parent) (upper_is old.nodes.live old.root s id h.0 Left slot found),
            now_woven,
            slack_of w.weaving l.laws (w.within reach) w.is_item w.is_sum w.is_value l.sums l.parts s.hole (here s id) h.1,
            subst (Valued w.weaving w.is_item w.is_value) (sym (same_items w.weaving w.weaving.still (plug s.hole now) (with_own s id item) alike)) h.2,
            h.3,
          ),
        )

      pub set_alone : CanSet w old id item → datum.whole ≡ slot.«data».whole → Sets w old mid id item
      unfolding CanSet Sets
      set_alone (l, some) same = λ reach s h. stays l reach s h same

      pub slack_above : CanSet w old id item → IsSlackFrom w mid slot.parent 128
      unfolding CanSet IsSlackFrom
      slack_above (l, (reach, (s, h))) = (reach, (s.beside, (_, slack_now l reach s h)))

      pub set_above : (new : Links (Data X S B)) → CanSet w old id item → RenewsFrom w mid new slot.parent 128 → Sets w old new id item
      unfolding CanSet RenewsFrom Sets
      set_above new (l, some) renews = λ reach s h.
          let (u, made, wv, same) = renews reach s.beside _ (slack_now l reach s h) in (u, made, wv, same ∙ alike l reach s h)

pub ruleset setting_item = (can_sum_own, set_alone, slack_above, set_above)
