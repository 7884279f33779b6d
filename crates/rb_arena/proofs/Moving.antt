-- The result of a shift of the items after a place, and the reach that it needs.
use Rattle.std.proofs.Common.{◌≡◌, ℕ, List, ◌++◌, length, Option, Some, None, refl, sym, ap, ◌∙◌, subst, arith}
use Rattle.std.specs.Ordering.{nat_cmp}
use Rattle.std.specs.FinMap as map
use Rattle.rb_rules.specs.declared.slot.Data.{Data}
use Rattle.rb_rules.specs.declared.slot.Side.{Side}
use Rattle.rb_rules.specs.declared.slot.Slot.{Slot}
use Rattle.rb_rules.specs.Tree.{Tree, tip, Hole, top, plug}
use Rattle.rb_rules.specs.Memory.{Made}
use Rattle.rb_rules.specs.Weaving.{Weaving, Lawful, Sums}
use Rattle.rb_rules.specs.Woven.{entries, Valued, shift_at, lefts, rights}
use Rattle.rb_rules.specs.Shifts.{shifted, moved, levelled}
use Rattle.rb_rules.specs.Sound.{Slack, IsSlack, RenewedFrom}
use Rattle.rb_rules.proofs.Climbs.{slack_of}
use Rattle.rb_rules.proofs.Held.{items_right}
use Rattle.rb_rules.proofs.Levels.{balanced_alike, bare-levelled, entries-levelled, woven-levelled}
use Rattle.rb_rules.proofs.Shapes.{same_items, same_colours}
use Rattle.rb_rules.proofs.Shifts.{above-moved, depth-moved, bare-moved, shift_at-moved, lefts-moved, rights-moved, slack-moved}
use Rattle.rb_rules.proofs.Weaves.{woven_at, near_of, entries-plug}
use Rattle.rb_rules.proofs.Wider.{woven_wider}
use Rattle.rb_rules.specs.declared.weave.Weave.{Ghosts}
use Rattle.rb_arena.specs.declared.links.Links.{Links}
use Rattle.rb_arena.specs.Leaving.{Stores, StoresWithin}
use Rattle.rb_arena.specs.Placing.{above_place}
use Rattle.rb_arena.specs.Relative.{IsSlackFrom, LawsOf, RenewsFrom}
use Rattle.rb_arena.specs.Rising.{Mended}
use Rattle.rb_arena.specs.Shifting.{CanLevel, CanLevelAt, CanShift, CanShiftAll, CanShiftFrom, CanShiftUp, FindsReach, Levels, Reaches, ShiftsAll, ShiftsUp}
use Rattle.rb_arena.proofs.Growing.{not_high, length-entries}
use Rattle.rb_arena.proofs.Paths.{above-place}

module _ {X S B : Type 0} (w : Weaving X S B) (L : Lawful w) (is_near : B → Type 0) (is_item : X → Type 0) (is_sum is_value : S → Type 0)
    (sums : Sums w is_item is_sum) (parts : (a b : S) → is_value (w.join a b) → is_value a × is_value b)
    (within : B → B → Type 0) (widened : B → B → Option B) (within_near : (r b : B) → within r b → is_near b)
    (widens : (r by s b : B) → widened r by ≡ Some s → within r b → within s b × within s (w.plus by b)) where
  module _ (from reach by : B) (wide : widened from by ≡ Some reach) (beside : Tree (Data X S B)) (k : Hole (Data X S B)) where
    pub list-moved : entries w w.still (plug (moved w by k) tip) ≡ lefts w k ++ shifted w by (rights w k)
    list-moved = let none : Tree (Data X S B) = tip in
        entries-plug w L is_near (moved w by k) none ∙ (λ j. lefts-moved w by k j ++ rights-moved w L by k j)

    module _ (m : map.FinMap nat_cmp (Slot (Data X S B))) (root : Option ℕ) (at : Option (ℕ × Side)) (h : CanShiftFrom w beside m root (within from) is_item is_value at by k) where
      at_hole : within from (shift_at w k)
      at_hole = let none : Tree (Data X S B) = tip in woven_at w L (within from) k none h.0.1

      slack_before : Slack w (within from) k
      slack_before = let none : Tree (Data X S B) = tip in slack_of w L (within from) is_item is_sum is_value sums parts k none h.0.1

      pub can_shift : CanShift w is_near is_item m root beside at by 128 tip k
      can_shift = (
        h.0.0,
        within_near from (shift_at w k) at_hole,
        slack-moved w L (within from) is_near by (λ b g. within_near from b g) (λ b g. within_near reach (w.plus by b) (widens from by reach b wide g).1) k slack_before,
        items_right w L is_near is_item is_sum is_value sums parts (lefts w k) (shifted w by (rights w k)) h.2.0,
        h.0.2,
      )

      pub slack_after : (m2 : map.FinMap nat_cmp (Slot (Data X S B))) (root2 parent : Option ℕ) → parent ≡ above_place at → Made beside m2 root2 (plug (moved w by k) tip)
          → IsSlack w (within reach) is_item is_value beside m2 root2 parent 128 (plug (moved w by k) tip)
      slack_after m2 root2 parent up made =
          let le = h.0.2 in let deep = depth-moved w by k in (
            moved w by k,
            (
              tip,
              refl,
              made,
              up ∙ ap above_place h.0.0.0 ∙ above-place k ∙ sym (above-moved w by k),
              subst (within reach) (sym (shift_at-moved w by k)) (widens from by reach (shift_at w k) wide at_hole).0,
              slack-moved w L (within from) (within reach) by (λ b g. (widens from by reach b wide g).0) (λ b g. (widens from by reach b wide g).1) k slack_before,
              subst (Valued w is_item is_value) (sym list-moved) h.2,
              omega (arith, le, deep),
            ),
          )

      pub mended_after : (m2 : map.FinMap nat_cmp (Slot (Data X S B))) (root2 : Option ℕ) → RenewedFrom w (within reach) beside m2 root2 (plug (moved w by k) tip)
          → Mended w (within reach) beside m2 root2 (lefts w k ++ shifted w by (rights w k))
      mended_after m2 root2 (u, made, wv, alike) =
          let whole = plug (moved w by k) tip in
          let (n, (c, r)) = balanced_alike (plug k tip) whole (sym (bare-moved w by k tip)) h.1 in
          (u, made, (wv, same_items w w.still u whole alike ∙ list-moved), (n, (c, same_colours c n whole u (sym alike) r)))

  module _ (reach by : B) (beside : Tree (Data X S B)) (m : map.FinMap nat_cmp (Slot (Data X S B))) (root : Option ℕ) (es : List (ℕ × X)) where
    pub can_level : (acc : B) → acc ≡ w.still → (h : Stores w (within reach) is_item is_value beside m root es) → CanLevel w is_near is_item is_value beside m root root acc 128 top h.0.0
    can_level acc same ((t, made, (wv, e), b), v, few) =
        let n = length-entries w w.still t in let long = ap length e in let low = not_high t b (omega (arith, n, long, few)) in
        let P : B → Type 0 = λ a. CanLevel w is_near is_item is_value beside m root root a 128 top t in
        subst P (sym same) (made, made.from, woven_wider w (within reach) is_near (within_near reach) w.still t wv, subst (Valued w is_item is_value) (sym e) v, omega (arith, low))

    levelled_within : (is_still : B → Type 0) → is_still w.still → (m2 : map.FinMap nat_cmp (Slot (Data X S B))) (root2 : Option ℕ) (h : Stores w (within reach) is_item is_value beside m root es)
        → Made beside m2 root2 (levelled w w.still h.0.0) → Mended w is_still beside m2 root2 es
    levelled_within is_still still m2 root2 ((t, made, (wv, e), b), v, few) after =
        (levelled w w.still t, after, (woven-levelled w L (within reach) is_still still w.still t wv, entries-levelled w L w.still t ∙ e), balanced_alike t (levelled w w.still t) (sym (bare-levelled w w.still t)) b)

    -- the result once all shifts in the tree are applied
    pub reaches_levelled : within w.still w.still → (found : Option B) → found ≡ widened w.still by → (m2 : map.FinMap nat_cmp (Slot (Data X S B))) (root2 : Option ℕ) (h : Stores w (within reach) is_item is_value beside m root es)
        → Made beside m2 root2 (levelled w w.still h.0.0) → Reaches w beside m2 root2 within widened es reach by found
    reaches_levelled starts None is m2 root2 ((t, made, (wv, e), b), v, few) after =
        (levelled_within (within reach) (near_of w L (within reach) w.still t wv) m2 root2 ((t, made, (wv, e), b), v, few) after, sym is)
    reaches_levelled starts (Some found) is m2 root2 h after = (w.still, levelled_within (within w.still) starts m2 root2 h after, sym is)

module _ {W X S B K : Type 0} (w : Ghosts W X S B K) (reach by : B) where
  pub found_at_once : (tree : Links (Data X S B)) (found : Option B) (wide : B) → found ≡ w.widened reach by → found ≡ Some wide → FindsReach w tree tree reach by (Some wide)
  unfolding FindsReach
  found_at_once tree found wide is some = λ beside es stored. (reach, stored.0, sym is ∙ some)

  pub stored_levels : (tree : Links (Data X S B)) (acc : B) → StoresWithin w tree reach → acc ≡ w.weaving.still → CanLevelAt w tree tree.root acc 128
  unfolding StoresWithin CanLevelAt
  stored_levels tree acc (l, (beside, (es, h))) still =
      (beside, (h.0.0, (top, can_level w.weaving l.laws w.is_near w.is_item w.is_sum w.is_value l.sums l.parts w.within w.widened l.within_near l.widens reach by beside tree.nodes.live tree.root es acc still h)))

  pub found_levelled : (old new : Links (Data X S B)) (acc start : B) (found : Option B) → StoresWithin w old reach → acc ≡ w.weaving.still → Levels w old new old.root acc 128
      → start ≡ w.weaving.still → found ≡ w.widened start by → FindsReach w old new reach by found
  unfolding StoresWithin Levels FindsReach
  found_levelled old new acc start found (l, some) still levels same is = λ beside es h.
      let ready = can_level w.weaving l.laws w.is_near w.is_item w.is_sum w.is_value l.sums l.parts w.within w.widened l.within_near l.widens reach by beside old.nodes.live old.root es acc still h in
      let made = subst (λ b. Made beside new.nodes.live new.root (levelled w.weaving b h.0.0)) still (levels beside h.0.0 top ready) in
      reaches_levelled w.weaving l.laws w.is_near w.is_item w.is_sum w.is_value l.sums l.parts w.within w.widened l.within_near l.widens reach by beside old.nodes.live old.root es l.starts_within
      found (is ∙ ap (λ b. w.widened b by) same) new.nodes.live new.root h made

pub ruleset reaches = (found_at_once, stored_levels, found_levelled)

module _ {W X S B K : Type 0} (w : Ghosts W X S B K) (old : Links (Data X S B)) (at : Option (ℕ × Side)) (by : B) where
  module _ (l : LawsOf w) (from reach : B) (beside : Tree (Data X S B)) (k : Hole (Data X S B)) (wide : w.widened from by ≡ Some reach)
      (can : CanShiftFrom w.weaving beside old.nodes.live old.root (w.within from) w.is_item w.is_value at by k) where
    may_shift : CanShift w.weaving w.is_near w.is_item old.nodes.live old.root beside at by 128 tip k
    may_shift = can_shift w.weaving l.laws w.is_near w.is_item w.is_sum w.is_value l.sums l.parts w.within w.widened l.within_near l.widens from reach by wide beside k old.nodes.live old.root at can

    slack_shifted : (mid : Links (Data X S B)) (parent : Option ℕ) → ShiftsUp w old mid at by → parent ≡ above_place at
        → IsSlack w.weaving (w.within reach) w.is_item w.is_value beside mid.nodes.live mid.root parent 128 (plug (moved w.weaving by k) tip)
    unfolding ShiftsUp
    slack_shifted mid parent shifts is =
        slack_after w.weaving l.laws w.is_near w.is_item w.is_sum w.is_value l.sums l.parts w.within w.widened l.within_near l.widens from reach by wide beside k old.nodes.live old.root at can
        mid.nodes.live mid.root parent is (shifts beside tip k may_shift)

    -- the items after an empty hole may move
    pub can_shift_all : CanShiftAll w old at by
    unfolding CanShiftAll
    can_shift_all = (l, (from, (reach, (beside, (k, wide, can)))))

  pub can_shift_up : CanShiftAll w old at by → CanShiftUp w old at by
  unfolding CanShiftAll CanShiftUp
  can_shift_up (l, (from, (reach, (beside, (k, wide, can))))) = (l, (beside, (tip, (k, may_shift l from reach beside k wide can))))

  -- the sums above the place may be recomputed afterwards
  pub shifted_slack : (mid : Links (Data X S B)) (parent : Option ℕ) → CanShiftAll w old at by → ShiftsUp w old mid at by → parent ≡ above_place at → IsSlackFrom w mid parent 128
  unfolding CanShiftAll IsSlackFrom
  shifted_slack mid parent (l, (from, (reach, (beside, (k, wide, can))))) shifts is = (reach, (beside, (_, slack_shifted l from reach beside k wide can mid parent shifts is)))

  pub shifted_all : (mid new : Links (Data X S B)) (parent : Option ℕ) → CanShiftAll w old at by → ShiftsUp w old mid at by → RenewsFrom w mid new parent 128 → parent ≡ above_place at → ShiftsAll w old new at by
  unfolding CanShiftAll RenewsFrom ShiftsAll
  shifted_all mid new parent (l, some) shifts renews is = λ from reach beside k wide can.
      mended_after w.weaving l.laws w.is_near w.is_item w.is_sum w.is_value l.sums l.parts w.within w.widened l.within_near l.widens from reach by wide beside k old.nodes.live old.root at can
      new.nodes.live new.root (renews reach beside _ (slack_shifted l from reach beside k wide can mid parent shifts is))

pub ruleset shifting = (can_shift_up, shifted_slack, shifted_all)
