-- The sum of the shifts on the path to a place, computed from the place up.
use Rattle.std.proofs.Common.{◌≡◌, ℕ, suc, ◌+◌, ◌-◌, ◌≤◌, Bool, Option, Some, None, refl, sym, ap, ◌∙◌, subst, arith}
use Rattle.std.proofs.lemmas.Option.{none-some}
use Rattle.std.specs.Option.{unwrap_or}
use Rattle.std.specs.Ordering.{nat_cmp}
use Rattle.std.specs.FinMap as map
use Rattle.rb_rules.specs.declared.slot.Data.{Data}
use Rattle.rb_rules.specs.declared.slot.Side.{Side}
use Rattle.rb_rules.specs.declared.slot.Side.TheVariants.{Left, Right}
use Rattle.rb_rules.specs.declared.slot.Slot.{Slot}
use Rattle.rb_rules.specs.Tree.{Tree, Hole, top, on, forked, plug, above, root_of, depth}
use Rattle.rb_rules.specs.Memory.{Made, AtSpot, Stands, place_of}
use Rattle.rb_rules.specs.Weaving.{Weaving, Lawful, HeldBy}
use Rattle.rb_rules.specs.Woven.{Woven, shift_at}
use Rattle.rb_rules.proofs.Knots.{data-sided}
use Rattle.rb_rules.proofs.Ups.{hole_top, hole_on, spot_of, spot_hole, stands_above, slot_above}
use Rattle.rb_rules.proofs.Weaves.{woven_at, near_of}
use Rattle.rb_arena.proofs.Slots.{upper_at}
use Rattle.rb_arena.specs.Placing.{passed, above_place, CanPass, IsShiftTo, IsWovenPlace, PathSoFar, StepsTo, WovenIn}
use Rattle.rb_arena.specs.Relative.{LawsOf}
use Rattle.raw_arena.specs.Arena.{IsLive}
use Rattle.std.specs.Prelude.{IfSome}
use Rattle.rb_rules.proofs.Live.{slot_here}
use Rattle.rb_arena.specs.declared.links.Links.{Links}
use Rattle.rb_rules.specs.declared.weave.Weave.{Ghosts}

pub above-place : {D : Type 0} (k : Hole D) → above_place (place_of k) ≡ above k
above-place top = refl
above-place (on s c i d x k) = refl

module _ {X S B : Type 0} (w : Weaving X S B) (L : Lawful w) where
  pub still_plus : (a : B) → w.plus w.still a ≡ a
  still_plus a = ap (w.plus w.still) (sym (L.plus_minus a w.still)) ∙ sym (L.plus_assoc w.still w.still (w.minus a w.still))
      ∙ ap (λ z. w.plus z (w.minus a w.still)) (L.plus_still w.still) ∙ L.plus_minus a w.still

  module _ (is_near : B → Type 0) (beside : Tree (Data X S B)) (m : map.FinMap nat_cmp (Slot (Data X S B))) (root : Option ℕ) where
    -- the rest of the path from `at` up, where `by` is the sum so far
    abbrev pub Along : B → Option (ℕ × Side) → B → ℕ → Type 0
    Along all at by n =
        (k : Hole (Data X S B)) × ((t : Tree (Data X S B)) × (at ≡ place_of k) × Made beside m root (plug k t) × Woven w is_near w.still (plug k t) × (all ≡ w.plus (shift_at w k) by) × (depth k ≤ n))

    shift_step : (s : Side) (c : Bool) (p : ℕ) (d : Data X S B) (x : Tree (Data X S B)) (k : Hole (Data X S B)) (by : B)
        → w.plus (shift_at w (on s c p d x k)) by ≡ w.plus (shift_at w k) (passed w s d.delta by)
    shift_step Left c p d x k by = refl
    shift_step Right c p d x k by = L.plus_assoc (shift_at w k) d.delta by

    pub stands_next : (all : B) (a : ℕ × Side) (by : B) (n : ℕ) → Along all (Some a) by n → Stands m root a.0
    stands_next all a by n (k, (t, e, made, wv, sum, le)) =
        let u = upper_at m root k t made (sym e) in (u.spot, u.made)

    datum_next : (s : Side) (c : Bool) (p : ℕ) (d : Data X S B) (x : Tree (Data X S B)) (k : Hole (Data X S B)) (t : Tree (Data X S B)) (slot : Slot (Data X S B))
        → Made beside m root (plug (on s c p d x k) t) → map.get m p ≡ Some slot → slot.«data» ≡ d
    datum_next s c p d x k t slot made f = ap (λ o. (unwrap_or o slot).«data») (sym f ∙ slot_above m root s c p d x k t made) ∙ data-sided s (above k) (root_of t) (root_of x) c d

    pub held_next : (all : B) (a : ℕ × Side) (by : B) (n : ℕ) (slot : Slot (Data X S B)) → is_near all → Along all (Some a) by n → map.get m a.0 ≡ Some slot
        → HeldBy w is_near (passed w a.1 slot.«data».delta by)
    held_next all a by n slot near (k, (t, e, made, wv, sum, le)) f =
        let (c, (d, x, k2, is)) = hole_on k a.0 a.1 (sym e) in let here = subst (λ l. Made beside m root (plug l t)) is made in
        let wv2 = woven_at w L is_near k2 (forked a.1 c a.0 d t x) (subst (λ l. Woven w is_near w.still (plug l t)) is wv) in
        let same = datum_next a.1 c a.0 d x k2 t slot here f in
        let reach : all ≡ w.plus (shift_at w k2) (passed w a.1 slot.«data».delta by)
        = sum ∙ ap (λ l. w.plus (shift_at w l) by) is ∙ shift_step a.1 c a.0 d x k2 by ∙ ap (λ z. w.plus (shift_at w k2) (passed w a.1 z.delta by)) (sym same) in
        (shift_at w k2, near_of w L is_near (shift_at w k2) (forked a.1 c a.0 d t x) wv2, subst is_near reach near)

    pub along_next : (all : B) (a : ℕ × Side) (by : B) (n : ℕ) (slot : Slot (Data X S B)) (at2 : Option (ℕ × Side)) → Along all (Some a) by (suc n) → map.get m a.0 ≡ Some slot
        → AtSpot m root a.0 (λ s. at2 ≡ place_of s.hole) → Along all at2 (passed w a.1 slot.«data».delta by) n
    along_next all a by n slot at2 (k, (t, e, made, wv, sum, le)) f next =
        let (c, (d, x, k2, is)) = hole_on k a.0 a.1 (sym e) in let here = subst (λ l. Made beside m root (plug l t)) is made in
        let same = datum_next a.1 c a.0 d x k2 t slot here f in let deep : depth k ≡ suc (depth k2) = ap depth is ∙ omega arith in (
          k2,
          (
            forked a.1 c a.0 d t x,
            next (spot_of beside a.1 c d t x k2) (stands_above m root a.1 c a.0 d x k2 t here) ∙ ap place_of (spot_hole beside a.1 c d t x k2),
            here,
            subst (λ l. Woven w is_near w.still (plug l t)) is wv,
            sum ∙ ap (λ l. w.plus (shift_at w l) by) is ∙ shift_step a.1 c a.0 d x k2 by ∙ ap (λ z. w.plus (shift_at w k2) (passed w a.1 z.delta by)) (sym same),
            omega (arith, deep, le),
          ),
        )

    pub along_done : (all by : B) (n : ℕ) → Along all None by n → by ≡ all
    along_done all by n (k, (t, e, made, wv, sum, le)) = sym (sum ∙ ap (λ l. w.plus (shift_at w l) by) (hole_top k (sym e)) ∙ still_plus by)

    pub along_some : (all : B) (a : ℕ × Side) (by : B) (n : ℕ) → Along all (Some a) by n → 1 ≤ n
    along_some all a by n (top, (t, e, made, wv, sum, le)) = absurd (none-some a (sym e))
    along_some all a by n (on s c i d x k, (t, e, made, wv, sum, le)) = omega (arith, le)

    pub along_over : (all : B) (at : Option (ℕ × Side)) (by : B) → Along all at by 0 → at ≡ None
    along_over all at by (top, (t, e, made, wv, sum, le)) = e
    along_over all at by (on s c i d x k, (t, e, made, wv, sum, le)) = absurd (omega arith)

    pub along_start : (k : Hole (Data X S B)) (t : Tree (Data X S B)) (at : Option (ℕ × Side)) (n : ℕ) → at ≡ place_of k → Made beside m root (plug k t) → Woven w is_near w.still (plug k t) → depth k ≤ n
        → Along (shift_at w k) at w.still n × is_near (shift_at w k)
    along_start k t at n e made wv le = ((k, (t, e, made, wv, sym (L.plus_still (shift_at w k)), le)), near_of w L is_near (shift_at w k) t (woven_at w L is_near k t wv))

-- the walk up from a place, step by step
module _ {W X S B K : Type 0} (w : Ghosts W X S B K) (tree : Links (Data X S B)) (from : Option (ℕ × Side)) where
  module _ (at : Option (ℕ × Side)) (by : B) (turn : ℕ) where
    abbrev Path : LawsOf w → Type 0
    Path l =
        (beside t : Tree (Data X S B)) (k : Hole (Data X S B)) → WovenIn w tree from beside t k
        → Along w.weaving l.laws w.is_near beside tree.nodes.live tree.root (shift_at w.weaving k) at by (depth k - turn) × w.is_near (shift_at w.weaving k) × (turn ≤ depth k)

    standing : (o : Option (ℕ × Side)) → at ≡ o → (place : IsWovenPlace w tree from) → ((l : LawsOf w) → Path l) → IfSome o (λ a. Stands tree.nodes.live tree.root a.0 × IsLive tree.nodes a.0)
    unfolding IsWovenPlace
    standing None e place path = tt
    standing (Some a) e (l, (beside, (t, (k, h)))) path =
        let stands = stands_next w.weaving l.laws w.is_near beside tree.nodes.live tree.root (shift_at w.weaving k) a by (depth k - turn) (rw e at (path l beside t k h).0) in
        (stands, (_, slot_here tree.nodes.live tree.root stands.0 a.0 stands.1))

    so_far : IsWovenPlace w tree from → ((l : LawsOf w) → Path l) → PathSoFar w tree from at by turn
    unfolding IsWovenPlace PathSoFar
    so_far (l, some) path = (standing at refl (l, some) path, path l)

  pub path_starts : (by : B) → IsWovenPlace w tree from → by ≡ w.weaving.still → PathSoFar w tree from from by 0
  path_starts by place still = so_far from by 0 place (λ l beside t k ((e, made), wv, le).
      let (along, near) = along_start w.weaving l.laws w.is_near beside tree.nodes.live tree.root k t from (depth k - 0) e made wv (omega arith) in
      (rw still along, near, omega arith))

  module _ (here_ : Option (ℕ × Side)) (by : B) (turn : ℕ) where
    pub path_ends : IsWovenPlace w tree from → PathSoFar w tree from here_ by turn → here_ ≡ None → IsShiftTo w tree from by
    unfolding IsWovenPlace PathSoFar IsShiftTo
    path_ends (l, some) (stands, path) none = λ beside t k h.
        along_done w.weaving l.laws w.is_near beside tree.nodes.live tree.root (shift_at w.weaving k) by (depth k - turn) (rw none at (path beside t k h).0)

    pub path_over : IsWovenPlace w tree from → PathSoFar w tree from here_ by turn → 128 ≤ turn → IsShiftTo w tree from by
    unfolding IsWovenPlace PathSoFar IsShiftTo
    path_over (l, some) (stands, path) all = λ beside t k h.
        let low = h.2 in let over : depth k - turn ≡ 0 = omega (arith, all, low) in let last = rw over at (path beside t k h).0 in
        let none = along_over w.weaving l.laws w.is_near beside tree.nodes.live tree.root (shift_at w.weaving k) here_ by last in
        along_done w.weaving l.laws w.is_near beside tree.nodes.live tree.root (shift_at w.weaving k) by 0 (rw none at last)

    pub path_steps : (steps : ℕ) → PathSoFar w tree from here_ by turn → steps ≡ turn → StepsTo w tree from steps
    unfolding PathSoFar StepsTo
    path_steps steps (stands, path) is = λ beside t k h. let few = (path beside t k h).2 in omega (arith, few, is)

    module _ (at : ℕ × Side) (slot : Slot (Data X S B)) (some : here_ ≡ Some at) (found : map.get tree.nodes.live at.0 ≡ Some slot) where
      pub can_pass : IsWovenPlace w tree from → PathSoFar w tree from here_ by turn → CanPass w at.1 slot.«data».delta by
      unfolding IsWovenPlace PathSoFar CanPass
      can_pass (l, (beside, (t, (k, h)))) (stands, path) =
          let (along, near, few) = path beside t k h in
          held_next w.weaving l.laws w.is_near beside tree.nodes.live tree.root (shift_at w.weaving k) at by (depth k - turn) slot near (rw some at along) found

      pub path_next : (next : Option (ℕ × Side)) (by2 : B) → IsWovenPlace w tree from → PathSoFar w tree from here_ by turn → AtSpot tree.nodes.live tree.root at.0 (λ s. next ≡ place_of s.hole)
          → by2 ≡ passed w.weaving at.1 slot.«data».delta by → PathSoFar w tree from next by2 (turn + 1)
      unfolding PathSoFar
      path_next next by2 place (stands, path) placed is = so_far next by2 (turn + 1) place (λ l beside t k h.
          let (along, near, few) = path beside t k h in let here = rw some at along in
          let more = along_some w.weaving l.laws w.is_near beside tree.nodes.live tree.root (shift_at w.weaving k) at by (depth k - turn) here in
          let fewer : depth k - turn ≡ suc (depth k - (turn + 1)) = omega (arith, more) in
          (rw is (along_next w.weaving l.laws w.is_near beside tree.nodes.live tree.root (shift_at w.weaving k) at by (depth k - (turn + 1)) slot next (rw fewer at here) found placed), near, omega (arith, more)))

pub ruleset path_shifts = (path_starts, path_ends, path_over, path_steps, can_pass, path_next)

-- the shift of a path is the only shift
pub only_shift : {W X S B K : Type 0} (w : Ghosts W X S B K) (tree : Links (Data X S B)) (at : Option (ℕ × Side)) (only : B) → ((by : B) → by ≡ only) → IsShiftTo w tree at only
unfolding IsShiftTo
only_shift w tree at only h = λ beside t k there. sym (h (shift_at w.weaving k))
