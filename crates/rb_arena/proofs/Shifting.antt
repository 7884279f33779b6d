-- A walk up that moves the items after a place.
use Rattle.std.proofs.Common.{◌≡◌, ℕ, suc, ◌+◌, Bool, ◌∷◌, Option, Some, None, refl, sym, ap, ◌∙◌, subst, arith}
use Rattle.std.specs.Prelude.{IfSome}
use Rattle.std.proofs.lemmas.List.{map-append}
use Rattle.std.specs.Ordering.{nat_cmp}
use Rattle.std.specs.FinMap as map
use Rattle.rb_rules.specs.declared.slot.Data.{Data}
use Rattle.rb_rules.specs.declared.slot.Side.{Side}
use Rattle.rb_rules.specs.declared.slot.Side.TheVariants.{Left, Right}
use Rattle.rb_rules.specs.declared.slot.Slot.{Slot}
use Rattle.rb_rules.specs.Tree.{Tree, fork, Hole, top, on, plug}
use Rattle.rb_rules.specs.Memory.{Made, AtSpot, Stands, place_of, Spot}
use Rattle.rb_rules.specs.Weaving.{Weaving, Lawful, Sums}
use Rattle.rb_rules.specs.Woven.{entries, AllItems, shift_at, rights}
use Rattle.rb_rules.specs.Shifts.{shifted, moved, moved_datum}
use Rattle.rb_rules.proofs.Held.{items_right}
use Rattle.rb_rules.proofs.Shifts.{shift_at-moved, shift_first}
use Rattle.rb_rules.proofs.Ups.{hole_top, hole_on}
use Rattle.rb_rules.proofs.Weaves.{near_of}
use Rattle.rb_rules.specs.declared.weave.Weave.{Ghosts}
use Rattle.rb_arena.specs.declared.links.Links.{Links}
use Rattle.rb_arena.specs.Nodes.{Rewritten}
use Rattle.rb_arena.specs.Shifting.{CanMove, CanShift, CanShiftUp, MovesSoFar, ShiftsUp}

-- the place is that of a hole of some tree; moving the rest of the path in that tree gives the whole moved tree
abbrev pub Shifting : {X S B : Type 0} → Weaving X S B → (B → Type 0) → (X → Type 0) → map.FinMap nat_cmp (Slot (Data X S B)) → Option ℕ → Tree (Data X S B) → Option (ℕ × Side) → B → ℕ → Tree (Data X S B) → Type 0
Shifting {X = X} {S = S} {B = B} w is_near is_item m root beside at by n whole =
    (t : Tree (Data X S B)) × ((k : Hole (Data X S B)) × CanShift w is_near is_item m root beside at by n t k × (plug (moved w by k) t ≡ whole))

module _ {X S B : Type 0} (w : Weaving X S B) (L : Lawful w) (is_near : B → Type 0) (is_item : X → Type 0) (is_sum is_value : S → Type 0)
    (sums : Sums w is_item is_sum) (parts : (a b : S) → is_value (w.join a b) → is_value a × is_value b) where
  module _ (m : map.FinMap nat_cmp (Slot (Data X S B))) (root : Option ℕ) (beside : Tree (Data X S B)) (by : B) (n : ℕ) (whole : Tree (Data X S B)) where
    -- the node above the place
    Above : ℕ → Side → Type 0
    Above i s =
        (t : Tree (Data X S B)) × ((c : Bool) × ((d : Data X S B) × ((x : Tree (Data X S B)) × ((k : Hole (Data X S B))
        × CanShift w is_near is_item m root beside (Some (i, s)) by n t (on s c i d x k) × (plug (moved w by (on s c i d x k)) t ≡ whole)))))

    above : (i : ℕ) (s : Side) → Shifting w is_near is_item m root beside (Some (i, s)) by n whole → Above i s
    unfolding Above
    above i s (t, (k, can, same)) =
        let (c, (d, x, k2, is)) = hole_on k i s (sym can.0.0) in
        (t, (c, (d, (x, (k2, subst (CanShift w is_near is_item m root beside (Some (i, s)) by n t) is can, subst (λ q. plug (moved w by q) t ≡ whole) is same)))))

    pub stands_above : (i : ℕ) (s : Side) → Shifting w is_near is_item m root beside (Some (i, s)) by n whole → Stands m root i
    unfolding Above
    stands_above i Left h = let (t, (c, (d, (x, (k, can, same))))) = above i Left h in (record { beside = beside; hole = k; red = c; datum = d; left = t; right = x }, can.0.1)
    stands_above i Right h = let (t, (c, (d, (x, (k, can, same))))) = above i Right h in (record { beside = beside; hole = k; red = c; datum = d; left = x; right = t }, can.0.1)

    -- a node that the path leaves to the left may move
    pub can_move : (i : ℕ) → Shifting w is_near is_item m root beside (Some (i, Left)) by n whole → CanMove w is_near is_item m root by i
    unfolding Above CanMove
    can_move i h =
        let (t, (c, (d, (x, (k, (at, near, slack, items, le), same))))) = above i Left h in let acc = shift_at w k in (
          record { beside = beside; hole = k; red = c; datum = d; left = t; right = x },
          at.1,
          (acc, near, subst is_item (sym (shift_first w L acc by d.item)) items.0),
          (acc, near, subst (λ b. is_near (w.plus b (w.plus by d.delta))) (shift_at-moved w by k) (near_of w L is_near _ x slack.0)),
        )

    pub ended : Shifting w is_near is_item m root beside None by n whole → Made beside m root whole
    ended (t, (k, ((at, made), near, slack, items, le), same)) =
        let is = hole_top k (sym at) in subst (Made beside m root) (sym (ap (λ q. plug (moved w by q) t) is) ∙ same) (subst (λ q. Made beside m root (plug q t)) is made)

  pub none_above : (m : map.FinMap nat_cmp (Slot (Data X S B))) (root : Option ℕ) (beside : Tree (Data X S B)) (at : Option (ℕ × Side)) (by : B) (whole : Tree (Data X S B))
      → Shifting w is_near is_item m root beside at by 0 whole → at ≡ None
  none_above m root beside at by whole (t, (top, ((e, made), near, slack, items, le), same)) = e
  none_above m root beside at by whole (t, (on s c i d x k, ((e, made), near, slack, items, le), same)) = absurd (omega arith)

  module _ (m : map.FinMap nat_cmp (Slot (Data X S B))) (root : Option ℕ) (beside : Tree (Data X S B)) (by : B) (n : ℕ) (whole : Tree (Data X S B)) where
    -- a node that the path leaves to the left has moved
    pub passed_left : (i : ℕ) (at : Option (ℕ × Side)) (m2 : map.FinMap nat_cmp (Slot (Data X S B))) (root2 : Option ℕ) → Shifting w is_near is_item m root beside (Some (i, Left)) by (suc n) whole
        → AtSpot m root i (λ s. at ≡ place_of s.hole) → AtSpot m root i (λ s. Made s.beside m2 root2 (plug s.hole (fork s.red i (moved_datum w by s.datum) s.left s.right)))
        → Shifting w is_near is_item m2 root2 beside at by n whole
    unfolding Above
    passed_left i at m2 root2 h up done =
        let (t, (c, (d, (x, (k, ((_, made), near, slack, items, le), same))))) = above m root beside by (suc n) whole i Left h in
        let s : Spot (Data X S B) = record { beside = beside; hole = k; red = c; datum = d; left = t; right = x } in
        let here_ = (i, w.shift (shift_at w k) d.item) ∷ entries w (w.plus (shift_at w k) d.delta) x in
        let after = items_right w L is_near is_item is_sum is_value sums parts (shifted w by here_) (shifted w by (rights w k))
        (subst (AllItems w is_item) (map-append (λ e. (e.0, w.shift by e.1)) here_ (rights w k)) items) in
        (fork c i (moved_datum w by d) t x, (k, ((up s made, done s made), near, slack.1, after, omega (arith, le)), same))

    -- a node that the path leaves to the right is unchanged
    pub passed_right : (i : ℕ) (at : Option (ℕ × Side)) → Shifting w is_near is_item m root beside (Some (i, Right)) by (suc n) whole → AtSpot m root i (λ s. at ≡ place_of s.hole)
        → Shifting w is_near is_item m root beside at by n whole
    unfolding Above
    passed_right i at h up =
        let (t, (c, (d, (x, (k, ((_, made), near, slack, items, le), same))))) = above m root beside by (suc n) whole i Right h in
        let s : Spot (Data X S B) = record { beside = beside; hole = k; red = c; datum = d; left = x; right = t } in
        let near2 = subst is_near (shift_at-moved w by k) (near_of w L is_near _ x slack.0) in
        (fork c i d x t, (k, ((up s made, made), near2, slack.1, items, omega (arith, le)), same))

-- the walk, step by step
module _ {W X S B K : Type 0} (w : Ghosts W X S B K) (old : Links (Data X S B)) (from : Option (ℕ × Side)) (by : B) where
  module _ (tree : Links (Data X S B)) (at : Option (ℕ × Side)) (n : ℕ) where
    abbrev Walks : Type 0
    Walks =
        (beside t : Tree (Data X S B)) (k : Hole (Data X S B)) → CanShift w.weaving w.is_near w.is_item old.nodes.live old.root beside from by 128 t k
        → Shifting w.weaving w.is_near w.is_item tree.nodes.live tree.root beside at by n (plug (moved w.weaving by k) t)

    standing : (o : Option (ℕ × Side)) → at ≡ o → CanShiftUp w old from by → Walks → IfSome o (λ a. Stands tree.nodes.live tree.root a.0)
    unfolding CanShiftUp
    standing None e can walks = tt
    standing (Some a) e (l, (beside, (t, (k, h)))) walks =
        stands_above w.weaving l.laws w.is_near w.is_item w.is_sum w.is_value l.sums l.parts tree.nodes.live tree.root beside by n (plug (moved w.weaving by k) t) a.0 a.1 (rw e at (walks beside t k h))

    so_far : CanShiftUp w old from by → Walks → MovesSoFar w old tree from by at n
    unfolding MovesSoFar
    so_far can walks = (standing at refl can walks, walks)

  pub shift_starts : CanShiftUp w old from by → MovesSoFar w old old from by from 128
  shift_starts can = so_far old from 128 can (λ beside t k h. (t, (k, h, refl)))

  module _ (tree : Links (Data X S B)) (here_ : Option (ℕ × Side)) where
    pub shift_ends : (n : ℕ) → CanShiftUp w old from by → MovesSoFar w old tree from by here_ n → here_ ≡ None → ShiftsUp w old tree from by
    unfolding CanShiftUp MovesSoFar ShiftsUp
    shift_ends n (l, some) (stands, walks) none = λ beside t k h.
        ended w.weaving l.laws w.is_near w.is_item w.is_sum w.is_value l.sums l.parts tree.nodes.live tree.root beside by n (plug (moved w.weaving by k) t) (rw none at (walks beside t k h))

    pub shift_over : CanShiftUp w old from by → MovesSoFar w old tree from by here_ 0 → ShiftsUp w old tree from by
    unfolding CanShiftUp MovesSoFar ShiftsUp
    shift_over (l, some) (stands, walks) = λ beside t k h.
        let whole = plug (moved w.weaving by k) t in let last = walks beside t k h in
        let none = none_above w.weaving l.laws w.is_near w.is_item w.is_sum w.is_value l.sums l.parts tree.nodes.live tree.root beside here_ by whole last in
        ended w.weaving l.laws w.is_near w.is_item w.is_sum w.is_value l.sums l.parts tree.nodes.live tree.root beside by 0 whole (rw none at last)

    module _ (at : ℕ × Side) (some : here_ ≡ Some at) where
      turned_to : (s : Side) → at.1 ≡ s → here_ ≡ Some (at.0, s)
      turned_to s side = some ∙ ap (λ q. Some (at.0, q)) side

      pub can_move_there : (more : ℕ) → CanShiftUp w old from by → MovesSoFar w old tree from by here_ more → at.1 ≡ Left → CanMove w.weaving w.is_near w.is_item tree.nodes.live tree.root by at.0
      unfolding CanShiftUp MovesSoFar
      can_move_there more (l, (beside, (t, (k, h)))) (stands, walks) left =
          can_move w.weaving l.laws w.is_near w.is_item w.is_sum w.is_value l.sums l.parts tree.nodes.live tree.root beside by more (plug (moved w.weaving by k) t) at.0
          (rw (turned_to Left left) at (walks beside t k h))

      module _ (next : Option (ℕ × Side)) (placed : AtSpot tree.nodes.live tree.root at.0 (λ s. next ≡ place_of s.hole)) (n more : ℕ) (one : more ≡ n + 1) where
        fewer : more ≡ suc n
        fewer = omega (arith, one)

        pub shifts_left : (new : Links (Data X S B)) → CanShiftUp w old from by → MovesSoFar w old tree from by here_ more → at.1 ≡ Left → Rewritten tree new at.0 (λ s. moved_datum w.weaving by s.datum)
            → MovesSoFar w old new from by next n
        unfolding CanShiftUp MovesSoFar
        shifts_left new (l, can) (stands, walks) left made = so_far new next n (l, can) (λ beside t k h.
            passed_left w.weaving l.laws w.is_near w.is_item w.is_sum w.is_value l.sums l.parts tree.nodes.live tree.root beside by n (plug (moved w.weaving by k) t) at.0 next new.nodes.live new.root
            (rw (turned_to Left left, fewer) at (walks beside t k h)) placed made)

        pub shifts_right : CanShiftUp w old from by → MovesSoFar w old tree from by here_ more → at.1 ≡ Right → MovesSoFar w old tree from by next n
        unfolding CanShiftUp MovesSoFar
        shifts_right (l, can) (stands, walks) right = so_far tree next n (l, can) (λ beside t k h.
            passed_right w.weaving l.laws w.is_near w.is_item w.is_sum w.is_value l.sums l.parts tree.nodes.live tree.root beside by n (plug (moved w.weaving by k) t) at.0 next
            (rw (turned_to Right right, fewer) at (walks beside t k h)) placed)

pub ruleset shifting_up = (shift_starts, shift_ends, shift_over, can_move_there, shifts_left, shifts_right)
