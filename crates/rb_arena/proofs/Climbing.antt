-- A search among the items after a node, from its position on the way up.
use Rattle.std.proofs.Common.{◌≡◌, ℕ, ◌+◌, ◌-◌, ◌*◌, ◌^◌, ◌≤◌, Bool, List, [], ◌∷◌, ◌++◌, Option, Some, None, refl, sym, ap, ◌∙◌, subst, arith, append_assoc, inl, inr, lit<, pow-add}
use Rattle.std.proofs.Math.Nat.{mul-le-mul, pow-le-pow_right, pow-suc, pow-zero, one-mul}
use Rattle.std.specs.Prelude.{IfSome}
use Rattle.std.specs.Option.{unwrap_or}
use Rattle.std.specs.Ordering.{nat_cmp}
use Rattle.std.specs.FinMap as map
use Rattle.rb_rules.specs.declared.slot.Data.{Data}
use Rattle.rb_rules.specs.declared.slot.Side.{Side}
use Rattle.rb_rules.specs.declared.slot.Side.TheVariants.{Left, Right}
use Rattle.rb_rules.specs.declared.slot.Slot.{Slot}
use Rattle.rb_rules.specs.declared.weave.Turn.{Turn}
use Rattle.rb_rules.specs.declared.weave.Turn.TheVariants as turns
use Rattle.rb_rules.specs.Tree.{Tree, Hole, on, forked, plug, root_of, above, depth, height}
use Rattle.rb_rules.specs.Memory.{sided, Made, AtSpot, Stands, Spot, here, place_of}
use Rattle.rb_rules.specs.Weaving.{Weaving, Lawful, Sums, HeldItem, HeldSum, HeldBy}
use Rattle.rb_rules.specs.Woven.{entries, sum_of, Woven, Valued, rights, shift_at, whole_in}
use Rattle.rb_rules.proofs.Held.{held, items_right, valued_left, valued_right}
use Rattle.rb_rules.proofs.Live.{Live, live_root, slot_here}
use Rattle.rb_rules.proofs.Memories.{opened}
use Rattle.rb_rules.proofs.Spots.{whole_in_is}
use Rattle.rb_rules.proofs.Ups.{hole_top, hole_on, spot_of, spot_hole, stands_above, slot_above}
use Rattle.rb_rules.proofs.Weaves.{sum-append, woven_at, near_of, whole_is}
use Rattle.rb_arena.specs.declared.descend.Standing.{Standing}
use Rattle.rb_arena.specs.declared.links.Links.{Links}
use Rattle.rb_arena.specs.Searching.{Says, RightBefore, Found, AskedBefore, AskedLast, StandsIn, past_item, inside, past_subtree, right_of_node, items_after}
use Rattle.rb_arena.proofs.Growing.{hole_depth, depth_height}
use Rattle.rb_arena.proofs.Paths.{still_plus}

module _ {X S B Key : Type 0} (w : Weaving X S B) (turn : Key → S → X → Turn) (key : Key) where
  right_before : (us : List (ℕ × X)) (last : Option (ℕ × X × S)) → AskedBefore w turn key us last → RightBefore w turn key us
  right_before us None e = inl e
  right_before us (Some f) (ws, e, g, h) = inr (ws, ((f.0, f.1), e, h))

  asked_last : (us ts vs : List (ℕ × X)) (last : Option (ℕ × X × S)) → vs ≡ [] → AskedBefore w turn key us last → AskedLast w turn key us ts vs last
  asked_last us ts vs None none e = (e, none)
  asked_last us ts vs (Some f) none h = inl h

  -- The search has climbed to the hole `upper` and passed the items `earlier`. It would go down into `subtree`, after which only the
  -- items after the hole follow. It has passed n nodes; together with those above the hole they are at most `deep`.
  pub record Climb (whole : Tree (Data X S B)) (items : List (ℕ × X)) (deep : ℕ) (at : Option (ℕ × Side)) (by : B) (s : Standing X S B) (n : ℕ) : Type 0 where
    pub upper : Hole (Data X S B)
    pub lower : Tree (Data X S B)
    pub hole : Hole (Data X S B)
    pub subtree : Tree (Data X S B)
    pub earlier : List (ℕ × X)
    pub climbed : plug upper lower ≡ whole
    pub same : plug hole subtree ≡ whole
    pub place_is : at ≡ place_of upper
    pub path_is : by ≡ shift_at w upper
    pub low : n + depth upper ≤ deep
    pub listed : items ≡ earlier ++ (entries w (shift_at w hole) subtree ++ rights w upper)
    pub beyond : rights w hole ≡ rights w upper
    pub at_is : s.at ≡ root_of subtree
    pub by_is : s.by ≡ shift_at w hole
    pub before_is : s.before ≡ sum_of w earlier
    pub asked : AskedBefore w turn key earlier s.last

  -- the position at the node whose right subtree is searched first
  pub climb_starts : (p : Spot (Data X S B)) (id : ℕ) (at : Option (ℕ × Side)) (by : B) (slot : Slot (Data X S B)) (shift : B) (none : S) → at ≡ place_of p.hole → by ≡ shift_at w p.hole → slot.right ≡ root_of p.right
      → slot.«data» ≡ p.datum → shift ≡ w.plus by slot.«data».delta → none ≡ w.none
      → Climb (plug p.hole (here p id)) (items_after w p) (depth p.hole) at by (record { at = slot.right; by = shift; before = none; last = None }) 0
  climb_starts p id at by slot shift none e0 e1 e2 e3 e4 e5 = record {
    upper = p.hole;
    lower = here p id;
    hole = on Right p.red id p.datum p.left p.hole;
    subtree = p.right;
    earlier = [];
    climbed = refl;
    same = refl;
    place_is = e0;
    path_is = e1;
    low = omega arith;
    listed = refl;
    beyond = refl;
    at_is = e2;
    by_is = e4 ∙ (λ i. w.plus (e1 i) (e3 i).delta);
    before_is = e5;
    asked = refl;
  }

module _ {X S B Key : Type 0} {w : Weaving X S B} {turn : Key → S → X → Turn} {key : Key} {whole : Tree (Data X S B)} {items : List (ℕ × X)} {deep : ℕ} {at : Option (ℕ × Side)} {by : B} {s : Standing X S B} {n : ℕ}
    (c : Climb w turn key whole items deep at by s n) where
  abbrev within : List (ℕ × X)
  within = entries w (shift_at w c.hole) c.subtree

  -- at the root: the search goes down
  pub climb_ends : at ≡ None → StandsIn w turn key whole items s
  climb_ends over =
      let none : rights w c.hole ≡ [] = c.beyond ∙ ap (rights w) (hole_top c.upper (sym c.place_is ∙ over)) in record {
        hole = c.hole;
        subtree = c.subtree;
        earlier = c.earlier;
        same = c.same;
        listed = c.listed ∙ ap (λ l. c.earlier ++ (within ++ l)) (sym c.beyond);
        at_is = c.at_is;
        by_is = c.by_is;
        before_is = c.before_is;
        right_before = right_before w turn key c.earlier s.last c.asked;
        left_after = inl none;
        asked = asked_last w turn key c.earlier within (rights w c.hole) s.last none c.asked;
      }

  pub climb_over : (m : ℕ) → deep ≤ m → m ≤ n → at ≡ None
  climb_over m few over = let low = c.low in c.place_is ∙ ap place_of (hole_depth c.upper (omega (arith, low, few, over)))

  pub climb_few : n ≤ deep
  climb_few = let low = c.low in omega (arith, low)

  pub climb_more : (a : ℕ × Side) → at ≡ Some a → n + 1 ≤ deep
  climb_more a is =
      let (b, (d, x, k, up)) = hole_on c.upper a.0 a.1 (sym c.place_is ∙ is) in let low = c.low in let high = ap depth up in omega (arith, low, high)

pub left_side : (z : Side) → (z ≡ Right → ⊥) → z ≡ Left
left_side Left differ = refl
left_side Right differ = absurd (differ refl)

-- the slot of a node that stands in the tree
pub slot_of : {D : Type 0} (m : map.FinMap nat_cmp (Slot D)) (root : Option ℕ) (p : Spot D) (id : ℕ) (slot : Slot D) → Made p.beside m root (plug p.hole (here p id)) → map.get m id ≡ Some slot
    → slot ≡ sided Left (above p.hole) (root_of p.left) (root_of p.right) p.red p.datum
slot_of m root p id slot made found = ap (λ o. unwrap_or o slot) (sym found ∙ slot_here m root p id made)

pub shallow : {D : Type 0} (p : Spot D) (id : ℕ) → height (plug p.hole (here p id)) ≤ 126 → depth p.hole ≤ 128
shallow p id le = let deep = depth_height p.hole (here p id) in omega (arith, deep, le)

-- the steps of the two walks up
pub both_ways : {D : Type 0} (p : Spot D) (id start mid seen now n : ℕ) → mid - start ≤ depth p.hole → seen ≡ mid + 1 → now ≡ seen + n → n ≤ depth p.hole → now - start ≤ 2 * height (plug p.hole (here p id))
both_ways p id start mid seen now n cost one is few = let deep = depth_height p.hole (here p id) in omega (arith, deep, cost, one, is, few)

module _ {X S B : Type 0} (w : Weaving X S B) (L : Lawful w) where
  back : (d a : B) → a ≡ w.plus (w.minus w.still d) (w.plus d a)
  back d a = sym (still_plus w L a) ∙ ap (λ z. w.plus z a) (sym (L.plus_minus w.still d) ∙ L.plus_comm d (w.minus w.still d)) ∙ L.plus_assoc (w.minus w.still d) d a

  minus_plus : (a d : B) → w.minus (w.plus a d) d ≡ a
  minus_plus a d = back d (w.minus (w.plus a d) d) ∙ ap (w.plus (w.minus w.still d)) (L.plus_minus (w.plus a d) d ∙ L.plus_comm a d) ∙ sym (back d a)

  pub held_start : (is_near : B → Type 0) → is_near w.still → (p : Spot (Data X S B)) (id : ℕ) (by : B) (d : Data X S B) → Woven w is_near w.still (plug p.hole (here p id)) → by ≡ shift_at w p.hole → d ≡ p.datum
      → HeldBy w is_near (w.plus by d.delta)
  held_start is_near near p id by d wv e0 e1 =
      (w.still, near, subst is_near (sym (still_plus w L _ ∙ (λ i. w.plus (e0 i) (e1 i).delta))) (near_of w L is_near (w.plus (shift_at w p.hole) p.datum.delta) p.right (woven_at w L is_near p.hole (here p id) wv).3))

module _ {X S B Key : Type 0} {w : Weaving X S B} (L : Lawful w) (is_near : B → Type 0) (near : is_near w.still) {turn : Key → S → X → Turn} {key : Key} where
  -- the node right above the hole that the search has climbed to
  module _ (beside : Tree (Data X S B)) {whole : Tree (Data X S B)} (tree : Links (Data X S B)) (made : Made beside tree.nodes.live tree.root whole) (wv : Woven w is_near w.still whole)
      {items : List (ℕ × X)} {deep : ℕ} {at : Option (ℕ × Side)} {by : B} {s : Standing X S B} {n : ℕ} (c : Climb w turn key whole items deep at by s n) where
    made_at : (k : Hole (Data X S B)) (t : Tree (Data X S B)) → plug k t ≡ whole → Made beside tree.nodes.live tree.root (plug k t)
    made_at k t e = subst (Made beside tree.nodes.live tree.root) (sym e) made

    woven_in : (k : Hole (Data X S B)) (t : Tree (Data X S B)) → plug k t ≡ whole → Woven w is_near (shift_at w k) t
    woven_in k t e = woven_at w L is_near k t (subst (Woven w is_near w.still) (sym e) wv)

    pub stands_upper : (a : ℕ × Side) → at ≡ Some a → Stands tree.nodes.live tree.root a.0
    stands_upper a e =
        let (b, (d, x, k, is)) = hole_on c.upper a.0 a.1 (sym c.place_is ∙ e) in
        (spot_of beside a.1 b d c.lower x k, stands_above tree.nodes.live tree.root a.1 b a.0 d x k c.lower (made_at (on a.1 b a.0 d x k) c.lower (ap (λ l. plug l c.lower) (sym is) ∙ c.climbed)))

    pub live_upper : (a : ℕ × Side) → at ≡ Some a → Live tree.nodes.live a.0
    live_upper a e =
        let (b, (d, x, k, is)) = hole_on c.upper a.0 a.1 (sym c.place_is ∙ e) in
        (_, slot_above tree.nodes.live tree.root a.1 b a.0 d x k c.lower (made_at (on a.1 b a.0 d x k) c.lower (ap (λ l. plug l c.lower) (sym is) ∙ c.climbed)))

    -- the position, by the side of the node on which the hole is
    module _ (p : ℕ) (z : Side) (is_at : at ≡ Some (p, z)) (slot : Slot (Data X S B)) (found : map.get tree.nodes.live p ≡ Some slot) where
      pub record Upper : Type 0 where
        pub red : Bool
        pub datum : Data X S B
        pub far : Tree (Data X S B)
        pub up : Hole (Data X S B)
        pub whole_is : plug up (forked z red p datum c.lower far) ≡ whole
        pub is : c.upper ≡ on z red p datum far up
        pub slot_is : slot ≡ sided z (above up) (root_of c.lower) (root_of far) red datum

      upper_there : Upper
      upper_there =
          let (b, (d, x, k, is)) = hole_on c.upper p z (sym c.place_is ∙ is_at) in
          let there : plug k (forked z b p d c.lower x) ≡ whole = ap (λ l. plug l c.lower) (sym is) ∙ c.climbed in record {
            red = b;
            datum = d;
            far = x;
            up = k;
            whole_is = there;
            is = is;
            slot_is = ap (λ o. unwrap_or o slot) (sym found ∙ slot_above tree.nodes.live tree.root z b p d x k c.lower (made_at (on z b p d x k) c.lower there));
          }

      place_up : (at2 : Option (ℕ × Side)) → AtSpot tree.nodes.live tree.root p (λ sp. at2 ≡ place_of sp.hole) → (u : Upper) → at2 ≡ place_of u.up
      place_up at2 next u =
          next (spot_of beside z u.red u.datum c.lower u.far u.up) (stands_above tree.nodes.live tree.root z u.red p u.datum u.far u.up c.lower (made_at (on z u.red p u.datum u.far u.up) c.lower u.whole_is))
          ∙ ap place_of (spot_hole beside z u.red u.datum c.lower u.far u.up)

    module _ (p : ℕ) (is_at : at ≡ Some (p, Right)) (slot : Slot (Data X S B)) (found : map.get tree.nodes.live p ≡ Some slot) where
      lower_shift : (u : Upper p Right is_at slot found) → w.minus by slot.«data».delta ≡ shift_at w u.up
      lower_shift u = (λ i. w.minus ((c.path_is ∙ ap (shift_at w) u.is) i) (u.slot_is i).«data».delta) ∙ minus_plus w L (shift_at w u.up) u.datum.delta

      pub held_up : HeldBy w is_near (w.minus by slot.«data».delta)
      held_up =
          let u = upper_there p Right is_at slot found in
          (w.still, near, subst is_near (sym (still_plus w L _ ∙ lower_shift u)) (near_of w L is_near (shift_at w u.up) (forked Right u.red p u.datum c.lower u.far) (woven_in u.up (forked Right u.red p u.datum c.lower u.far) u.whole_is)))

      pub climb_past : (at2 : Option (ℕ × Side)) (by2 : B) → AtSpot tree.nodes.live tree.root p (λ sp. at2 ≡ place_of sp.hole) → by2 ≡ w.minus by slot.«data».delta
          → Climb w turn key whole items deep at2 by2 s (n + 1)
      climb_past at2 by2 next e =
          let u = upper_there p Right is_at slot found in let low = c.low in let high = ap depth u.is in record {
            upper = u.up;
            lower = forked Right u.red p u.datum c.lower u.far;
            hole = c.hole;
            subtree = c.subtree;
            earlier = c.earlier;
            climbed = u.whole_is;
            same = c.same;
            place_is = place_up p Right is_at slot found at2 next u;
            path_is = e ∙ lower_shift u;
            low = omega (arith, low, high);
            listed = c.listed ∙ ap (λ k. c.earlier ++ (entries w (shift_at w c.hole) c.subtree ++ rights w k)) u.is;
            beyond = c.beyond ∙ ap (rights w) u.is;
            at_is = c.at_is;
            by_is = c.by_is;
            before_is = c.before_is;
            asked = c.asked;
          }

    -- the subtree that the search would go down into
    abbrev inner : List (ℕ × X)
    inner = entries w (shift_at w c.hole) c.subtree

    abbrev us : List (ℕ × X)
    us = c.earlier ++ inner

    pub live_subtree : IfSome s.at (Live tree.nodes.live)
    live_subtree =
        let h = made_at c.hole c.subtree c.same in
        subst (λ o. IfSome o (Live tree.nodes.live)) (sym c.at_is) (live_root tree.nodes.live tree.root (above c.hole) c.subtree (opened tree.nodes.live tree.root c.hole c.subtree h.from h.nodes).1)

    inside_is : inside w tree s ≡ sum_of w inner
    inside_is =
        let h = made_at c.hole c.subtree c.same in
        let kept = ap (whole_in w tree.nodes.live) c.at_is ∙ whole_in_is w tree.nodes.live (above c.hole) c.subtree (opened tree.nodes.live tree.root c.hole c.subtree h.from h.nodes).1 in
        (λ i. w.shift_sum (c.by_is i) (kept i)) ∙ whole_is w L is_near (shift_at w c.hole) c.subtree (woven_in c.hole c.subtree c.same)

    past_is : past_subtree w tree s ≡ sum_of w us
    past_is = (λ i. w.join (c.before_is i) (inside_is i)) ∙ sym (sum-append w L c.earlier inner)

    listed_there : items ≡ us ++ rights w c.upper
    listed_there = c.listed ∙ sym (append_assoc c.earlier inner (rights w c.upper))

    module _ (is_item : X → Type 0) (is_sum is_value : S → Type 0) (sums : Sums w is_item is_sum) (parts : (a b : S) → is_value (w.join a b) → is_value a × is_value b) (values : Valued w is_item is_value items) where
      values_there : Valued w is_item is_value us
      values_there = valued_left w L is_near is_item is_sum is_value sums parts us _ (subst (Valued w is_item is_value) listed_there values)

      pub held_inside : HeldSum w is_near is_sum is_value (inside w tree s)
      held_inside = held w L is_near is_item is_sum is_value sums parts w.still _ inner near (L.shift_sum_still _ ∙ inside_is) (valued_right w L is_near is_item is_sum is_value sums parts c.earlier inner values_there)

      pub held_past : HeldSum w is_near is_sum is_value (past_subtree w tree s)
      held_past = held w L is_near is_item is_sum is_value sums parts w.still _ us near (L.shift_sum_still _ ∙ past_is) values_there

    -- a node that comes after the hole
    module _ (p : ℕ) (is_at : at ≡ Some (p, Left)) (slot : Slot (Data X S B)) (found : map.get tree.nodes.live p ≡ Some slot) where
      abbrev rest : Upper p Left is_at slot found → List (ℕ × X)
      rest u = entries w (w.plus (shift_at w u.up) u.datum.delta) u.far ++ rights w u.up

      abbrev own : X
      own = w.shift by slot.«data».item

      by_up : (u : Upper p Left is_at slot found) → by ≡ shift_at w u.up
      by_up u = c.path_is ∙ ap (shift_at w) u.is

      rights_there : (u : Upper p Left is_at slot found) → rights w c.upper ≡ (p, own) ∷ rest u
      rights_there u = ap (rights w) u.is ∙ (λ i. (p, w.shift (sym (by_up u) i) (sym u.slot_is i).«data».item) ∷ rest u)

      listed_here : (u : Upper p Left is_at slot found) → items ≡ us ++ (p, own) ∷ rest u
      listed_here u = listed_there ∙ ap (λ l. us ++ l) (rights_there u)

      by_far : (u : Upper p Left is_at slot found) → w.plus by slot.«data».delta ≡ w.plus (shift_at w u.up) u.datum.delta
      by_far u = λ i. w.plus (by_up u i) (u.slot_is i).«data».delta

      module _ (is_item : X → Type 0) (is_sum is_value : S → Type 0) (sums : Sums w is_item is_sum) (parts : (a b : S) → is_value (w.join a b) → is_value a × is_value b) (values : Valued w is_item is_value items) where
        pub held_own : HeldItem w is_near is_item own
        held_own =
            let u = upper_there p Left is_at slot found in
            (w.still, near, subst is_item (sym (L.shift_still own)) (items_right w L is_near is_item is_sum is_value sums parts us ((p, own) ∷ rest u) (subst (Valued w is_item is_value) (listed_here u) values).0).0)

        pub held_far : HeldBy w is_near (w.plus by slot.«data».delta)
        held_far =
            let u = upper_there p Left is_at slot found in
            (w.still, near, subst is_near (sym (still_plus w L _ ∙ by_far u)) (near_of w L is_near (w.plus (shift_at w u.up) u.datum.delta) u.far (woven_in u.up (forked Left u.red p u.datum c.lower u.far) u.whole_is).3))

      -- its item, and the sum of the items before it
      module _ (item : X) (sum : S) (is_item : item ≡ own) (is_sum : sum ≡ past_subtree w tree s) where
        sum_is : sum ≡ sum_of w us
        sum_is = is_sum ∙ past_is

        listed_item : (u : Upper p Left is_at slot found) → items ≡ us ++ (p, item) ∷ rest u
        listed_item u = listed_here u ∙ (λ i. us ++ (p, sym is_item i) ∷ rest u)

        sum_more : w.join sum (w.one item) ≡ sum_of w (us ++ (p, item) ∷ [])
        sum_more = ap (λ z. w.join z (w.one item)) sum_is ∙ ap (w.join (sum_of w us)) (sym (L.join_none _)) ∙ sym (sum-append w L us ((p, item) ∷ []))

        told : (o to : Turn) → o ≡ turn key sum item → o ≡ to → Says w turn key us item to
        told o to turned is = sym (ap (λ z. turn key z item) sum_is) ∙ sym turned ∙ is

        pub climb_stops : (o : Turn) → o ≡ turn key sum item → o ≡ turns.Stop → Found w turn key items (Some (p, item, sum))
        climb_stops o turned is = let u = upper_there p Left is_at slot found in (us, (rest u, listed_item u, sum_is, inl (told o turns.Stop turned is)))

        pub climb_turns : (o : Turn) → o ≡ turn key sum item → o ≡ turns.Left → StandsIn w turn key whole items (record { at = s.at; by = s.by; before = s.before; last = Some (p, item, sum) })
        climb_turns o turned is =
            let u = upper_there p Left is_at slot found in let says = told o turns.Left turned is in
            let after : rights w c.hole ≡ (p, item) ∷ rest u = c.beyond ∙ rights_there u ∙ (λ i. (p, sym is_item i) ∷ rest u) in record {
              hole = c.hole;
              subtree = c.subtree;
              earlier = c.earlier;
              same = c.same;
              listed = c.listed ∙ ap (λ l. c.earlier ++ (inner ++ l)) (sym c.beyond);
              at_is = c.at_is;
              by_is = c.by_is;
              before_is = c.before_is;
              right_before = right_before w turn key c.earlier s.last c.asked;
              left_after = inr ((p, item), (rest u, after, says));
              asked = inr (rest u, after, sum_is, says);
            }

        pub climb_on : (o : Turn) → o ≡ turn key sum item → o ≡ turns.Right → (at2 : Option (ℕ × Side)) → AtSpot tree.nodes.live tree.root p (λ sp. at2 ≡ place_of sp.hole)
            → Climb w turn key whole items deep at2 by (right_of_node w by slot (p, item, sum)) (n + 1)
        climb_on o turned is at2 next =
            let u = upper_there p Left is_at slot found in let low = c.low in let high = ap depth u.is in record {
              upper = u.up;
              lower = forked Left u.red p u.datum c.lower u.far;
              hole = on Right u.red p u.datum c.lower u.up;
              subtree = u.far;
              earlier = us ++ (p, item) ∷ [];
              climbed = u.whole_is;
              same = u.whole_is;
              place_is = place_up p Left is_at slot found at2 next u;
              path_is = by_up u;
              low = omega (arith, low, high);
              listed = listed_item u ∙ sym (append_assoc us ((p, item) ∷ []) (rest u));
              beyond = refl;
              at_is = ap (λ o_. o_.right) u.slot_is;
              by_is = by_far u;
              before_is = sum_more;
              asked = (us, refl, sum_is, told o turns.Right turned is);
            }

        pub held_more : (is_item2 : X → Type 0) (is_sum2 is_value : S → Type 0) (sums : Sums w is_item2 is_sum2) (parts : (a b : S) → is_value (w.join a b) → is_value a × is_value b) → Valued w is_item2 is_value items
            → HeldSum w is_near is_sum2 is_value (past_item w item sum)
        held_more is_item2 is_sum2 is_value sums parts values =
            let u = upper_there p Left is_at slot found in
            held w L is_near is_item2 is_sum2 is_value sums parts w.still _ (us ++ (p, item) ∷ []) near (L.shift_sum_still _ ∙ sum_more)
            (valued_left w L is_near is_item2 is_sum2 is_value sums parts (us ++ (p, item) ∷ []) (rest u)
            (subst (Valued w is_item2 is_value) (listed_item u ∙ sym (append_assoc us ((p, item) ∷ []) (rest u))) values))

pub square_is : (k : ℕ) → k ^ 2 ≡ k * k
square_is k = pow-suc k 1 ∙ ap (λ z. z * k) (pow-suc k 0 ∙ ap (λ z. z * k) (pow-zero k) ∙ one-mul k)

follow : (a b c d e : ℕ) → a ≤ b → b ≡ c → c ≤ d → e ≡ d → a ≤ e
follow a b c d e ab bc cd ed = omega (arith, ab, bc, cd, ed)

-- three times the number of nodes on the longest path
pub thrice : (n h k : ℕ) → n ≤ 3 * h → 2 ^ h ≤ k * k → 2 ^ n ≤ k ^ 6
thrice n h k le few =
    let p = 2 ^ h in let q = k * k in
    let up : 2 ^ n ≤ 2 ^ (h + (h + h)) = pow-le-pow_right {n = 2} (lit< tt) {i = n} {j = h + (h + h)} (omega (arith, le)) in
    let same : 2 ^ (h + (h + h)) ≡ p * (p * p) = pow-add 2 h (h + h) ∙ ap (λ z. p * z) (pow-add 2 h h) in
    let most : p * (p * p) ≤ q * (q * q) = mul-le-mul {n₁ = p} {m₁ = p * p} {n₂ = q} {m₂ = q * q} few (mul-le-mul {n₁ = p} {m₁ = p} {n₂ = q} {m₂ = q} few few) in
    let six : k ^ 6 ≡ q * (q * q) = pow-add k 2 4 ∙ (λ i. square_is k i * (pow-add k 2 2 ∙ (λ j. square_is k j * square_is k j)) i) in
    follow (2 ^ n) (2 ^ (h + (h + h))) (p * (p * p)) (q * (q * q)) (k ^ 6) up same most six
