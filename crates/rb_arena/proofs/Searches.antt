-- A search down from its position.
use Rattle.std.proofs.Common.{◌≡◌, ℕ, suc, ◌+◌, ◌-◌, ◌<◌, ◌≤◌, max, List, [], ◌∷◌, ◌++◌, Option, Some, None, refl, sym, ap, ◌∙◌, subst, arith, append_assoc, append-nil, inl, inr}
use Rattle.std.specs.Option.{unwrap_or}
use Rattle.std.specs.Ordering.{nat_cmp}
use Rattle.std.specs.FinMap as map
use Rattle.rb_rules.specs.declared.slot.Data.{Data}
use Rattle.rb_rules.specs.declared.slot.Side.TheVariants as side
use Rattle.rb_rules.specs.declared.slot.Slot.{Slot}
use Rattle.rb_rules.specs.declared.weave.Turn.{Turn}
use Rattle.rb_rules.specs.declared.weave.Turn.TheVariants as turns
use Rattle.rb_rules.specs.Tree.{Tree, fork, Hole, top, on, plug, root_of, above, height}
use Rattle.rb_rules.specs.Memory.{sided, Made, Spot}
use Rattle.rb_rules.specs.Weaving.{Weaving, Lawful, Sums, HeldItem, HeldSum, HeldBy}
use Rattle.rb_rules.specs.Woven.{entries, sum_of, Woven, Valued, rights, shift_at}
use Rattle.rb_rules.proofs.Live.{Live, slot_here, forks}
use Rattle.rb_rules.proofs.Held.{held, items_right, valued_left, valued_right}
use Rattle.rb_rules.proofs.Weaves.{sum-append, woven_at, near_of}
use Rattle.rb_arena.specs.declared.descend.Standing.{Standing}
use Rattle.rb_arena.specs.Searching.{Says, RightBefore, LeftAfter, Found, AskedLast, StandsIn, past_item, right_of_node}
use Rattle.rb_arena.proofs.Growing.{no_root, no_height, depth_height}
use Rattle.rb_arena.proofs.Paths.{still_plus}

module _ {X S B Key : Type 0} (w : Weaving X S B) (L : Lawful w) (is_near : B → Type 0) (turn : Key → S → X → Turn) (key : Key) where
  ended : (items us ts vs : List (ℕ × X)) (last : Option (ℕ × X × S)) → ts ≡ [] → items ≡ us ++ (ts ++ vs) → RightBefore w turn key us → LeftAfter w turn key (us ++ ts) vs
      → AskedLast w turn key us ts vs last → Found w turn key items last
  ended items us ts vs None none listed rb la (e, f) = listed ∙ (λ i. e i ++ (none i ++ f i))
  ended items us ts vs (Some f) none listed rb la (inl (ws, e, g, h)) = (
    ws,
    (
      vs,
      listed ∙ (λ i. e i ++ (none i ++ vs)) ∙ append_assoc ws ((f.0, f.1) ∷ []) vs,
      g,
      inr (inr (h, subst (λ l. LeftAfter w turn key l vs) (ap (λ t. us ++ t) none ∙ append-nil us ∙ e) la)),
    ),
  )
  ended items us ts vs (Some f) none listed rb la (inr (ws, e, g, h)) =
      let same : us ++ ts ≡ us = ap (λ t. us ++ t) none ∙ append-nil us in
      (us, (ws, listed ∙ (λ i. us ++ (none i ++ e i)), g ∙ ap (sum_of w) same, inr (inl (subst (λ l. Says w turn key l f.1 turns.Left) same h, rb))))

  module _ (whole : Tree (Data X S B)) (items : List (ℕ × X)) where
    -- the search has gone down n nodes, and at most m are left
    abbrev pub Walk : Standing X S B → ℕ → ℕ → Type 0
    Walk s n m = (here : StandsIn w turn key whole items s) × (n + height here.subtree ≤ height whole) × (height here.subtree ≤ m)

    pub walk_starts : (s : Standing X S B) → height whole ≤ 126 → StandsIn w turn key whole items s → Walk s 0 128
    walk_starts s le here = let deep = depth_height here.hole here.subtree in let same = ap height here.same in (here, omega (arith, deep, same), omega (arith, deep, same, le))

    module _ (s : Standing X S B) (n m : ℕ) where
      pub walk_cost : Walk s n m → (start now : ℕ) → now ≡ start + n → now - start ≤ height whole
      walk_cost (here, low, few) start now is = omega (arith, low, is)

      pub walk_over : m ≡ 0 → Walk s n m → s.at ≡ None
      walk_over none (here, low, few) = here.at_is ∙ ap root_of (no_height here.subtree (omega (arith, few, none)))

      -- at the end the answer is the node compared last
      pub walk_ends : s.at ≡ None → Walk s n m → Found w turn key items s.last
      walk_ends over (here, low, few) =
          ended items here.earlier (entries w (shift_at w here.hole) here.subtree) (rights w here.hole) s.last (ap (entries w (shift_at w here.hole)) (no_root here.subtree (sym here.at_is ∙ over)))
          here.listed here.right_before here.left_after here.asked

    -- the search is at the node `id` with the slot `sl`; it has gone down n nodes, and at most m are left, this one included
    pub record Visit (s : Standing X S B) (n m id : ℕ) (sl : Slot (Data X S B)) : Type 0 where
      pub hole : Hole (Data X S B)
      pub left : Tree (Data X S B)
      pub right : Tree (Data X S B)
      pub earlier : List (ℕ × X)
      pub same : plug hole (fork sl.red id sl.«data» left right) ≡ whole
      pub listed : items ≡ earlier ++ (entries w (shift_at w hole) (fork sl.red id sl.«data» left right) ++ rights w hole)
      pub woven : Woven w is_near (shift_at w hole) (fork sl.red id sl.«data» left right)
      pub left_is : sl.left ≡ root_of left
      pub right_is : sl.right ≡ root_of right
      pub by_is : s.by ≡ shift_at w hole
      pub before_is : s.before ≡ sum_of w earlier
      pub low : n + (1 + max (height left) (height right)) ≤ height whole
      pub few : 1 + max (height left) (height right) ≤ m
      pub right_before : RightBefore w turn key earlier
      pub left_after : LeftAfter w turn key (earlier ++ entries w (shift_at w hole) (fork sl.red id sl.«data» left right)) (rights w hole)

    module _ (beside : Tree (Data X S B)) (m : map.FinMap nat_cmp (Slot (Data X S B))) (root : Option ℕ) (s : Standing X S B) (n j id : ℕ)
        (made : Made beside m root whole) (is : s.at ≡ Some id) where
      pub live_there : Walk s n j → Live m id
      live_there (here, low, few) =
          let (c, (d, x, y, t)) = forks here.subtree id (sym here.at_is ∙ is) in
          let spot : Spot (Data X S B) = record { beside = beside; hole = here.hole; red = c; datum = d; left = x; right = y } in
          (_, slot_here m root spot id (subst (Made beside m root) (sym here.same ∙ ap (plug here.hole) t) made))

      pub visits : (sl : Slot (Data X S B)) → map.get m id ≡ Some sl → Woven w is_near w.still whole → Walk s n j → Visit s n j id sl
      visits sl found wv (here, low, few) =
          let (c, (d, x, y, t)) = forks here.subtree id (sym here.at_is ∙ is) in let k = here.hole in
          let same : whole ≡ plug k (fork c id d x y) = sym here.same ∙ ap (plug k) t in let high = ap height t in
          let spot : Spot (Data X S B) = record { beside = beside; hole = k; red = c; datum = d; left = x; right = y } in
          let slot : sided side.Left (above k) (root_of x) (root_of y) c d ≡ sl = ap (λ o. unwrap_or o sl) (sym (slot_here m root spot id (subst (Made beside m root) same made)) ∙ found) in
          let visit : Visit s n j id (sided side.Left (above k) (root_of x) (root_of y) c d) = record {
            hole = k;
            left = x;
            right = y;
            earlier = here.earlier;
            same = sym same;
            listed = here.listed ∙ ap (λ z. here.earlier ++ (entries w (shift_at w k) z ++ rights w k)) t;
            woven = woven_at w L is_near k (fork c id d x y) (subst (Woven w is_near w.still) same wv);
            left_is = refl;
            right_is = refl;
            by_is = here.by_is;
            before_is = here.before_is;
            low = omega (arith, low, high);
            few = omega (arith, few, high);
            right_before = here.right_before;
            left_after = subst (λ z. LeftAfter w turn key (here.earlier ++ entries w (shift_at w k) z) (rights w k)) t here.left_after;
          } in subst (Visit s n j id) slot visit

module _ {X S B Key : Type 0} {w : Weaving X S B} {L : Lawful w} {is_near : B → Type 0} {turn : Key → S → X → Turn} {key : Key}
    {whole : Tree (Data X S B)} {items : List (ℕ × X)} {s : Standing X S B} {n m id : ℕ} {sl : Slot (Data X S B)} (v : Visit w L is_near turn key whole items s n m id sl) where
  -- the item there, and those before and after it
  abbrev x : X
  x = w.shift (shift_at w v.hole) sl.«data».item

  abbrev inner : List (ℕ × X)
  inner = entries w (shift_at w v.hole) v.left

  abbrev us : List (ℕ × X)
  us = v.earlier ++ inner

  abbrev below : List (ℕ × X)
  below = entries w (w.plus (shift_at w v.hole) sl.«data».delta) v.right

  pub visit_cost : (start so_far now : ℕ) → so_far ≡ start + n → now ≡ so_far + 1 → now - start ≤ height whole
  visit_cost start so_far now is one = let low = v.low in omega (arith, low, is, one)

  sum_here : w.join s.before (w.shift_sum s.by sl.«data».before) ≡ sum_of w us
  sum_here = (λ i. w.join (v.before_is i) (w.shift_sum (v.by_is i) sl.«data».before)) ∙ ap (w.join (sum_of w v.earlier)) v.woven.0 ∙ sym (sum-append w L v.earlier inner)

  list_left : items ≡ v.earlier ++ (inner ++ (id, x) ∷ (below ++ rights w v.hole))
  list_left = v.listed ∙ ap (λ l. v.earlier ++ l) (append_assoc inner ((id, x) ∷ below) (rights w v.hole))

  list_here : items ≡ us ++ (id, x) ∷ (below ++ rights w v.hole)
  list_here = list_left ∙ sym (append_assoc v.earlier inner ((id, x) ∷ (below ++ rights w v.hole)))

  sum_after : (s : S) → s ≡ sum_of w us → w.join s (w.one x) ≡ sum_of w (us ++ (id, x) ∷ [])
  sum_after s e = ap (λ z. w.join z (w.one x)) e ∙ ap (w.join (sum_of w us)) (sym (L.join_none _)) ∙ sym (sum-append w L us ((id, x) ∷ []))

  -- the position at the node, from its item and the sum before it
  module _ (item : X) (sum : S) (is_item : item ≡ w.shift s.by sl.«data».item) (is_sum : sum ≡ w.join s.before (w.shift_sum s.by sl.«data».before)) where
    item_is : item ≡ x
    item_is = is_item ∙ ap (λ b. w.shift b sl.«data».item) v.by_is

    sum_is : sum ≡ sum_of w us
    sum_is = is_sum ∙ sum_here

    told : (o to : Turn) → o ≡ turn key sum item → o ≡ to → Says w turn key us x to
    told o to turned is = sym (λ i. turn key (sum_is i) (item_is i)) ∙ sym turned ∙ is

    pub found_here : (o : Turn) → o ≡ turn key sum item → o ≡ turns.Stop → Found w turn key items (Some (id, item, sum))
    found_here o turned is = subst (λ z. Found w turn key items (Some (id, z, sum))) (sym item_is) (us, (below ++ rights w v.hole, list_here, sum_is, inl (told o turns.Stop turned is)))

    module _ (j : ℕ) (fewer : m ≡ suc j) where
      pub goes_left : (o : Turn) → o ≡ turn key sum item → o ≡ turns.Left → Walk w L is_near turn key whole items (record { at = sl.left; by = s.by; before = s.before; last = Some (id, item, sum) }) (n + 1) j
      goes_left o turned is =
          let low = v.low in let few = v.few in let says_left = told o turns.Left turned is in
          subst (λ z. Walk w L is_near turn key whole items (record { at = sl.left; by = s.by; before = s.before; last = Some (id, z, sum) }) (n + 1) j) (sym item_is) (
            record {
              hole = on side.Left sl.red id sl.«data» v.right v.hole;
              subtree = v.left;
              earlier = v.earlier;
              same = v.same;
              listed = list_left;
              at_is = v.left_is;
              by_is = v.by_is;
              before_is = v.before_is;
              right_before = v.right_before;
              left_after = inr ((id, x), (below ++ rights w v.hole, refl, says_left));
              asked = inr (below ++ rights w v.hole, refl, sum_is, says_left);
            },
            omega (arith, low),
            omega (arith, few, fewer),
          )

      pub goes_right : (o : Turn) → o ≡ turn key sum item → o ≡ turns.Right → Walk w L is_near turn key whole items (right_of_node w s.by sl (id, item, sum)) (n + 1) j
      goes_right o turned is =
          let low = v.low in let few = v.few in let says_right = told o turns.Right turned is in
          let all : v.earlier ++ (inner ++ (id, x) ∷ below) ≡ (us ++ (id, x) ∷ []) ++ below = sym (append_assoc v.earlier inner ((id, x) ∷ below)) ∙ sym (append_assoc us ((id, x) ∷ []) below) in
          subst (λ z. Walk w L is_near turn key whole items (right_of_node w s.by sl (id, z, sum)) (n + 1) j) (sym item_is) (
            record {
              hole = on side.Right sl.red id sl.«data» v.left v.hole;
              subtree = v.right;
              earlier = us ++ (id, x) ∷ [];
              same = v.same;
              listed = list_here ∙ sym (append_assoc us ((id, x) ∷ []) (below ++ rights w v.hole));
              at_is = v.right_is;
              by_is = ap (λ b. w.plus b sl.«data».delta) v.by_is;
              before_is = sum_after sum sum_is;
              right_before = inr (us, ((id, x), refl, says_right));
              left_after = subst (λ l. LeftAfter w turn key l (rights w v.hole)) all v.left_after;
              asked = inl (us, refl, sum_is, says_right);
            },
            omega (arith, low),
            omega (arith, few, fewer),
          )

  module _ (is_item : X → Type 0) (is_sum is_value : S → Type 0) (sums : Sums w is_item is_sum) (parts : (p q : S) → is_value (w.join p q) → is_value p × is_value q) (near : is_near w.still)
      (values : Valued w is_item is_value items) where
    all_here : Valued w is_item is_value (us ++ (id, x) ∷ (below ++ rights w v.hole))
    all_here = subst (Valued w is_item is_value) list_here values

    before_here : Valued w is_item is_value us
    before_here = valued_left w L is_near is_item is_sum is_value sums parts us _ all_here

    pub held_item : HeldItem w is_near is_item (w.shift s.by sl.«data».item)
    held_item = subst (λ b. HeldItem w is_near is_item (w.shift b sl.«data».item)) (sym v.by_is)
        (w.still, near, subst is_item (sym (L.shift_still x)) (items_right w L is_near is_item is_sum is_value sums parts us _ all_here.0).0)

    pub held_left : HeldSum w is_near is_sum is_value (w.shift_sum s.by sl.«data».before)
    held_left = subst (λ b. HeldSum w is_near is_sum is_value (w.shift_sum b sl.«data».before)) (sym v.by_is)
        (held w L is_near is_item is_sum is_value sums parts w.still _ inner near (L.shift_sum_still _ ∙ v.woven.0)
        (valued_right w L is_near is_item is_sum is_value sums parts v.earlier inner before_here))

    pub held_sum : HeldSum w is_near is_sum is_value (w.join s.before (w.shift_sum s.by sl.«data».before))
    held_sum = held w L is_near is_item is_sum is_value sums parts w.still _ us near (L.shift_sum_still _ ∙ sum_here) before_here

    pub held_by : HeldBy w is_near (w.plus s.by sl.«data».delta)
    held_by = subst (λ b. HeldBy w is_near (w.plus b sl.«data».delta)) (sym v.by_is)
        (w.still, near, subst is_near (sym (still_plus w L _)) (near_of w L is_near (w.plus (shift_at w v.hole) sl.«data».delta) v.right v.woven.3))

    pub held_next : (item : X) (sum : S) → item ≡ w.shift s.by sl.«data».item → sum ≡ w.join s.before (w.shift_sum s.by sl.«data».before) → HeldSum w is_near is_sum is_value (past_item w item sum)
    held_next item sum is_the_item is_the_sum =
        let rest = below ++ rights w v.hole in
        subst (λ z. HeldSum w is_near is_sum is_value (w.join sum (w.one z))) (sym (item_is item sum is_the_item is_the_sum))
        (held w L is_near is_item is_sum is_value sums parts w.still _ (us ++ (id, x) ∷ []) near (L.shift_sum_still _ ∙ sum_after sum (sum_is item sum is_the_item is_the_sum))
        (valued_left w L is_near is_item is_sum is_value sums parts (us ++ (id, x) ∷ []) rest (subst (Valued w is_item is_value) (sym (append_assoc us ((id, x) ∷ []) rest)) all_here)))

pub few_turns : (n : ℕ) → n < 128 → 128 - n ≡ suc (128 - (n + 1))
few_turns n lt = omega arith

pub no_step : (n : ℕ) → n ≡ n + 0
no_step n = omega arith

pub one_step : (start n so_far now : ℕ) → so_far ≡ start + n → now ≡ so_far + 1 → now ≡ start + (n + 1)
one_step start n so_far now is one = omega (arith, is, one)

pub no_turns : (n : ℕ) → 128 ≤ n → 128 - n ≡ 0
no_turns n le = omega arith

-- the start of a search from the root
pub stands_top : {X S B Key : Type 0} (w : Weaving X S B) (turn : Key → S → X → Turn) (key : Key) (whole : Tree (Data X S B)) {root : Option ℕ} {by : B} {before : S} → root ≡ root_of whole → by ≡ w.still → before ≡ w.none
    → StandsIn w turn key whole (entries w w.still whole) (record { at = root; by = by; before = before; last = None })
stands_top w turn key whole from still none = record {
  hole = top;
  subtree = whole;
  earlier = [];
  same = refl;
  listed = sym (append-nil (entries w w.still whole));
  at_is = from;
  by_is = still;
  before_is = none;
  right_before = inl refl;
  left_after = inl refl;
  asked = (refl, refl);
}
