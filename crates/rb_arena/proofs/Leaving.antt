-- Removal of a leaf from a hole of a tree.
use Rattle.std.proofs.Common.{◌≡◌, ℕ, suc, ◌+◌, ◌<◌, ◌≤◌, Bool, true, false, List, [], ◌∷◌, ◌++◌, length, Option, Some, None, refl, sym, ap, ◌∙◌, subst, arith, append-nil, inl, inr}
use Rattle.std.specs.Prelude.{is_some, IsSome}
use Rattle.std.specs.Option.{unwrap_or}
use Rattle.std.proofs.lemmas.Bool.{cases_lt, false≢true}
use Rattle.std.proofs.lemmas.Option.{none-some}
use Rattle.std.specs.Ordering.{nat_cmp}
use Rattle.std.specs.FinMap as map
use Rattle.rb_rules.specs.declared.slot.Data.{Data}
use Rattle.rb_rules.specs.declared.slot.Side.{Side}
use Rattle.rb_rules.specs.declared.slot.Side.TheVariants.{Left, Right}
use Rattle.rb_rules.specs.declared.slot.Slot.{Slot}
use Rattle.rb_rules.specs.Tree.{Tree, tip, fork, Hole, top, on, other, forked, plug, root_of, above, depth, height}
use Rattle.rb_rules.specs.Colours.{Rb, Fits, Balanced}
use Rattle.rb_rules.specs.Memory.{Made, Spot, here, below, child, turned, AtSpot, place_of, hung, root_hung}
use Rattle.rb_rules.specs.Shape.{each}
use Rattle.rb_rules.specs.Weaving.{Weaving, Lawful, Sums}
use Rattle.rb_rules.specs.Woven.{entries, sum_of, Woven, AllItems, Valued, lefts, rights, shift_at}
use Rattle.rb_rules.specs.Sound.{Lists, IsSlack, RenewedFrom, CanTurnAt, TurnedAt}
use Rattle.rb_rules.proofs.Climbs.{slack_of}
use Rattle.rb_rules.proofs.Colouring as C
use Rattle.rb_rules.proofs.Detaching.{spliced, gone}
use Rattle.rb_rules.proofs.Holes.{forked-other}
use Rattle.rb_rules.proofs.Live.{here_forked, slot_here, live_hung}
use Rattle.rb_rules.proofs.Shapes.{same_items, each-forked}
use Rattle.rb_rules.proofs.Spots.{upper_is, at_place}
use Rattle.rb_rules.proofs.Unshaping as U
use Rattle.rb_rules.proofs.Weaves.{sum-append, woven_at, near_of, entries-plug}
use Rattle.rb_arena.specs.Closing.{Closing}
use Rattle.rb_arena.specs.Leaving.{leaf_height, Emptied, Unlinked, Unlinks, NoChild, OneChild, StillLists, Stores, StoresItem}
use Rattle.rb_arena.specs.Nodes.{Lives, LivesAt}
use Rattle.rb_arena.specs.Placing.{IsThere}
use Rattle.rb_arena.specs.Relative.{CanTurnNode, Turns}
use Rattle.rb_arena.specs.Rising.{Mended}
use Rattle.rb_arena.specs.declared.links.Links.{Links}
use Rattle.rb_rules.specs.declared.weave.Weave.{Ghosts}
use Rattle.rb_rules.proofs.Wider.{can_turn_wider}
use Rattle.rb_arena.proofs.Gaps.{few_steps, at_top}
use Rattle.rb_arena.proofs.Growing.{depth_height, length-entries, no_root, not_high}
use Rattle.rb_arena.proofs.Locating.{lying, below_lying, locate_in}

module _ {D E : Type 0} (f : D → E) where
  is_tip : Tree E → Type 0
  is_tip tip = Unit {0}
  is_tip (fork c i d x y) = ⊥

  tip_back : (t : Tree D) → each f t ≡ tip → t ≡ tip
  unfolding is_tip
  tip_back tip e = refl
  tip_back (fork c i d x y) e = absurd (subst is_tip (sym e) tt)

  -- a tree of the same shape as one with a hole has the hole at the same place
  pub emptied_back : (k : Hole D) (u : Tree D) → each f u ≡ each f (plug k tip)
      → (k2 : Hole D) × ((u ≡ plug k2 tip) × (place_of k2 ≡ place_of k) × (depth k2 ≡ depth k) × ((c : Bool) (n : ℕ) → Fits c n k → Fits c n k2))
  emptied_back top u e = (top, (tip_back u e, refl, refl, λ c n q. q))
  emptied_back (on s true i d x k) u e =
      let (k1, (v, is, alike, deep, fits)) = U.unplugged f k (forked s true i d tip x) u e in
      let (d2, (a, b, same, ea, eb)) = U.forked_back f s v true i (f d) tip (each f x) (alike ∙ each-forked f s true i d tip x) in
      (on s true i d2 b k1, (is ∙ ap (plug k1) same ∙ ap (λ z. plug k1 (forked s true i d2 z b)) (tip_back a ea), refl, ap (λ n. 1 + n) deep, λ c n (q, r, g). (q, U.rb_same f false n x b (sym eb) r, fits true n g)))
  emptied_back (on s false i d x k) u e =
      let (k1, (v, is, alike, deep, fits)) = U.unplugged f k (forked s false i d tip x) u e in
      let (d2, (a, b, same, ea, eb)) = U.forked_back f s v false i (f d) tip (each f x) (alike ∙ each-forked f s false i d tip x) in
      (on s false i d2 b k1, (is ∙ ap (plug k1) same ∙ ap (λ z. plug k1 (forked s false i d2 z b)) (tip_back a ea), refl, ap (λ n. 1 + n) deep, λ c n ((q, r), g). ((q, U.rb_same f q n x b (sym eb) r), fits false (suc n) g)))

-- a map with an entry is not empty
pub some_left : {V : Type 0} (m : map.FinMap nat_cmp V) (i : ℕ) (x : V) → map.get m i ≡ Some x → 0 < map.len m
some_left m i x e = elim (cases_lt 0 (map.len m)) [
  | inl lt ↦ lt
  | inr le ↦ absurd (none-some x (sym (map.get-empty nat_cmp i) ∙ ap (λ q. map.get q i) (sym (map.empty_of_len m (omega (arith, le)))) ∙ e))
]

pub fit_leaf : {D : Type 0} (c b : Bool) (n id : ℕ) (d : D) (k : Hole D) → Rb b n (fork c id d tip tip) → Fits b n k → Fits c (leaf_height c) k
fit_leaf true b n id d k (e, (f, z), q) fit = subst (λ l. Fits true l k) z (subst (λ a. Fits a n k) e fit)
fit_leaf false b n id d k (e, (l, z, (a, (f, g)), q)) fit = subst (λ r. Fits false r k) (z ∙ ap suc g) (subst (λ a. Fits a n k) e fit)

zero_tip : {D : Type 0} (t : Tree D) → Rb false 0 t → t ≡ tip
zero_tip tip r = refl
zero_tip (fork true i d x y) (e, ra, rb) = absurd (false≢true e)
zero_tip (fork false i d x y) (e, (l, z, ra, rb)) = absurd (omega (arith, z))

-- a node with one child is black, and the child is a red leaf
one_red : {D : Type 0} (s : Side) (c b : Bool) (n i j : ℕ) (d : D) (y : Tree D) → root_of y ≡ Some j → Rb b n (forked s c i d y tip)
    → (c ≡ false) × (b ≡ false) × (n ≡ 1) × ((e : D) × (y ≡ fork true j e tip tip))
one_red s true b n i j d y is r =
    let (_, ry, (_, z)) = C.of_red s b n i d y tip r in absurd (none-some j (sym (ap root_of (zero_tip y (subst (λ l. Rb false l y) z ry))) ∙ is))
one_red s false b n i j d tip is r = absurd (none-some j is)
one_red s false b n i j d (fork false q e x y) is r =
    let (_, (l, same, (a, (f1, (l2, z, r1, r2))), (a2, (f2, z2)))) = C.of_black s b n i d (fork false q e x y) tip r in absurd (omega (arith, z, z2))
one_red s false b n i j d (fork true q e x y) is r =
    let (f, (l, same, (a, (f1, rx, ry)), (a2, (f2, z)))) = C.of_black s b n i d (fork true q e x y) tip r in
    let tx = zero_tip x (subst (λ h. Rb false h x) z rx) in let ty = zero_tip y (subst (λ h. Rb false h y) z ry) in
    (refl, f, same ∙ ap suc z, (e, λ h. fork true (ap (λ o. unwrap_or o 0) is h) e (tx h) (ty h)))

turn_is : {D : Type 0} (s : Side) (i j : ℕ) (d e low high : D) → turned s low high (forked s false i d (fork true j e tip tip) tip) ≡ forked s false j high tip (fork true i low tip tip)
turn_is Left i j d e low high = refl
turn_is Right i j d e low high = refl

pub some_of : (o : Option ℕ) → is_some o ≡ true → (i : ℕ) × (o ≡ Some i)
some_of None e = absurd (false≢true e)
some_of (Some i) e = (i, refl)

pub none_of : (o : Option ℕ) → is_some o ≡ false → o ≡ None
none_of None e = refl
none_of (Some i) e = absurd (false≢true (sym e))

-- a node with at most one child that has a left child has no right one
pub only_left : {D : Type 0} (m : map.FinMap nat_cmp (Slot D)) (id : ℕ) (sl : Slot D) → map.get m id ≡ Some sl → OneChild m id → is_some sl.left ≡ true → sl.right ≡ None
unfolding OneChild
only_left m id sl found (n, f, inl e) some = absurd (false≢true (sym (ap is_some (ap (λ o. (unwrap_or o sl).left) (sym found ∙ f) ∙ e)) ∙ some))
only_left m id sl found (n, f, inr e) some = ap (λ o. (unwrap_or o sl).right) (sym found ∙ f) ∙ e

module _ {X S B : Type 0} (w : Weaving X S B) (L : Lawful w) (is_near : B → Type 0) (is_item : X → Type 0) (is_sum is_value : S → Type 0)
    (sums : Sums w is_item is_sum) (parts : (a b : S) → is_value (w.join a b) → is_value a × is_value b)
    (thins : (a b c : S) → is_value (w.join a (w.join b c)) → is_value (w.join a c)) where
  items_without : (us : List (ℕ × X)) (e : ℕ × X) (vs : List (ℕ × X)) → AllItems w is_item (us ++ e ∷ vs) → AllItems w is_item (us ++ vs)
  items_without [] e vs (h, hs) = hs
  items_without (u ∷ us) e vs (h, hs) = (h, items_without us e vs hs)

  pub valued_without : (us : List (ℕ × X)) (e : ℕ × X) (vs : List (ℕ × X)) → Valued w is_item is_value (us ++ e ∷ vs) → Valued w is_item is_value (us ++ vs)
  valued_without us e vs (h, v) =
      (items_without us e vs h, subst is_value (sym (sum-append w L us vs)) (thins (sum_of w us) (w.one e.1) (sum_of w vs) (subst is_value (sum-append w L us (e ∷ vs)) v)))

  module _ (beside : Tree (Data X S B)) (m : map.FinMap nat_cmp (Slot (Data X S B))) (root : Option ℕ) (at : Option (ℕ × Side)) (red : Bool) (k : Hole (Data X S B)) (h : Emptied w is_near is_item is_value beside m root at red k) where
    list_is : entries w w.still (plug k tip) ≡ lefts w k ++ rights w k
    list_is = entries-plug w L is_near k tip

    pub slack_empty : (from : Option ℕ) → from ≡ above k → IsSlack w is_near is_item is_value beside m root from 128 (plug k tip)
    slack_empty from e = (k, (tip, refl, h.1, e, h.2, h.3, subst (Valued w is_item is_value) (sym list_is) h.4, h.5))

    module _ (m2 : map.FinMap nat_cmp (Slot (Data X S B))) (root2 : Option ℕ) (done : RenewedFrom w is_near beside m2 root2 (plug k tip)) where
      abbrev shaped : Data X S B → X × B
      shaped d = (d.item, d.delta)

      pub empty_mended : red ≡ true → Mended w is_near beside m2 root2 (lefts w k ++ rights w k)
      empty_mended is_red =
          let (u, made, wv, alike) = done in let (k2, (same, place, deep, fits)) = emptied_back shaped k u alike in
          let fit = fits false 0 (C.fits_either false 0 k (subst (λ c. Fits c (leaf_height c) k) is_red h.6)) in
          (u, made, (wv, same_items w w.still u (plug k tip) alike ∙ list_is), subst Balanced (sym same) (C.plugged false 0 k2 tip (refl, refl) fit))

      pub empty_closing : red ≡ false → Closing w is_near beside m2 root2 (lefts w k ++ rights w k) at 129
      empty_closing is_black =
          let (u, made, wv, alike) = done in let (k2, (same, place, deep, fits)) = emptied_back shaped k u alike in
          let fit = fits false 1 (subst (λ c. Fits c (leaf_height c) k) is_black h.6) in
          let le = h.5 in let few = few_steps k2 in
          at_top w L is_near is_item is_value beside m2 root2 (lefts w k ++ rights w k) at 129 (record {
            hole = k2;
            subtree = tip;
            black = 0;
            made = subst (Made beside m2 root2) same made;
            lists = (subst (Woven w is_near w.still) same wv, ap (entries w w.still) (sym same) ∙ same_items w w.still u (plug k tip) alike ∙ list_is);
            there = h.0 ∙ sym place;
            even = (refl, refl);
            fits = fit;
            few = omega (arith, le, few, deep);
          })

  -- a leaf is removed from a red-black tree
  module _ (k : Hole (Data X S B)) (c : Bool) (id : ℕ) (d : Data X S B) (wv : Woven w is_near w.still (plug k (fork c id d tip tip))) (bal : Balanced (plug k (fork c id d tip tip)))
      (v : Valued w is_item is_value (lefts w k ++ rights w k)) (le : depth k ≤ 128) where
    leaf_fits : Fits c (leaf_height c) k
    leaf_fits = let (n, (b, r, f)) = C.unplugged k (fork c id d tip tip) bal in fit_leaf c b n id d k r f

    left_empty : (beside : Tree (Data X S B)) (m : map.FinMap nat_cmp (Slot (Data X S B))) (root : Option ℕ) (at : Option (ℕ × Side)) → at ≡ place_of k → Made beside m root (plug k tip)
        → Emptied w is_near is_item is_value beside m root at c k
    left_empty beside m root at place made =
        let leaf = fork c id d tip tip in (
          place,
          made,
          near_of w L is_near (shift_at w k) leaf (woven_at w L is_near k leaf wv),
          slack_of w L is_near is_item is_sum is_value sums parts k leaf wv,
          v,
          le,
          leaf_fits,
        )

  -- a node without children, from the place of its item in the list
  module _ (beside : Tree (Data X S B)) (m : map.FinMap nat_cmp (Slot (Data X S B))) (root : Option ℕ) (id : ℕ) (us : List (ℕ × X)) (x : X) (vs : List (ℕ × X)) where
    pub record Spotted : Type 0 where
      pub spot : Spot (Data X S B)
      pub made : Made beside m root (plug spot.hole (here spot id))
      pub woven : Woven w is_near w.still (plug spot.hole (here spot id))
      pub balanced : Balanced (plug spot.hole (here spot id))
      pub value : x ≡ w.shift (shift_at w spot.hole) spot.datum.item
      pub before : us ≡ lefts w spot.hole ++ entries w (shift_at w spot.hole) spot.left
      pub after : vs ≡ entries w (w.plus (shift_at w spot.hole) spot.datum.delta) spot.right ++ rights w spot.hole
      pub low : depth spot.hole + height (here spot id) ≤ 126
      pub listed : entries w w.still (plug spot.hole (here spot id)) ≡ us ++ (id, x) ∷ vs
      pub high : height (plug spot.hole (here spot id)) ≤ 126

    pub spotted : Stores w is_near is_item is_value beside m root (us ++ (id, x) ∷ vs) → Spotted
    spotted ((t, made, (wv, e), bal), v, few) =
        let (s, whole, val, l, r) = locate_in w t us id x vs e in let deep = depth_height s.hole (here s id) in let high = ap height whole in
        let many = length-entries w w.still t in let long = ap length e in let low = not_high t bal (omega (arith, many, long, few)) in
        record {
          spot = s;
          made = rw whole made;
          woven = rw whole wv;
          balanced = rw whole bal;
          value = val;
          before = l;
          after = r;
          low = omega (arith, deep, high, low);
          listed = ap (entries w w.still) whole ∙ e;
          high = omega (arith, high, low);
        }

    pub childless_spot : (s : Spot (Data X S B)) → Made beside m root (plug s.hole (here s id)) → NoChild m id → (s.left ≡ tip) × (s.right ≡ tip)
    unfolding NoChild
    childless_spot s made (n, found, none, none2) =
        let up = upper_is m root (lying beside s) id made Left n found in (no_root s.left (sym (ap (λ o. o.left) up) ∙ none), no_root s.right (sym (ap (λ o. o.right) up) ∙ none2))

    pub leaf_gone : NoChild m id → Stores w is_near is_item is_value beside m root (us ++ (id, x) ∷ vs) → (at : Option (ℕ × Side)) → AtSpot m root id (λ s. at ≡ place_of s.hole)
        → (slot : Slot (Data X S B)) → map.get m id ≡ Some slot → {m1 : map.FinMap nat_cmp (Slot (Data X S B))} {root1 : Option ℕ} → m1 ≡ hung m at None → root1 ≡ root_hung root at None
        → Unlinked w is_near is_item is_value beside m1 root1 at slot.red id (us ++ vs)
    leaf_gone nc st at placed slot read {m1} {root1} e1 er =
        let at_ = spotted st in let s = at_.spot in let low = at_.low in let (tl, tr) = childless_spot s at_.made nc in
        let leaf : here s id ≡ fork s.red id s.datum tip tip = λ i. fork s.red id s.datum (tl i) (tr i) in
        let k = s.hole in
        let us_is : us ≡ lefts w k = at_.before ∙ ap (λ q. lefts w k ++ entries w (shift_at w k) q) tl ∙ append-nil (lefts w k) in
        let vs_is : vs ≡ rights w k = at_.after ∙ ap (λ q. entries w (w.plus (shift_at w k) s.datum.delta) q ++ rights w k) tr in
        let list : lefts w k ++ rights w k ≡ us ++ vs = λ i. sym us_is i ++ sym vs_is i in
        let v = subst (Valued w is_item is_value) (sym list) (valued_without us (id, x) vs st.1) in
        let old = subst (λ t. Made beside m root (plug k t)) leaf at_.made in let there = placed (lying beside s) at_.made in
        let made : Made beside m1 root1 (plug k tip) = rw (e1, er, there) (spliced m root k Left s.red id s.datum tip old) in
        let empty = left_empty k s.red id s.datum (subst (λ t. Woven w is_near w.still (plug k t)) leaf at_.woven) (subst (λ t. Balanced (plug k t)) leaf at_.balanced) v (omega (arith, low))
        beside m1 root1 at there made in
        let colour : slot.red ≡ s.red = ap (λ n. n.red) (upper_is m root (lying beside s) id at_.made Left slot read) in
        (k, list, subst (λ c. Emptied w is_near is_item is_value beside m1 root1 at c k) (sym colour) empty, gone m root k Left s.red id s.datum tip old)

    -- a rotation towards its only child makes a node a leaf
    module _ (at : Spotted) (side : Side) (j : ℕ) (is : root_of (below side at.spot) ≡ Some j) where
      abbrev s : Spot (Data X S B)
      s = at.spot

      pub can_turn_down : Valued w is_item is_value (us ++ (id, x) ∷ vs) → CanTurnAt w is_near is_item is_value m root id side
      can_turn_down v = (lying beside s, at.made, subst IsSome (sym (ap root_of (below_lying beside side s) ∙ is)) refl, at.woven, subst (Valued w is_item is_value) (sym at.listed) v)

      module _ (none : root_of (below (other side) s) ≡ None) (m2 : map.FinMap nat_cmp (Slot (Data X S B))) (root2 : Option ℕ) (done : TurnedAt w is_near m2 root2 id side (lying beside s)) where
        lower_leaf : (low : Data X S B) × ((high : Data X S B) × Made beside m2 root2 (plug s.hole (forked side false j high tip (fork true id low tip tip)))
            × Lists w is_near (plug s.hole (forked side false j high tip (fork true id low tip tip))) (us ++ (id, x) ∷ vs)
            × Balanced (plug s.hole (forked side false j high tip (fork true id low tip tip))))
        lower_leaf =
            let bare : here s id ≡ forked side s.red id s.datum (below side s) tip =
            here_forked side s id ∙ ap (forked side s.red id s.datum (below side s)) (no_root (below (other side) s) none) in
            let (n, (b, r, f)) = C.unplugged s.hole (forked side s.red id s.datum (below side s) tip) (subst (λ t. Balanced (plug s.hole t)) bare at.balanced) in
            let (black, bf, one, (e, leaf)) = one_red side s.red b n id j s.datum (below side s) is r in
            let (low, (high, made2, (wv2, list2))) = done at.woven in
            let now : turned side low high (here s id) ≡ forked side false j high tip (fork true id low tip tip) =
            ap (turned side low high) (bare ∙ (λ h. forked side (black h) id s.datum (leaf h) tip)) ∙ turn_is side id j s.datum e low high in (
              low,
              (
                high,
                subst (λ t. Made beside m2 root2 (plug s.hole t)) now made2,
                subst (λ t. Lists w is_near (plug s.hole t) (us ++ (id, x) ∷ vs)) now (wv2, list2 ∙ at.listed),
                C.plugged false 1 s.hole (forked side false j high tip (fork true id low tip tip)) (C.black_forked side 0 j high tip (fork true id low tip tip) (false, (refl, refl)) (true, (refl, (refl, refl), (refl, refl))))
                    (subst (λ l. Fits false l s.hole) one (subst (λ a. Fits a n s.hole) bf f)),
              ),
            )

        pub down_leaf : NoChild m2 id
        unfolding NoChild
        down_leaf =
            let (low, (high, made2, list2, bal2)) = lower_leaf in let leaf = fork true id low tip tip in
            let up = subst (λ t. Made beside m2 root2 (plug s.hole t)) (sym (forked-other side false j high leaf tip)) made2 in
            (_, slot_here m2 root2 (record { beside = beside; hole = on (other side) false j high tip s.hole; red = true; datum = low; left = tip; right = tip }) id up, refl, refl)

        pub down_mended : Mended w is_near beside m2 root2 (us ++ (id, x) ∷ vs)
        down_mended = let (low, (high, made2, list2, bal2)) = lower_leaf in (plug s.hole (forked side false j high tip (fork true id low tip tip)), made2, list2, bal2)

    -- the same, from what is read of the node
    module _ (stores : Stores w is_near is_item is_value beside m root (us ++ (id, x) ∷ vs)) (sl : Slot (Data X S B)) (found : map.get m id ≡ Some sl) where
      abbrev node : Spot (Data X S B)
      node = (spotted stores).spot

      child_is : (side : Side) → child side sl ≡ root_of (below side node)
      child_is Left = ap (λ o. o.left) (upper_is m root (lying beside node) id (spotted stores).made Left sl found)
      child_is Right = ap (λ o. o.right) (upper_is m root (lying beside node) id (spotted stores).made Left sl found)

      module _ (side : Side) (some : is_some (child side sl) ≡ true) where
        there : (j : ℕ) × (root_of (below side node) ≡ Some j)
        there = let (j, is) = some_of (child side sl) some in (j, sym (child_is side) ∙ is)

        pub can_turn_there : CanTurnAt w is_near is_item is_value m root id side
        can_turn_there = can_turn_down (spotted stores) side there.0 there.1 stores.1

        module _ (none : child (other side) sl ≡ None) (m2 : map.FinMap nat_cmp (Slot (Data X S B))) (root2 : Option ℕ) (done : AtSpot m root id (λ sp. TurnedAt w is_near m2 root2 id side sp)) where
          pub leaf_there : NoChild m2 id
          leaf_there = down_leaf (spotted stores) side there.0 there.1 (sym (child_is (other side)) ∙ none) m2 root2 (done (lying beside node) (spotted stores).made)

          pub mended_there : Mended w is_near beside m2 root2 (us ++ (id, x) ∷ vs)
          mended_there = down_mended (spotted stores) side there.0 there.1 (sym (child_is (other side)) ∙ none) m2 root2 (done (lying beside node) (spotted stores).made)

-- a node with at most one child, from what is read of it
module _ {W X S B K : Type 0} (w : Ghosts W X S B K) (old : Links (Data X S B)) (id : ℕ) (slot : Slot (Data X S B)) (read : map.get old.nodes.live id ≡ Some slot) where
  turns_down : (side : Side) → StoresItem w old id → is_some (child side slot) ≡ true → CanTurnNode w old id side
  unfolding StoresItem CanTurnNode
  turns_down side (l, (reach, (beside, (us, (x, (vs, st)))))) some = (
    l,
    can_turn_wider w.weaving (w.within reach) w.is_near (l.within_near reach) w.is_item w.is_value old.nodes.live old.root id side
        (can_turn_there w.weaving l.laws (w.within reach) w.is_item w.is_sum w.is_value l.sums l.parts l.thins beside old.nodes.live old.root id us x vs st slot read side some),
  )

  pub turns_left : StoresItem w old id → is_some slot.left ≡ true → CanTurnNode w old id Left
  turns_left = turns_down Left

  pub turns_right : StoresItem w old id → is_some slot.right ≡ true → CanTurnNode w old id Right
  turns_right = turns_down Right

  module _ (new : Links (Data X S B)) (side : Side) (turned_ : Turns w old new id side) (some : is_some (child side slot) ≡ true) (none : child (other side) slot ≡ None) where
    leaf_turned : StoresItem w old id → NoChild new.nodes.live id
    unfolding StoresItem Turns
    leaf_turned (l, (reach, (beside, (us, (x, (vs, st)))))) =
        leaf_there w.weaving l.laws (w.within reach) w.is_item w.is_sum w.is_value l.sums l.parts l.thins beside old.nodes.live old.root id us x vs st slot read side some none
        new.nodes.live new.root (λ sp h. turned_ sp h reach)

    lists_turned : StoresItem w old id → StillLists w old new id
    unfolding StoresItem Turns StillLists
    lists_turned (l, some_item) = λ reach beside us x vs st.
        mended_there w.weaving l.laws (w.within reach) w.is_item w.is_sum w.is_value l.sums l.parts l.thins beside old.nodes.live old.root id us x vs st slot read side some none
        new.nodes.live new.root (λ sp h. turned_ sp h reach)

  pub leaf_left : (new : Links (Data X S B)) → StoresItem w old id → OneChild old.nodes.live id → is_some slot.left ≡ true → Turns w old new id Left → NoChild new.nodes.live id
  leaf_left new stored one some turned_ = leaf_turned new Left turned_ some (only_left old.nodes.live id slot read one some) stored

  pub leaf_right : (new : Links (Data X S B)) → StoresItem w old id → is_some slot.left ≡ false → is_some slot.right ≡ true → Turns w old new id Right → NoChild new.nodes.live id
  leaf_right new stored none some turned_ = leaf_turned new Right turned_ some (none_of slot.left none) stored

  pub lists_left : (new : Links (Data X S B)) → StoresItem w old id → OneChild old.nodes.live id → is_some slot.left ≡ true → Turns w old new id Left → StillLists w old new id
  lists_left new stored one some turned_ = lists_turned new Left turned_ some (only_left old.nodes.live id slot read one some) stored

  pub lists_right : (new : Links (Data X S B)) → StoresItem w old id → is_some slot.left ≡ false → is_some slot.right ≡ true → Turns w old new id Right → StillLists w old new id
  lists_right new stored none some turned_ = lists_turned new Right turned_ some (none_of slot.left none) stored

pub leaf_still : {D : Type 0} (m : map.FinMap nat_cmp (Slot D)) (id : ℕ) (slot : Slot D) → map.get m id ≡ Some slot → is_some slot.left ≡ false → is_some slot.right ≡ false → NoChild m id
unfolding NoChild
leaf_still m id slot read none none2 = (slot, read, none_of slot.left none, none_of slot.right none2)

pub lists_still : {W X S B K : Type 0} (w : Ghosts W X S B K) (old new : Links (Data X S B)) (id : ℕ) → new.nodes.live ≡ old.nodes.live → new.root ≡ old.root → StillLists w old new id
unfolding StillLists
lists_still w old new id same top_ = λ reach beside us x vs st. rw (same, top_) st.0

pub ruleset to_leaf = (turns_left, turns_right, leaf_left, leaf_right, leaf_still, lists_left, lists_right, lists_still)

-- the node of an item that a tree stores
pub stored_there : {W X S B K : Type 0} (w : Ghosts W X S B K) (tree : Links (Data X S B)) (id : ℕ) → StoresItem w tree id → IsThere tree id
unfolding StoresItem IsThere
stored_there w tree id (l, (reach, (beside, (us, (x, (vs, st)))))) =
    let m = tree.nodes.live in let root = tree.root in
    let found = spotted w.weaving l.laws (w.within reach) w.is_item w.is_sum w.is_value l.sums l.parts l.thins beside m root id us x vs st in
    (lying beside found.spot, found.made)

-- the leaf is detached from its place
module _ {D : Type 0} where
  pub place_stands : (tree : Links D) (id : ℕ) (at : Option (ℕ × Side)) → IsThere tree id → AtSpot tree.nodes.live tree.root id (λ s. at ≡ place_of s.hole) → LivesAt tree.nodes at
  unfolding IsThere LivesAt
  place_stands tree id at (s, made) placed = rw (placed s made) (at_place tree.nodes.live tree.root s id made)

  pub leaf_stays : (old new : Links D) (id : ℕ) (at : Option (ℕ × Side)) → NoChild old.nodes.live id → new.nodes.live ≡ hung old.nodes.live at None → Lives new.nodes id
  unfolding NoChild Lives
  leaf_stays old new id at (n, found, none, none2) live_ = rw live_ (live_hung old.nodes.live at None id (n, found))

pub leaf_cut : {W X S B K : Type 0} (w : Ghosts W X S B K) (old new : Links (Data X S B)) (id : ℕ) (at gap : Option (ℕ × Side)) (slot : Slot (Data X S B)) (red : Bool) → StoresItem w old id → NoChild old.nodes.live id
    → map.get old.nodes.live id ≡ Some slot → red ≡ slot.red → AtSpot old.nodes.live old.root id (λ s. at ≡ place_of s.hole) → gap ≡ at → new.nodes.live ≡ hung old.nodes.live at None → new.root ≡ root_hung old.root at None → Unlinks w old new id gap red
unfolding StoresItem Unlinks
leaf_cut w old new id at gap slot red (l, some) none read is placed copy e1 er = λ reach beside us x vs st.
    rw (copy, is) (leaf_gone w.weaving l.laws (w.within reach) w.is_item w.is_sum w.is_value l.sums l.parts l.thins beside old.nodes.live old.root id us x vs none st at placed slot read e1 er)

pub ruleset leaf_unlinks = (place_stands, leaf_cut, leaf_stays)
