-- Insertion of an item into a hole of a tree.
use Rattle.std.proofs.Common.{◌≡◌, ℕ, ◌+◌, true, false, List, [], ◌∷◌, ◌++◌, Option, Some, None, refl, sym, ap, ◌∙◌, subst, arith}
use Rattle.std.specs.Ordering.{nat_cmp}
use Rattle.std.proofs.lemmas.Cmp.{nat_cmp_total}
use Rattle.std.specs.FinMap as map
use Rattle.rb_rules.specs.declared.slot.Data.{Data}
use Rattle.raw_arena.proofs.Names.{get-insert_same}
use Rattle.rb_rules.specs.declared.slot.Side.{Side}
use Rattle.rb_rules.specs.declared.slot.Side.TheVariants.{Left}
use Rattle.rb_rules.specs.declared.slot.Slot.{Slot}
use Rattle.rb_rules.specs.Tree.{Tree, tip, fork, Hole, plug, above, root_of, count}
use Rattle.rb_rules.specs.Colours.{Fits, Balanced}
use Rattle.rb_rules.specs.Memory.{hung, root_hung, Made, here, AtSpot, place_of}
use Rattle.rb_rules.specs.Weaving.{Weaving, Lawful, Sums, HeldItem, HeldBy, CanSumUp}
use Rattle.rb_rules.specs.Woven.{entries, sum_of, Woven, AllItems, Valued, lefts, rights, shift_at}
use Rattle.rb_rules.specs.Sound.{IsSlack, RenewedFrom}
use Rattle.rb_rules.proofs.Attaching.{written_apart, absent_both, planted}
use Rattle.rb_rules.proofs.Colouring as C
use Rattle.rb_rules.proofs.Climbs.{slack_of}
use Rattle.rb_rules.proofs.Held.{can_sum_up, valued_left, valued_right}
use Rattle.rb_rules.proofs.Live.{live_place}
use Rattle.rb_rules.proofs.Memories.{opened}
use Rattle.rb_rules.proofs.Shapes.{same_items}
use Rattle.rb_rules.proofs.Unshaping as U
use Rattle.rb_rules.proofs.Weaves.{woven_at, near_of, woven_summed, entries-plug}
use Rattle.rb_rules.proofs.Wider.{woven_wider}
use Rattle.rb_rules.specs.declared.weave.Weave.{Ghosts}
use Rattle.rb_arena.specs.declared.links.Links.{Links}
use Rattle.rb_arena.specs.Nodes.{LivesAt}
use Rattle.rb_arena.specs.Placing.{CanTake, kept_below, leaf_of, leaf_below, above_place, CanKeep, CanKeepAlone, IsLeaf, IsLeafFor, IsValueAlone, IsShiftTo, IsWovenPlace, WovenIn, Takes, TakesIn, TakesLeaf, TakesNode, ListsAt, ListsLeafAt, ListsNodeAt}
use Rattle.rb_arena.specs.Relative.{CanSumOver, LawsOf, IsSlackFrom, RenewsFrom}
use Rattle.rb_arena.specs.Leaving.{IsKept, StandsValued, StandsWoven}
use Rattle.rb_arena.specs.Rising.{Rising, IsRisingFrom, MendsFrom}
use Rattle.rb_arena.proofs.Paths.{above-place}
use Rattle.rb_arena.proofs.Slots.{len_written}

empty_fits : {D : Type 0} (k : Hole D) → Balanced (plug k tip) → Fits false 0 k
empty_fits k bal = let (n, (c, (e, z), f)) = C.unplugged k tip bal in subst (λ b. Fits b 0 k) e (subst (λ l. Fits c l k) z f)

module _ {X S B : Type 0} (w : Weaving X S B) (L : Lawful w) (is_near : B → Type 0) (is_item : X → Type 0) (is_sum is_value : S → Type 0)
    (sums : Sums w is_item is_sum) (parts : (a b : S) → is_value (w.join a b) → is_value a × is_value b) where
  -- the property of being values does not depend on names
  items_renamed : (xs ys : List (ℕ × X)) (i j : ℕ) (x : X) → AllItems w is_item (xs ++ (i, x) ∷ ys) → AllItems w is_item (xs ++ (j, x) ∷ ys)
  items_renamed [] ys i j x h = h
  items_renamed (e ∷ xs) ys i j x (h, hs) = (h, items_renamed xs ys i j x hs)

  sum_renamed : (xs ys : List (ℕ × X)) (i j : ℕ) (x : X) → sum_of w (xs ++ (i, x) ∷ ys) ≡ sum_of w (xs ++ (j, x) ∷ ys)
  sum_renamed [] ys i j x = refl
  sum_renamed (e ∷ xs) ys i j x = ap (w.join (w.one e.1)) (sum_renamed xs ys i j x)

  pub valued_renamed : (xs ys : List (ℕ × X)) (i j : ℕ) (x : X) → Valued w is_item is_value (xs ++ (i, x) ∷ ys) → Valued w is_item is_value (xs ++ (j, x) ∷ ys)
  valued_renamed xs ys i j x (h, v) = (items_renamed xs ys i j x h, subst is_value (sum_renamed xs ys i j x) v)

  pub back : (by : B) (x : X) → w.shift by (kept_below w by x) ≡ x
  back by x = sym (L.shift_plus _ _ x) ∙ ap (λ b. w.shift b x) (L.plus_minus w.still by) ∙ L.shift_still x

  still_near : (by : B) → is_near by → is_near (w.plus by w.still)
  still_near by near = subst is_near (sym (L.plus_still by)) near

  -- an item that may be put into a hole is a value alone
  pub valued_alone : (k : Hole (Data X S B)) (x : X) → Valued w is_item is_value (lefts w k ++ (0, x) ∷ rights w k) → Valued w is_item is_value ((0, x) ∷ [])
  valued_alone k x v =
      valued_left w L is_near is_item is_sum is_value sums parts ((0, x) ∷ []) (rights w k)
      (valued_right w L is_near is_item is_sum is_value sums parts (lefts w k) ((0, x) ∷ rights w k) v)

  -- a subtree in a hole of a tree with the right sums
  module _ (k : Hole (Data X S B)) (t : Tree (Data X S B)) (x : X) (wv : Woven w is_near w.still (plug k t)) where
    near : is_near (shift_at w k)
    near = near_of w L is_near (shift_at w k) t (woven_at w L is_near k t wv)

    held_minus : HeldBy w is_near (w.minus w.still (shift_at w k))
    held_minus = (shift_at w k, near, subst is_near (sym (L.plus_minus w.still (shift_at w k))) (near_of w L is_near w.still (plug k t) wv))

    -- the form in which a node there keeps a value
    pub can_keep_at : is_item x → HeldBy w is_near (w.minus w.still (shift_at w k)) × HeldItem w is_near is_item (kept_below w (shift_at w k) x)
    can_keep_at h = (held_minus, (shift_at w k, near, subst is_item (sym (back (shift_at w k) x)) h))

    -- the data of a leaf there
    pub can_keep_leaf : Valued w is_item is_value ((0, x) ∷ []) → CanSumUp w is_near is_item is_sum is_value (kept_below w (shift_at w k) x) w.still w.none w.none
    can_keep_leaf v =
        can_sum_up w L is_near is_item is_sum is_value sums parts (shift_at w k) 0 (kept_below w (shift_at w k) x) w.still tip tip near (still_near (shift_at w k) near)
        (subst (λ z. Valued w is_item is_value ((0, z) ∷ [])) (sym (back (shift_at w k) x)) v)

  -- the leaf is in a hole, and the sums above it are not recomputed yet
  module _ {beside : Tree (Data X S B)} {m : map.FinMap nat_cmp (Slot (Data X S B))} {root : Option ℕ} {place : Option (ℕ × Side)} (x : X) (k : Hole (Data X S B))
      (h : CanTake w is_near beside m root place is_item is_value x k) (id : ℕ) where
    abbrev leaf : Tree (Data X S B)
    leaf = fork true id (leaf_of w k x) tip tip

    items_are : entries w w.still (plug k (fork true id (leaf_of w k x) tip tip)) ≡ lefts w k ++ (id, x) ∷ rights w k
    items_are = entries-plug w L is_near k leaf ∙ ap (λ z. lefts w k ++ (id, z) ∷ rights w k) (back (shift_at w k) x)

    pub valued_new : Valued w is_item is_value (lefts w k ++ (id, x) ∷ rights w k)
    valued_new = valued_renamed (lefts w k) (rights w k) 0 id x h.2

    module _ (m2 : map.FinMap nat_cmp (Slot (Data X S B))) (root2 : Option ℕ) where
      pub slack_leaf : (at : Option ℕ) → at ≡ above k → Made beside m2 root2 (plug k (fork true id (leaf_of w k x) tip tip))
          → IsSlack w is_near is_item is_value beside m2 root2 at 128 (plug k (fork true id (leaf_of w k x) tip tip))
      slack_leaf at e made =
          let near_here = near k tip x h.0.1 in (
            k,
            (
              leaf,
              refl,
              made,
              e,
              woven_summed w L is_near (shift_at w k) true id (w.shift (w.minus w.still (shift_at w k)) x) w.still tip tip near_here (still_near (shift_at w k) near_here),
              slack_of w L is_near is_item is_sum is_value sums parts k tip h.0.1,
              subst (Valued w is_item is_value) (sym items_are) valued_new,
              h.0.2,
            ),
          )

      pub rising_leaf : RenewedFrom w is_near beside m2 root2 (plug k (fork true id (leaf_of w k x) tip tip)) → Rising w is_near beside m2 root2 (lefts w k ++ (id, x) ∷ rights w k) id 128
      rising_leaf (u, made, wv2, alike) =
          let f : Data X S B → X × B = λ d. (d.item, d.delta) in
          let (k2, (t2, is, alike2, deep, fits)) = U.unplugged f k leaf u alike in
          let (d2, (a, b, same, ea, eb)) = U.forked_back f Left t2 true id (f (leaf_of w k x)) tip tip alike2 in let few = h.0.2 in record {
            hole = k2;
            subtree = t2;
            black = 0;
            made = subst (Made beside m2 root2) is made;
            lists = (subst (Woven w is_near w.still) is wv2, ap (entries w w.still) (sym is) ∙ same_items w w.still u (plug k leaf) alike ∙ items_are);
            named = ap root_of same;
            red = U.rb_same f true 0 leaf t2 (sym alike2) (refl, (refl, refl), (refl, refl));
            fits = fits false 0 (empty_fits k h.1);
            few = omega (arith, deep, few);
          }

-- the values read at a place, by the path to it
module _ {W X S B K : Type 0} (w : Ghosts W X S B K) (tree : Links (Data X S B)) (at copy : Option (ℕ × Side)) (by : B) (item : X) where
  pub can_keep_alone : IsWovenPlace w tree at → IsValueAlone w item → IsShiftTo w tree copy by → copy ≡ at → CanKeepAlone w by item
  unfolding IsWovenPlace IsValueAlone CanKeepAlone CanKeep CanSumOver IsShiftTo
  can_keep_alone (l, (beside, (t, (k, h)))) v is same =
      let by_is : by ≡ shift_at w.weaving k = is beside t k (subst (λ o. WovenIn w tree o beside t k) (sym same) h) in
      let keep = can_keep_at w.weaving l.laws w.is_near w.is_item w.is_sum w.is_value l.sums l.parts k t item h.1 v.0.0 in
      subst (λ b. CanKeepAlone w b item) (sym by_is) (keep, can_keep_leaf w.weaving l.laws w.is_near w.is_item w.is_sum w.is_value l.sums l.parts k t item h.1 v)

  pub leaf_made : (slot : Slot (Data X S B)) → IsShiftTo w tree copy by → copy ≡ at → slot.parent ≡ above_place at → slot.left ≡ None → slot.right ≡ None → slot.red ≡ true
      → slot.«data» ≡ leaf_below w.weaving by item → IsLeafFor w tree at item slot
  unfolding IsLeafFor IsShiftTo
  leaf_made slot is same is_above none none2 is_red is_datum = λ beside t k h.
      let by_is : by ≡ shift_at w.weaving k = is beside t k (subst (λ o. WovenIn w tree o beside t k) (sym same) h) in
      let leaf : slot.«data» ≡ leaf_of w.weaving k item = is_datum ∙ ap (λ b. leaf_below w.weaving b item) by_is in
      let up : slot.parent ≡ above k = is_above ∙ ap above_place h.0.0 ∙ above-place k in
      λ i. record { parent = up i; left = none i; right = none2 i; red = is_red i; «data» = leaf i }

pub ruleset making_leaf = (can_keep_alone, leaf_made)

-- an item that may be put at a place
module _ {W X S B K : Type 0} (w : Ghosts W X S B K) (l : LawsOf w) (old : Links (Data X S B)) (at : Option (ℕ × Side)) (item : X) (reach : B) (beside : Tree (Data X S B)) (k : Hole (Data X S B)) (can : TakesIn w old at reach beside item k) where
  woven_in : WovenIn w old at beside tip k
  woven_in = let ((here, wv, le), bal, v) = can in (here, woven_wider w.weaving (w.within reach) w.is_near (l.within_near reach) w.weaving.still (plug k tip) wv, le)

  woven_place : IsWovenPlace w old at
  unfolding IsWovenPlace
  woven_place = (l, (beside, (tip, (k, woven_in))))

  alone_there : IsValueAlone w item
  unfolding IsValueAlone
  alone_there = valued_alone w.weaving l.laws (w.within reach) w.is_item w.is_sum w.is_value l.sums l.parts k item can.2

  -- the leaf made for the item is written under a name that is in neither tree
  leaf_written : (id : ℕ) → count id (plug k tip) + count id beside ≡ 0 → (slot : Slot (Data X S B)) → IsLeafFor w old at item slot → (mid : Links (Data X S B)) → mid.nodes.live ≡ map.insert old.nodes.live id slot → mid.root ≡ old.root
      → TakesIn w mid at reach beside item k × IsLeaf w.weaving beside mid.nodes.live id item k
  unfolding IsLeafFor
  leaf_written id apart slot leaf_is mid written top_ =
      let ((here, wv, le), bal, v) = can in
      let made = subst (λ m. Made beside m old.root (plug k tip)) (sym written) (written_apart old.nodes.live id slot old.root (plug k tip) apart here.1) in (
        (((here.0, subst (λ r. Made beside mid.nodes.live r (plug k tip)) (sym top_) made), wv, le), bal, v),
        (ap (λ m. map.get m id) written ∙ get-insert_same old.nodes.live id slot ∙ ap Some (leaf_is beside tip k woven_in), apart),
      )

module _ {W X S B K : Type 0} (w : Ghosts W X S B K) (old : Links (Data X S B)) (at : Option (ℕ × Side)) (item : X) where
  pub takes_place : Takes w old at item → IsWovenPlace w old at
  unfolding Takes
  takes_place (l, (reach, (beside, (k, can)))) = woven_place w l old at item reach beside k can

  pub takes_value : Takes w old at item → IsValueAlone w item
  unfolding Takes
  takes_value (l, (reach, (beside, (k, can)))) = alone_there w l old at item reach beside k can

  module _ (id : ℕ) where
    pub lands_place : TakesNode w old at id item → IsWovenPlace w old at
    unfolding TakesNode
    lands_place (l, (reach, (beside, (k, can, apart)))) = woven_place w l old at item reach beside k can

    pub lands_value : TakesNode w old at id item → IsValueAlone w item
    unfolding TakesNode
    lands_value (l, (reach, (beside, (k, can, apart)))) = alone_there w l old at item reach beside k can

    module _ (slot : Slot (Data X S B)) (leaf_is : IsLeafFor w old at item slot) (mid : Links (Data X S B)) (written : mid.nodes.live ≡ map.insert old.nodes.live id slot) (top_ : mid.root ≡ old.root) where
      -- a new node
      pub takes_leaf : map.get old.nodes.live id ≡ None → Takes w old at item → TakesLeaf w mid at id
      unfolding Takes TakesLeaf
      takes_leaf fresh (l, (reach, (beside, (k, can)))) =
          let (takes, leaf) = leaf_written w l old at item reach beside k can id (absent_both old.nodes.live id fresh old.root (plug k tip) can.0.0.1) slot leaf_is mid written top_ in
          (l, (reach, (beside, (k, (item, takes, leaf)))))

      pub lists_leaf : (new : Links (Data X S B)) → map.get old.nodes.live id ≡ None → Takes w old at item → ListsLeafAt w mid new at id → ListsAt w old new at id item
      unfolding Takes ListsLeafAt ListsAt
      lists_leaf new fresh (l, some) lists = λ reach beside k can.
          let (takes, leaf) = leaf_written w l old at item reach beside k can id (absent_both old.nodes.live id fresh old.root (plug k tip) can.0.0.1) slot leaf_is mid written top_ in
          lists reach beside k item takes leaf

      -- a node that was in no tree
      pub lands_leaf : TakesNode w old at id item → TakesLeaf w mid at id
      unfolding TakesNode TakesLeaf
      lands_leaf (l, (reach, (beside, (k, can, apart)))) =
          let (takes, leaf) = leaf_written w l old at item reach beside k can id apart slot leaf_is mid written top_ in (l, (reach, (beside, (k, (item, takes, leaf)))))

      pub lists_node : (new : Links (Data X S B)) → TakesNode w old at id item → ListsLeafAt w mid new at id → ListsNodeAt w old new at id item
      unfolding TakesNode ListsLeafAt ListsNodeAt
      lists_node new (l, some) lists = λ reach beside k can apart.
          let (takes, leaf) = leaf_written w l old at item reach beside k can id apart slot leaf_is mid written top_ in lists reach beside k item takes leaf

-- a leaf for a place is attached there
module _ {W X S B K : Type 0} (w : Ghosts W X S B K) (old : Links (Data X S B)) (at : Option (ℕ × Side)) (id : ℕ) where
  pub lives_over : TakesLeaf w old at id → LivesAt old.nodes at
  unfolding TakesLeaf LivesAt
  lives_over (l, (reach, (beside, (k, (x, can, leaf))))) =
      let made = can.0.0.1 in rw can.0.0.0 (live_place old.nodes.live old.root k _ (opened old.nodes.live old.root k tip made.from made.nodes).0)

  module _ (mid : Links (Data X S B)) (parent : Option ℕ) (live_ : mid.nodes.live ≡ hung old.nodes.live at (Some id)) (top_ : mid.root ≡ root_hung old.root at (Some id)) (up : parent ≡ above_place at) where
    module _ (l : LawsOf w) (reach : B) (beside : Tree (Data X S B)) (k : Hole (Data X S B)) (x : X) (can : TakesIn w old at reach beside x k) (leaf : IsLeaf w.weaving beside old.nodes.live id x k) where
      -- the tree with the leaf, with sums above it that may be wrong
      abbrev with_leaf : Tree (Data X S B)
      with_leaf = plug k (fork true id (leaf_of w.weaving k x) tip tip)

      slack_with : IsSlack w.weaving (w.within reach) w.is_item w.is_value beside mid.nodes.live mid.root parent 128 with_leaf
      slack_with =
          let made : Made beside mid.nodes.live mid.root with_leaf = rw (live_, top_, can.0.0.0) (planted old.nodes.live old.root k id (leaf_of w.weaving k x) leaf.0 leaf.1 can.0.0.1) in
          slack_leaf w.weaving l.laws (w.within reach) w.is_item w.is_sum w.is_value l.sums l.parts x k can id mid.nodes.live mid.root parent (up ∙ ap above_place can.0.0.0 ∙ above-place k) made

      -- after the sums are recomputed, the leaf is a red node that may have a red parent
      rises : (new : Links (Data X S B)) → RenewsFrom w mid new parent 128
          → Rising w.weaving (w.within reach) beside new.nodes.live new.root (lefts w.weaving k ++ (id, x) ∷ rights w.weaving k) id 128
          × Valued w.weaving w.is_item w.is_value (lefts w.weaving k ++ (id, x) ∷ rights w.weaving k)
      unfolding RenewsFrom
      rises new renews = (
        rising_leaf w.weaving l.laws (w.within reach) w.is_item w.is_sum w.is_value l.sums l.parts x k can id new.nodes.live new.root (renews reach beside _ slack_with),
        valued_new w.weaving l.laws (w.within reach) w.is_item w.is_sum w.is_value l.sums l.parts x k can id,
      )

    pub slack_over : TakesLeaf w old at id → IsSlackFrom w mid parent 128
    unfolding TakesLeaf IsSlackFrom
    slack_over (l, (reach, (beside, (k, (x, can, leaf))))) = (reach, (beside, (_, slack_with l reach beside k x can leaf)))

    module _ (new : Links (Data X S B)) (renews : RenewsFrom w mid new parent 128) where
      pub leaf_rises : TakesLeaf w old at id → IsRisingFrom w new id 128
      unfolding TakesLeaf IsRisingFrom
      leaf_rises (l, (reach, (beside, (k, (x, can, leaf))))) = let (rising, values) = rises l reach beside k x can leaf new renews in (reach, (beside, (_, rising, values)))

      pub leaf_listed : (last : Links (Data X S B)) → TakesLeaf w old at id → MendsFrom w new last id 128 → ListsLeafAt w old last at id
      unfolding TakesLeaf MendsFrom ListsLeafAt
      leaf_listed last (l, some) mends = λ reach beside k x can leaf. let (rising, values) = rises l reach beside k x can leaf new renews in mends reach beside _ rising values

pub ruleset hung_leaf = (lives_over, slack_over, leaf_rises, leaf_listed)

-- a new node increases the number of live nodes by one
pub len_put : {V : Type 0} (m m2 : map.FinMap nat_cmp V) (id : ℕ) (x : V) → m2 ≡ map.insert m id x → map.get m id ≡ None → map.len m2 ≡ map.len m + 1
len_put m m2 id x new none = ap map.len new ∙ map.len-insert nat_cmp_total m id x ∙ rw none refl

pub ruleset inserted = (takes_place, takes_value, takes_leaf, lists_leaf, len_put)

pub ruleset landed = (lands_place, lands_value, lands_leaf, lists_node, len_written)

-- a node of a tree, by the path to its place
module _ {W X S B K : Type 0} (w : Ghosts W X S B K) (tree : Links (Data X S B)) (id : ℕ) (at : Option (ℕ × Side)) (placed : AtSpot tree.nodes.live tree.root id (λ s. at ≡ place_of s.hole)) where
  pub place_there : StandsWoven w tree id → IsWovenPlace w tree at
  unfolding StandsWoven IsWovenPlace
  place_there (l, (s, (made, wv, le))) = (l, (s.beside, (here s id, (s.hole, ((placed s made, made), wv, le)))))

  pub valued_place : StandsValued w tree id → IsWovenPlace w tree at
  unfolding StandsValued IsWovenPlace
  valued_place (l, (s, (made, wv, le), value)) = (l, (s.beside, (here s id, (s.hole, ((placed s made, made), wv, le)))))

  -- the form in which it keeps an item
  module _ (by : B) (is : IsShiftTo w tree at by) (item : X) where
    pub can_keep_there : StandsWoven w tree id → w.is_item item → CanKeep w by item
    unfolding StandsWoven CanKeep IsShiftTo
    can_keep_there (l, (s, (made, wv, le))) value =
        let by_is : by ≡ shift_at w.weaving s.hole = is s.beside (here s id) s.hole ((placed s made, made), wv, le) in
        subst (λ b. CanKeep w b item) (sym by_is) (can_keep_at w.weaving l.laws w.is_near w.is_item w.is_sum w.is_value l.sums l.parts s.hole (here s id) item wv value)

    pub kept_back : (own : X) → StandsWoven w tree id → own ≡ kept_below w.weaving by item → IsKept w tree id item own
    unfolding StandsWoven IsKept IsShiftTo
    kept_back own (l, some) own_is = λ s (made, wv, le).
        let by_is : by ≡ shift_at w.weaving s.hole = is s.beside (here s id) s.hole ((placed s made, made), wv, le) in
        ap (w.weaving.shift (shift_at w.weaving s.hole)) (own_is ∙ ap (λ b. kept_below w.weaving b item) by_is) ∙ back w.weaving l.laws w.is_near w.is_item w.is_sum w.is_value l.sums l.parts (shift_at w.weaving s.hole) item

pub ruleset keeping = (place_there, can_keep_there, kept_back)
