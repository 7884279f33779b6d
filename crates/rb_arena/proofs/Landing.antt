-- Addition of an item to a tree and its loose nodes: a node is put in front of them, or the front one is put into the tree.
use Rattle.std.proofs.Common.{◌≡◌, ℕ, suc, ◌+◌, ◌^◌, ◌<◌, Bool, List, [], ◌∷◌, ◌++◌, length, Option, Some, None, refl, sym, ap, ◌∙◌, subst, arith, append_assoc, length-append}
use Rattle.std.specs.Prelude.{IfSome}
use Rattle.std.specs.Option.{unwrap_or}
use Rattle.std.proofs.lemmas.Option.{none-some}
use Rattle.std.specs.Ordering.{nat_cmp}
use Rattle.std.specs.FinMap as map
use Rattle.rb_rules.specs.declared.slot.Data.{Data}
use Rattle.rb_rules.specs.declared.slot.Side.{Side}
use Rattle.rb_rules.specs.declared.slot.Side.TheVariants.{Left}
use Rattle.rb_rules.specs.declared.slot.Slot.{Slot}
use Rattle.rb_rules.specs.Tree.{Tree, tip, fork, Hole, plug, root_of, count}
use Rattle.rb_rules.specs.Memory.{sided, Made, place_of, adopted}
use Rattle.rb_rules.specs.Weaving.{Weaving, Lawful, Sums}
use Rattle.rb_rules.specs.Woven.{entries, sum_of, AllItems, Valued, lefts, rights, shift_at}
use Rattle.rb_rules.proofs.Chains.{unstrung}
use Rattle.rb_rules.proofs.Live.{Live, live_root}
use Rattle.rb_arena.specs.Leaving.{loosened}
use Rattle.rb_arena.specs.Placing.{CanTake, HangsAfter}
use Rattle.rb_arena.specs.Rising.{Mended}
use Rattle.rb_arena.specs.RbTree.{first_hole, items_in, loose_in, Chain, HasPut, Keeps, PlaceAfter, SplitsAfter, SumsPut, front_of}
use Rattle.rb_arena.proofs.Growing.{first-plug}
use Rattle.rb_arena.proofs.Inserting.{valued_renamed}
use Rattle.rb_arena.proofs.Listing.{low, can_take, list_first, keeps_mended}
use Rattle.rb_arena.proofs.Locating.{items_more}
use Rattle.rb_arena.proofs.Splitting.{split_after, placed}

abbrev pub others : {A : Type 0} → List A → List A
others [] = []
others (x ∷ xs) = xs

module _ {X : Type 0} where
  -- the items with one added at that place
  abbrev pub put_at : (items : List (ℕ × X)) (id : Option ℕ) → PlaceAfter items id → ℕ × X → List (ℕ × X)
  put_at items None at e = e ∷ items
  put_at items (Some id) (us, (x, (vs, is))) e = us ++ (id, x) ∷ e ∷ vs

  -- the added item is between the items up to the place and those after it
  put_between : (items : List (ℕ × X)) (id : Option ℕ) (at : PlaceAfter items id) (e : ℕ × X) → (split_after items id at).0 ++ e ∷ (split_after items id at).1.0 ≡ put_at items id at e
  unfolding split_after
  put_between items None at e = refl
  put_between items (Some id) (us, (x, (vs, is))) e = append_assoc us ((id, x) ∷ []) (e ∷ vs)

  pub holds_put : (P : List (ℕ × X) → Type 0) (items : List (ℕ × X)) (id : Option ℕ) (e : ℕ × X) → ((us vs : List (ℕ × X)) → SplitsAfter items id us vs → P (us ++ e ∷ vs))
      → (at : PlaceAfter items id) → P (put_at items id at e)
  holds_put P items id e all at = let split = split_after items id at in subst P (put_between items id at e) (all split.0 split.1.0 split.1.1)

  pub place_from : (items : List (ℕ × X)) (id : Option ℕ) (us vs : List (ℕ × X)) → SplitsAfter items id us vs → PlaceAfter items id
  place_from items None us vs parts = tt
  place_from items (Some id) us vs (is, (ws, (x, ends))) = (ws, (x, (vs, is ∙ ap (λ l. l ++ vs) ends ∙ append_assoc ws ((id, x) ∷ []) vs)))

  pub put_from : (items : List (ℕ × X)) (id : Option ℕ) (us vs : List (ℕ × X)) (parts : SplitsAfter items id us vs) (e : ℕ × X)
      → put_at items id (place_from items id us vs parts) e ≡ us ++ e ∷ vs
  unfolding place_from
  put_from items None us vs (is, none) e = ap (λ l. e ∷ l) (is ∙ ap (λ l. l ++ vs) none) ∙ sym (ap (λ l. l ++ e ∷ vs) none)
  put_from items (Some id) us vs (is, (ws, (x, ends))) e = sym (ap (λ l. l ++ e ∷ vs) ends ∙ append_assoc ws ((id, x) ∷ []) (e ∷ vs))

  -- the new list, by the place of the added entry
  pub has_put_at : (items new : List (ℕ × X)) (id : Option ℕ) (e : ℕ × X) → ((at : PlaceAfter items id) → new ≡ put_at items id at e) → HasPut items new id e
  has_put_at items new None e is = is tt
  has_put_at items new (Some id) e is = λ us x vs split. is (us, (x, (vs, split)))

module _ {X S B : Type 0} (w : Weaving X S B) (L : Lawful w) where
  pub loosened_list : (id : ℕ) (x : X) (chain : Tree (Data X S B)) → entries w w.still (loosened w id x chain) ≡ (id, x) ∷ entries w w.still chain
  loosened_list id x chain = λ i. (id, L.shift_still x i) ∷ entries w (L.plus_still w.still i) chain

  pub none_strung : (chain : Tree (Data X S B)) → root_of chain ≡ None → entries w w.still chain ≡ []
  none_strung tip e = refl
  none_strung (fork c i d x y) e = absurd (none-some i (sym e))

  -- the front node of a chain
  abbrev Fronts : Tree (Data X S B) → ℕ → Type 0
  Fronts chain id =
      (c : Bool) × ((d : Data X S B) × ((rest : Tree (Data X S B)) × (chain ≡ fork c id d tip rest) × Chain w rest × (entries w w.still chain ≡ (id, d.item) ∷ entries w w.still rest)))

  pub fronts : (chain : Tree (Data X S B)) → Chain w chain → (id : ℕ) → root_of chain ≡ Some id → Fronts chain id
  fronts tip h id e = absurd (none-some id e)
  fronts (fork c i d x y) (none, still, h) id e =
      let same : i ≡ id = ap (λ o. unwrap_or o 0) e in let by : w.plus w.still d.delta ≡ w.still = ap (w.plus w.still) still ∙ L.plus_still w.still in (
        c,
        (
          d,
          (
            y,
            λ j. fork c (same j) d (none j) y,
            h,
            ap (λ q. entries w w.still q ++ (i, w.shift w.still d.item) ∷ entries w (w.plus w.still d.delta) y) none ∙ (λ j. (same j, L.shift_still d.item j) ∷ entries w (by j) y),
          ),
        ),
      )

  -- a list with such a first item
  pub front_is : (a b : ℕ × X) (as_ bs : List (ℕ × X)) → a ∷ as_ ≡ b ∷ bs → a.0 ≡ b.0
  front_is a b as_ bs e = ap (λ l. (unwrap_or (front_of l) a).0) e

  pub others_are : (a b : ℕ × X) (as_ bs : List (ℕ × X)) → a ∷ as_ ≡ b ∷ bs → as_ ≡ bs
  others_are a b as_ bs e = ap others e

  module _ (is_item : X → Type 0) where
    pub put_items : (items : List (ℕ × X)) (id : Option ℕ) (at : PlaceAfter items id) (e : ℕ × X) → is_item e.1 → AllItems w is_item items → AllItems w is_item (put_at items id at e)
    put_items items None at e h all = (h, all)
    put_items items (Some id) (us, (x, (vs, is))) e h all = items_more w is_item us (id, x) e vs h (subst (AllItems w is_item) is all)

  pub put_length : (items : List (ℕ × X)) (id : Option ℕ) (at : PlaceAfter items id) (e : ℕ × X) → length (put_at items id at e) ≡ suc (length items)
  put_length items None at e = refl
  put_length items (Some id) (us, (x, (vs, is))) e =
      let old = length-append us ((id, x) ∷ vs) in let new = length-append us ((id, x) ∷ e ∷ vs) in let same = ap length is in omega (arith, old, new, same)

-- the tree that hangs at a place, and the list with one item added there
module _ {X S B : Type 0} {w : Weaving X S B} {is_near : B → Type 0} {is_item : X → Type 0} {is_value : S → Type 0} {m : map.FinMap nat_cmp (Slot (Data X S B))} {root front : Option ℕ}
    (K : Keeps w is_near is_item is_value m root front) {items : List (ℕ × X)} (same : items ≡ entries w w.still K.tree) where
  abbrev pub Hanging : (id : Option ℕ) → PlaceAfter items id → Type 0
  Hanging id at =
      (k : Hole (Data X S B)) × ((t : Tree (Data X S B)) × HangsAfter K.beside m root id t k × (plug k t ≡ K.tree)
      × ((e : ℕ × X) → lefts w k ++ e ∷ (entries w (shift_at w k) t ++ rights w k) ≡ put_at items id at e))

  pub hanging : (id : Option ℕ) (at : PlaceAfter items id) → Hanging id at
  hanging id at =
      let (us, (vs, split)) = split_after items id at in
      let (t, (k, hangs, whole, l, r)) = placed w K.beside m root K.tree K.made (low K) id us vs (sym same ∙ split.0, split.1) in
      (k, (t, hangs, whole, λ e. (λ i. l i ++ e ∷ r i) ∙ put_between items id at e))

-- the sum of the items with one added at a place
pub sums_put : {X S B : Type 0} (w : Weaving X S B) (is_value : S → Type 0) (items : List (ℕ × X)) (id : Option ℕ) (item : X) → SumsPut w is_value items id item → (at : PlaceAfter items id)
    → is_value (sum_of w (put_at items id at (0, item)))
sums_put w is_value items None item h at = h
sums_put w is_value items (Some id) item h (us, (x, (vs, is))) = h us x vs is

-- one item added at a place
module _ {X S B : Type 0} {w : Weaving X S B} {is_near : B → Type 0} {is_item : X → Type 0} {is_value : S → Type 0} {m : map.FinMap nat_cmp (Slot (Data X S B))} {root front : Option ℕ}
    (K : Keeps w is_near is_item is_value m root front) {items : List (ℕ × X)} (same : items ≡ entries w w.still K.tree) (to : Option ℕ) (place : PlaceAfter items to) where
  abbrev hung_at : Hanging K same to place
  hung_at = hanging K same to place

  abbrev pub hole : Hole (Data X S B)
  hole = first_hole hung_at.0 hung_at.1.0

  pub hole_is : plug hole tip ≡ K.tree
  hole_is = first-plug hung_at.0 hung_at.1.0 ∙ hung_at.1.2

  module _ (L : Lawful w) {is_sum : S → Type 0} (sums : Sums w is_item is_sum) (parts : (a b : S) → is_value (w.join a b) → is_value a × is_value b)
      (item : X) (value : is_item item) (sum : is_value (sum_of w (put_at items to place (0, item)))) where
    list_is : (i : ℕ) → lefts w hole ++ (i, item) ∷ rights w hole ≡ put_at items to place (i, item)
    list_is i = list_first K hung_at.0 hung_at.1.0 hung_at.1.2 i item ∙ hung_at.1.3 (i, item)

    valued : Valued w is_item is_value (put_at items to place (0, item))
    valued = (put_items w L is_item items to place (0, item) value (subst (AllItems w is_item) (sym same) K.values.0), sum)

    pub can_put : {at : Option (ℕ × Side)} → at ≡ place_of hole → CanTake w is_near K.beside m root at is_item is_value item hole
    can_put {at} there =
        can_take K hung_at.0 hung_at.1.0 hung_at.1.2 at item there (subst (Valued w is_item is_value) (sym (hung_at.1.3 (0, item))) valued)

    pub has_put : (i : ℕ) {beside : Tree (Data X S B)} {front2 : Option ℕ} {m2 : map.FinMap nat_cmp (Slot (Data X S B))} {root2 : Option ℕ}
        → Mended w is_near beside m2 root2 (lefts w hole ++ (i, item) ∷ rights w hole) → front2 ≡ root_of beside → Chain w beside
        → suc (length items) + length (entries w w.still beside) ≡ map.len m2 → map.len m2 < 2 ^ 63
        → Keeps w is_near is_item is_value m2 root2 front2 × (items_in w m2 root2 ≡ put_at items to place (i, item)) × (loose_in w m2 front2 ≡ entries w w.still beside)
    has_put i {beside} {front2} {m2} {root2} mended first chain many few =
        let renamed = valued_renamed w L is_near is_item is_sum is_value sums parts (lefts w hole) (rights w hole) 0 i item (subst (Valued w is_item is_value) (sym (list_is 0)) valued) in
        let one = put_length w L items to place (i, item) in
        keeps_mended w is_near is_item is_value m2 root2 front2 (put_at items to place (i, item)) beside (subst (Mended w is_near beside m2 root2) (list_is i) mended) first chain
        (subst (Valued w is_item is_value) (list_is i) renamed) (omega (arith, one, many)) few

-- the front loose node is put at a place
module _ {X S B : Type 0} {w : Weaving X S B} (L : Lawful w) {is_near : B → Type 0} {is_item : X → Type 0} {is_value : S → Type 0} {m : map.FinMap nat_cmp (Slot (Data X S B))} {root front : Option ℕ}
    (K : Keeps w is_near is_item is_value m root front) {landing : ℕ} (starts : front ≡ Some landing) where
  abbrev pub Front : Type 0
  Front =
      (c : Bool) × ((d : Data X S B) × ((rest : Tree (Data X S B)) × (K.beside ≡ fork c landing d tip rest) × Chain w rest × (entries w w.still K.beside ≡ (landing, d.item) ∷ entries w w.still rest)))

  pub the_front : Front
  the_front = fronts w L K.beside K.chain landing (sym K.first ∙ starts)

  abbrev pub rest : Tree (Data X S B)
  rest = the_front.1.1.0

  made_front : Made (fork the_front.0 landing the_front.1.0 tip rest) m root K.tree
  made_front = subst (λ u. Made u m root K.tree) the_front.1.1.1 K.made

  abbrev pub front_slot : Slot (Data X S B)
  front_slot = sided Left None None (root_of rest) the_front.0 the_front.1.0

  pub front_found : map.get m landing ≡ Some front_slot
  front_found = made_front.aside.0

  pub next_lives : IfSome front_slot.right (Live m)
  next_lives = live_root m root (Some landing) rest made_front.aside.2

  module _ {items : List (ℕ × X)} (same : items ≡ entries w w.still K.tree) (to : Option ℕ) (place : PlaceAfter items to)
      {is_sum : S → Type 0} (sums : Sums w is_item is_sum) (parts : (a b : S) → is_value (w.join a b) → is_value a × is_value b) (item : X) (value : is_item item) (sum : is_value (sum_of w (put_at items to place (0, item)))) where
    abbrev pub landing_hole : Hole (Data X S B)
    landing_hole = hole K same to place

    module _ {at : Option (ℕ × Side)} (there : at ≡ place_of landing_hole) {front2 : Option ℕ} (next : front2 ≡ front_slot.right) {m2 : map.FinMap nat_cmp (Slot (Data X S B))} (new : m2 ≡ adopted m front2 None) where
      pub can_land : CanTake w is_near rest m2 root at is_item is_value item landing_hole × (count landing (plug landing_hole tip) + count landing rest ≡ 0)
      can_land =
          let old = subst (Made (fork the_front.0 landing the_front.1.0 tip rest) m root) (sym (hole_is K same to place)) made_front in
          let (made, apart) = unstrung m root (plug landing_hole tip) landing the_front.1.0 the_front.0 rest old in
          let made2 = subst (λ l. Made rest l root (plug landing_hole tip)) (sym (new ∙ ap (λ o. adopted m o None) next)) made in
          let (((e, _), wv, le), bal, v) = can_put K same to place L sums parts item value sum there in
          ((((e, made2), wv, le), bal, v), apart)

      pub landed : {m3 : map.FinMap nat_cmp (Slot (Data X S B))} {root3 : Option ℕ} → Mended w is_near rest m3 root3 (lefts w landing_hole ++ (landing, item) ∷ rights w landing_hole) → map.len m3 ≡ map.len m
          → Keeps w is_near is_item is_value m3 root3 front2 × (items_in w m3 root3 ≡ put_at items to place (landing, item)) × (loose_in w m3 front2 ≡ entries w w.still rest)
      landed mended many =
          let old = ap length same in let less = ap length the_front.1.1.3 in let all = K.all in let few = K.few in
          has_put K same to place L sums parts item value sum landing mended next the_front.1.1.2
          (omega (arith, old, less, all, many)) (omega (arith, few, many))
