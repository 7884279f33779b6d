-- The place after an item, in a tree that lists the items.
use Rattle.std.proofs.Common.{◌≡◌, ℕ, ◌≤◌, List, [], ◌∷◌, ◌++◌, length, Option, Some, None, refl, sym, ap, ◌∙◌, subst, arith, append_assoc, append-nil}
use Rattle.std.proofs.lemmas.Bool.{false≢true}
use Rattle.std.proofs.lemmas.List.{length-map}
use Rattle.std.specs.Prelude.{IsSome}
use Rattle.std.specs.Ordering.{nat_cmp}
use Rattle.std.specs.FinMap as map
use Rattle.rb_rules.specs.declared.slot.Data.{Data}
use Rattle.rb_rules.specs.declared.slot.Side.{Side}
use Rattle.rb_rules.specs.declared.slot.Side.TheVariants.{Right}
use Rattle.rb_rules.specs.declared.slot.Slot.{Slot}
use Rattle.rb_rules.specs.Tree.{Tree, tip, Hole, top, on, plug, height}
use Rattle.rb_rules.specs.Colours.{Balanced}
use Rattle.rb_rules.specs.Memory.{Made, place_of}
use Rattle.rb_rules.specs.Shifts.{shifted}
use Rattle.rb_rules.specs.Weaving.{Weaving, Lawful, Sums}
use Rattle.rb_rules.specs.Woven.{entries, sum_of, Woven, AllItems, Valued, shift_at, lefts, rights}
use Rattle.rb_rules.proofs.Held.{items_left, items_right}
use Rattle.rb_arena.specs.Leaving.{Stores}
use Rattle.rb_arena.specs.Placing.{HangsAfter}
use Rattle.rb_arena.specs.Shifting.{CanShiftFrom}
use Rattle.rb_arena.specs.RbTree.{first_hole, PlaceAfter, SplitsAfter}
use Rattle.rb_arena.proofs.Growing.{depth_height, not_high, first-plug, length-entries, first-lefts, first-rights}
use Rattle.rb_arena.proofs.Locating.{locate_in, after_list}

-- the items up to a place and those after it
unfoldable pub split_after : {X : Type 0} (items : List (ℕ × X)) (id : Option ℕ) → PlaceAfter items id → (us : List (ℕ × X)) × ((vs : List (ℕ × X)) × SplitsAfter items id us vs)
split_after items None h = ([], (items, (refl, refl)))
split_after items (Some id) (us, (x, (vs, e))) = (us ++ (id, x) ∷ [], (vs, (e ∙ sym (append_assoc us ((id, x) ∷ []) vs), (us, (x, refl)))))

items_both : {X S B : Type 0} (w : Weaving X S B) (is_item : X → Type 0) (xs ys : List (ℕ × X)) → AllItems w is_item xs → AllItems w is_item ys → AllItems w is_item (xs ++ ys)
items_both w is_item [] ys h g = g
items_both w is_item (e ∷ xs) ys (h, hs) g = (h, items_both w is_item xs ys hs g)

module _ {X S B : Type 0} (w : Weaving X S B) where
  -- the tree that hangs after the item
  abbrev pub Placed : Tree (Data X S B) → map.FinMap nat_cmp (Slot (Data X S B)) → Option ℕ → Tree (Data X S B) → Option ℕ → List (ℕ × X) → List (ℕ × X) → Type 0
  Placed beside m root t id us vs =
      (u : Tree (Data X S B)) × ((k : Hole (Data X S B)) × HangsAfter beside m root id u k × (plug k u ≡ t) × (lefts w k ≡ us) × (entries w (shift_at w k) u ++ rights w k ≡ vs))

  pub placed : (beside : Tree (Data X S B)) (m : map.FinMap nat_cmp (Slot (Data X S B))) (root : Option ℕ) (t : Tree (Data X S B)) → Made beside m root t → height t ≤ 126
      → (id : Option ℕ) (us vs : List (ℕ × X)) → SplitsAfter (entries w w.still t) id us vs → Placed beside m root t id us vs
  placed beside m root t made low None us vs (e, none) =
      (t, (top, ((refl, made), omega (arith, low)), refl, sym none, append-nil (entries w w.still t) ∙ e ∙ ap (λ l. l ++ vs) none))
  placed beside m root t made low (Some id) us vs (e, (ws, (x, is))) =
      let (s, whole, val, l, r) = locate_in w t ws id x vs (e ∙ ap (λ q. q ++ vs) is ∙ append_assoc ws ((id, x) ∷ []) vs) in
      let k = on Right s.red id s.datum s.left s.hole in let deep = depth_height k s.right in let high = ap height whole in
      (s.right, (k, ((refl, subst (Made beside m root) (sym whole) made), omega (arith, deep, high, low)), whole, sym (append-nil (lefts w k)) ∙ after_list w s id x ws [] val l ∙ sym is, sym r))

  module _ (L : Lawful w) (is_near : B → Type 0) (is_item : X → Type 0) (is_sum is_value : S → Type 0) (sums : Sums w is_item is_sum) (parts : (a b : S) → is_value (w.join a b) → is_value a × is_value b)
      (beside : Tree (Data X S B)) (m : map.FinMap nat_cmp (Slot (Data X S B))) (root : Option ℕ) (es : List (ℕ × X)) (h : Stores w is_near is_item is_value beside m root es)
      (id : Option ℕ) where
    pub items_after : (us vs : List (ℕ × X)) → SplitsAfter es id us vs → AllItems w is_item vs
    items_after us vs split = items_right w L is_near is_item is_sum is_value sums parts us vs (subst (AllItems w is_item) split.0 h.1.0)

    module _ (by : B) (us vs : List (ℕ × X)) (split : SplitsAfter es id us vs) (items : AllItems w is_item (shifted w by vs)) (sum : is_value (sum_of w (us ++ shifted w by vs))) where
      pub values_after : Valued w is_item is_value (us ++ shifted w by vs)
      values_after = (
        items_both w is_item us (shifted w by vs) (items_left w L is_near is_item is_sum is_value sums parts us vs (subst (AllItems w is_item) split.0 h.1.0)) items,
        sum,
      )

      -- the place after the item, from which the later items may move
      abbrev pub Ready : Type 0
      Ready =
          (u : Tree (Data X S B)) × ((k : Hole (Data X S B)) × HangsAfter beside m root id u k
          × ((at : Option (ℕ × Side)) → at ≡ place_of (first_hole k u) → CanShiftFrom w beside m root is_near is_item is_value at by (first_hole k u))
          × (lefts w (first_hole k u) ≡ us) × (rights w (first_hole k u) ≡ vs))

      pub ready : Ready
      ready =
          let ((t, made, (wv, e), b), v, few) = h in let n = length-entries w w.still t in let long = ap length e in let low = not_high t b (omega (arith, n, long, few)) in
          let (u, (k, hangs, whole, l, r)) = placed beside m root t made low id us vs (e ∙ split.0, split.1) in
          let q = first_hole k u in let same : plug q tip ≡ t = first-plug k u ∙ whole in let none : Tree (Data X S B) = tip in let deep = depth_height q none in let high = ap height same in
          let left = first-lefts w k u ∙ l in let right = first-rights w k u ∙ r in (
            u,
            (
              k,
              hangs,
              (λ at is. (
                ((is, subst (Made beside m root) (sym same) made), subst (Woven w is_near w.still) (sym same) wv, omega (arith, deep, high, low)),
                subst Balanced (sym same) b,
                subst (Valued w is_item is_value) (sym (λ i. left i ++ shifted w by (right i))) values_after,
              )),
              left,
              right,
            ),
          )

  -- a shift too great for any tree moves nothing
  pub none_moves : (is_item : X → Type 0) (widened : B → B → Option B) → ((by : B) (x : X) → is_item x → is_item (w.shift by x) → IsSome (widened w.still by))
      → (by : B) → widened w.still by ≡ None → (us vs : List (ℕ × X)) → AllItems w is_item vs → AllItems w is_item (shifted w by vs) → us ++ vs ≡ us ++ shifted w by vs
  none_moves is_item widened fits by none us [] h g = refl
  none_moves is_item widened fits by none us (e ∷ vs) h g = absurd (false≢true (subst IsSome none (fits by e.1 h.0 g.0)))

  pub length-moved : (by : B) (us vs : List (ℕ × X)) → length (us ++ shifted w by vs) ≡ length (us ++ vs)
  length-moved by [] vs = length-map vs (λ e. (e.0, w.shift by e.1))
  length-moved by (u ∷ us) vs = let l = length-moved by us vs in omega (arith, l)
