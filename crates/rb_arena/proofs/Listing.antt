-- A tree in memory as a list of items, and the chain of loose nodes.
use Rattle.std.proofs.Common.{◌≡◌, ℕ, ◌+◌, ◌^◌, ◌≤◌, ◌<◌, false, List, [], ◌∷◌, ◌++◌, length, Option, None, refl, sym, ap, ◌∙◌, subst, arith, lit<}
use Rattle.std.specs.Ordering.{nat_cmp}
use Rattle.std.specs.FinMap as map
use Rattle.rb_rules.specs.declared.slot.Data.{Data}
use Rattle.rb_rules.specs.declared.slot.Side.{Side}
use Rattle.rb_rules.specs.declared.slot.Slot.{Slot}
use Rattle.rb_rules.specs.Tree.{Tree, tip, Hole, top, plug, root_of, height}
use Rattle.rb_rules.specs.Colours.{Balanced}
use Rattle.rb_rules.specs.Memory.{Makes, Made, place_of}
use Rattle.rb_rules.specs.Weaving.{Weaving}
use Rattle.rb_rules.specs.Woven.{entries, Woven, Valued, lefts, rights, shift_at}
use Rattle.rb_rules.proofs.Wider.{woven_wider}
use Rattle.rb_arena.specs.Placing.{CanTake, StartsAt}
use Rattle.rb_arena.specs.Rising.{Mended}
use Rattle.rb_arena.specs.RbTree.{grown, first_hole, items_in, loose_in, Chain, Keeps}
use Rattle.rb_arena.proofs.Growing.{grown_is, grown_none, depth_height, height_size, not_high, first-plug, length-entries, first-lefts, first-rights}

module _ {X S B : Type 0} (w : Weaving X S B) where
  low_tree : (m : map.FinMap nat_cmp (Slot (Data X S B))) (t : Tree (Data X S B)) (n : ℕ) → Balanced t → length (entries w w.still t) + n ≡ map.len m → map.len m < 2 ^ 63 → height t ≤ 126
  low_tree m t n b all few = let l = length-entries w w.still t in not_high t b (omega (arith, l, all, few))

  items_same : (m : map.FinMap nat_cmp (Slot (Data X S B))) (root : Option ℕ) (t : Tree (Data X S B)) → {beside : Tree (Data X S B)} → Made beside m root t → height t ≤ 126 → items_in w m root ≡ entries w w.still t
  items_same m root t h low = ap (entries w w.still) (ap (grown m 128) h.from ∙ grown_is m 128 None t h.nodes (omega (arith, low)))

  loose_same : (m : map.FinMap nat_cmp (Slot (Data X S B))) (front : Option ℕ) (t : Tree (Data X S B)) (n : ℕ) → front ≡ root_of t → Makes m None t → n + length (entries w w.still t) ≡ map.len m
      → loose_in w m front ≡ entries w w.still t
  loose_same m front t n first made all =
      let l = length-entries w w.still t in let high = height_size t in
      ap (entries w w.still) (ap (grown m (map.len m)) first ∙ grown_is m (map.len m) None t made (omega (arith, l, high, all)))

  -- no items and no loose items
  pub none_in : (m : map.FinMap nat_cmp (Slot (Data X S B))) → items_in w m None ≡ []
  none_in m = ap (entries w w.still) (grown_none m 128)

  pub none_loose : (m : map.FinMap nat_cmp (Slot (Data X S B))) → loose_in w m None ≡ []
  none_loose m = ap (entries w w.still) (grown_none m (map.len m))

module _ {X S B : Type 0} (w : Weaving X S B) (is_near : B → Type 0) (is_item : X → Type 0) (is_value : S → Type 0) where
  pub keeps_none : is_near w.still → is_value w.none → Keeps w is_near is_item is_value map.empty None None
  keeps_none near value = record {
    beside = tip;
    tree = tip;
    made = record { from = refl; nodes = tt; aside = tt; once = λ j. omega arith };
    first = refl;
    chain = tt;
    woven = near;
    balanced = (0, (false, (refl, refl)));
    values = (tt, value);
    all = sym (map.len-empty nat_cmp (Slot (Data X S B)));
    few = rw (map.len-empty nat_cmp (Slot (Data X S B))) (lit< tt);
  }

  -- a red-black tree with its loose nodes
  pub keeps_mended : (m : map.FinMap nat_cmp (Slot (Data X S B))) (root front : Option ℕ) (es : List (ℕ × X)) (beside : Tree (Data X S B)) → Mended w is_near beside m root es → front ≡ root_of beside → Chain w beside
      → Valued w is_item is_value es → length es + length (entries w w.still beside) ≡ map.len m → map.len m < 2 ^ 63
      → Keeps w is_near is_item is_value m root front × (items_in w m root ≡ es) × (loose_in w m front ≡ entries w w.still beside)
  keeps_mended m root front es beside (t, made, (wv, e), b) first chain v all few =
      let long : length (entries w w.still t) + length (entries w w.still beside) ≡ map.len m = ap (λ l. length l + length (entries w w.still beside)) e ∙ all in (
        record {
          beside = beside;
          tree = t;
          made = made;
          first = first;
          chain = chain;
          woven = wv;
          balanced = b;
          values = subst (Valued w is_item is_value) (sym e) v;
          all = long;
          few = few;
        },
        items_same w m root t made (low_tree w m t (length (entries w w.still beside)) b long few) ∙ e,
        loose_same w m front beside (length es) first made.aside all,
      )

module _ {X S B : Type 0} {w : Weaving X S B} {is_near : B → Type 0} {is_item : X → Type 0} {is_value : S → Type 0} {m : map.FinMap nat_cmp (Slot (Data X S B))} {root front : Option ℕ}
    (K : Keeps w is_near is_item is_value m root front) where
  pub low : height (Keeps.tree K) ≤ 126
  low = low_tree w m K.tree (length (entries w w.still K.beside)) K.balanced K.all K.few

  pub items_are : items_in w m root ≡ entries w w.still K.tree
  items_are = items_same w m root K.tree K.made low

  pub loose_are : loose_in w m front ≡ entries w w.still K.beside
  loose_are = loose_same w m front K.beside (length (entries w w.still K.tree)) K.first K.made.aside K.all

  -- the sums are right for each shift that a path may have
  pub woven_near : (near : B → Type 0) → ((by : B) → is_near by → near by) → Woven w near w.still K.tree
  woven_near near wide = woven_wider w is_near near wide w.still K.tree K.woven

  pub starts_top : StartsAt K.beside m root None root K.tree top
  starts_top = ((refl, K.made), K.made.from, omega (arith, low))

  -- the first place of the tree that hangs at a place k
  module _ (k : Hole (Data X S B)) (t : Tree (Data X S B)) (whole : plug k t ≡ K.tree) where
    pub can_take : (at : Option (ℕ × Side)) (x : X) → at ≡ place_of (first_hole k t) → Valued w is_item is_value (lefts w k ++ (0, x) ∷ (entries w (shift_at w k) t ++ rights w k))
        → CanTake w is_near K.beside m root at is_item is_value x (first_hole k t)
    can_take at x e v =
        let same : plug (first_hole k t) tip ≡ K.tree = first-plug k t ∙ whole in let q = first_hole k t in
        let none : Tree (Data X S B) = tip in let deep = depth_height (first_hole k t) none in let high = ap height same in let l = low in (
          ((e, subst (Made K.beside m root) (sym same) K.made), subst (Woven w is_near w.still) (sym same) K.woven, omega (arith, deep, high, l)),
          subst Balanced (sym same) K.balanced,
          subst (Valued w is_item is_value) (sym (λ i. first-lefts w k t i ++ (0, x) ∷ first-rights w k t i)) v,
        )

    pub list_first : (i : ℕ) (x : X) → lefts w (first_hole k t) ++ (i, x) ∷ rights w (first_hole k t) ≡ lefts w k ++ (i, x) ∷ (entries w (shift_at w k) t ++ rights w k)
    list_first i x = λ j. first-lefts w k t j ++ (i, x) ∷ first-rights w k t j
