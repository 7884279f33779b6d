-- The numbers that a tree computes are relative forms of values.
use Rattle.std.proofs.Common.{◌≡◌, ℕ, Bool, List, [], ◌∷◌, ◌++◌, sym, ap, ◌∙◌, subst, append_assoc}
use Rattle.rb_rules.specs.declared.slot.Data.{Data}
use Rattle.rb_rules.specs.declared.slot.Side.{Side}
use Rattle.rb_rules.specs.declared.slot.Side.TheVariants.{Left, Right}
use Rattle.rb_rules.specs.Tree.{Tree, forked}
use Rattle.rb_rules.specs.Weaving.{Weaving, Lawful, Sums, HeldSum, CanSumUp, CanTurn}
use Rattle.rb_rules.specs.Woven.{entries, sum_of, Woven, whole_at, AllItems, Valued}
use Rattle.rb_rules.proofs.Weaves.{sum-append, near_of, whole_is}

module _ {X S B : Type 0} (w : Weaving X S B) (L : Lawful w) (is_near : B → Type 0) (is_item : X → Type 0) (is_sum is_value : S → Type 0)
    (sums : Sums w is_item is_sum) (parts : (a b : S) → is_value (w.join a b) → is_value a × is_value b) where
  sum_meets : (es : List (ℕ × X)) → AllItems w is_item es → is_sum (sum_of w es)
  sum_meets [] h = sums.of_none
  sum_meets (e ∷ es) (h, hs) = sums.of_join _ _ (sums.of_one e.1 h) (sum_meets es hs)

  pub items_left : (xs ys : List (ℕ × X)) → AllItems w is_item (xs ++ ys) → AllItems w is_item xs
  items_left [] ys h = tt
  items_left (e ∷ xs) ys (h, hs) = (h, items_left xs ys hs)

  pub items_right : (xs ys : List (ℕ × X)) → AllItems w is_item (xs ++ ys) → AllItems w is_item ys
  items_right [] ys h = h
  items_right (e ∷ xs) ys (h, hs) = items_right xs ys hs

  pub valued_left : (xs ys : List (ℕ × X)) → Valued w is_item is_value (xs ++ ys) → Valued w is_item is_value xs
  valued_left xs ys (h, v) = (items_left xs ys h, (parts _ _ (subst is_value (sum-append w L xs ys) v)).0)

  pub valued_right : (xs ys : List (ℕ × X)) → Valued w is_item is_value (xs ++ ys) → Valued w is_item is_value ys
  valued_right xs ys (h, v) = (items_right xs ys h, (parts _ _ (subst is_value (sum-append w L xs ys) v)).1)

  pub valued_tail : (e : ℕ × X) (es : List (ℕ × X)) → Valued w is_item is_value (e ∷ es) → Valued w is_item is_value es
  valued_tail e es ((h, hs), v) = (hs, (parts _ _ v).1)

  pub held : (acc : B) (s : S) (es : List (ℕ × X)) → is_near acc → w.shift_sum acc s ≡ sum_of w es → Valued w is_item is_value es → HeldSum w is_near is_sum is_value s
  held acc s es near e (h, v) = (acc, near, subst is_sum (sym e) (sum_meets es h), subst is_value (sym e) v)

  -- a node's sums, over two trees
  pub can_sum_up : (acc : B) (i : ℕ) (item : X) (delta : B) (x y : Tree (Data X S B)) → Woven w is_near acc x → Woven w is_near (w.plus acc delta) y
      → Valued w is_item is_value (entries w acc x ++ (i, w.shift acc item) ∷ entries w (w.plus acc delta) y) → CanSumUp w is_near is_item is_sum is_value item delta (whole_at w x) (whole_at w y)
  can_sum_up acc i item delta x y l r v =
      let near = near_of w L is_near acc x l in let es = entries w acc x in let fs = entries w (w.plus acc delta) y in let e : ℕ × X = (i, w.shift acc item) in
      let right : w.shift_sum acc (w.shift_sum delta (whole_at w y)) ≡ sum_of w fs = sym (L.shift_sum_plus acc delta (whole_at w y)) ∙ whole_is w L is_near (w.plus acc delta) y r in
      let tail : w.shift_sum acc (w.join (w.one item) (w.shift_sum delta (whole_at w y))) ≡ sum_of w (e ∷ fs) = L.shift_join acc _ _ ∙ (λ j. w.join (L.shift_one acc item j) (right j)) in
      let all : w.shift_sum acc (w.join (whole_at w x) (w.join (w.one item) (w.shift_sum delta (whole_at w y)))) ≡ sum_of w (es ++ e ∷ fs)
      = L.shift_join acc _ _ ∙ (λ j. w.join (whole_is w L is_near acc x l j) (tail j)) ∙ sym (sum-append w L es (e ∷ fs)) in
      let vt = valued_right es (e ∷ fs) v in
      ((held acc _ fs near right (valued_tail e fs vt), held acc _ (e ∷ fs) near tail vt), held acc _ (es ++ e ∷ fs) near all v)

  -- the numbers of a turn
  module _ (acc : B) (a b : Bool) (n c : ℕ) (dn dc : Data X S B) (out mid far : Tree (Data X S B)) where
    pub can_turn : (s : Side) → Woven w is_near acc (forked s a n dn (forked s b c dc out mid) far) → Valued w is_item is_value (entries w acc (forked s a n dn (forked s b c dc out mid) far))
        → CanTurn w is_near is_item is_sum is_value s dn dc (whole_at w mid) (whole_at w far)
    can_turn Left (e, f, (g, h, wo, wm), wf) v =
        let inner = w.plus acc dc.delta in let delta = w.minus dn.delta dc.delta in
        let back : w.plus inner (w.minus w.still dc.delta) ≡ acc = L.plus_assoc acc dc.delta _ ∙ ap (w.plus acc) (L.plus_minus w.still dc.delta) ∙ L.plus_still acc in
        let same : w.plus inner delta ≡ w.plus acc dn.delta = L.plus_assoc acc dc.delta _ ∙ ap (w.plus acc) (L.plus_minus dn.delta dc.delta) in
        let item : w.shift inner (w.shift (w.minus w.still dc.delta) dn.item) ≡ w.shift acc dn.item = sym (L.shift_plus _ _ _) ∙ ap (λ k. w.shift k dn.item) back in
        let nm = near_of w L is_near inner mid wm in let na = near_of w L is_near acc out wo in let nf = near_of w L is_near (w.plus acc dn.delta) far wf in
        let os = entries w acc out in let ms = entries w inner mid in let fs = entries w (w.plus acc dn.delta) far in
        let ec : ℕ × X = (c, w.shift acc dc.item) in let en : ℕ × X = (n, w.shift acc dn.item) in
        let vn = valued_tail ec (ms ++ en ∷ fs) (valued_right os (ec ∷ (ms ++ en ∷ fs)) (subst (Valued w is_item is_value) (append_assoc os (ec ∷ ms) (en ∷ fs)) v)) in
        let is = (valued_right ms (en ∷ fs) vn).0.0 in
        let vn2 = subst (Valued w is_item is_value) (λ j. ms ++ (n, sym item j) ∷ entries w (sym same j) far) vn in (
          (inner, nm, subst is_near (sym back) na),
          (inner, nm, subst is_item (sym item) is),
          (inner, nm, subst is_near (sym same) nf),
          can_sum_up inner n _ delta mid far wm (subst (λ k. Woven w is_near k far) (sym same) wf) vn2,
        )
    can_turn Right (e, f, wf, (g, h, wm, wo)) v =
        let na = near_of w L is_near acc far wf in let no = near_of w L is_near (w.plus (w.plus acc dn.delta) dc.delta) out wo in
        let fs = entries w acc far in let ms = entries w (w.plus acc dn.delta) mid in let os = entries w (w.plus (w.plus acc dn.delta) dc.delta) out in
        let ec : ℕ × X = (c, w.shift (w.plus acc dn.delta) dc.item) in let en : ℕ × X = (n, w.shift acc dn.item) in
        let v2 = subst (Valued w is_item is_value) (sym (append_assoc fs (en ∷ ms) (ec ∷ os))) v in
        let is = (valued_right (fs ++ en ∷ ms) (ec ∷ os) v2).0.0 in (
          can_sum_up acc n dn.item dn.delta far mid wf wm (valued_left (fs ++ en ∷ ms) (ec ∷ os) v2),
          (acc, na, subst is_item (L.shift_plus acc dn.delta dc.item) is),
          (acc, na, subst is_near (L.plus_assoc acc dn.delta dc.delta) no),
        )
