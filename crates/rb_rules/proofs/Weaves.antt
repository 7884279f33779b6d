-- The items and the sums of a tree under rotations and under changes in a hole.
use Rattle.std.proofs.Common.{◌≡◌, ℕ, Bool, List, [], ◌∷◌, ◌++◌, sym, ap, ◌∙◌, subst, append_assoc, append-nil}
use Rattle.rb_rules.specs.declared.slot.Data.{Data}
use Rattle.rb_rules.specs.declared.slot.Side.{Side}
use Rattle.rb_rules.specs.declared.slot.Side.TheVariants.{Left, Right}
use Rattle.rb_rules.specs.Tree.{Tree, tip, fork, Hole, top, on, forked, plug}
use Rattle.rb_rules.specs.Weaving.{Weaving, Lawful, summed, lowered, raised}
use Rattle.rb_rules.specs.Woven.{entries, sum_of, Woven, whole_at, shift_at, lefts, rights}

module _ {X S B : Type 0} (w : Weaving X S B) (L : Lawful w) where
  pub sum-append : (xs ys : List (ℕ × X)) → sum_of w (xs ++ ys) ≡ w.join (sum_of w xs) (sum_of w ys)
  sum-append [] ys = sym (L.none_join _)
  sum-append (e ∷ xs) ys = ap (w.join (w.one e.1)) (sum-append xs ys) ∙ sym (L.join_assoc _ _ _)

  module _ (is_near : B → Type 0) where
    pub near_of : (acc : B) (t : Tree (Data X S B)) → Woven w is_near acc t → is_near acc
    near_of acc tip h = h
    near_of acc (fork c i d x y) (a, b, l, r) = near_of acc x l

    pub whole_is : (acc : B) (t : Tree (Data X S B)) → Woven w is_near acc t → w.shift_sum acc (whole_at w t) ≡ sum_of w (entries w acc t)
    whole_is acc tip h = L.shift_none acc
    whole_is acc (fork c i d x y) (a, b, l, r) = b

    -- a node over two trees, with sums computed from theirs
    pub woven_summed : (acc : B) (c : Bool) (i : ℕ) (item : X) (delta : B) (x y : Tree (Data X S B)) → Woven w is_near acc x → Woven w is_near (w.plus acc delta) y
        → Woven w is_near acc (fork c i (summed w item delta (whole_at w x) (whole_at w y)) x y)
    woven_summed acc c i item delta x y l r =
        let left = whole_is acc x l in let right = whole_is (w.plus acc delta) y r in
        let one : w.shift_sum acc (w.join (w.one item) (w.shift_sum delta (whole_at w y))) ≡ sum_of w ((i, w.shift acc item) ∷ entries w (w.plus acc delta) y)
        = L.shift_join acc _ _ ∙ (λ j. w.join (L.shift_one acc item j) ((sym (L.shift_sum_plus acc delta (whole_at w y)) ∙ right) j)) in
        (left, L.shift_join acc _ _ ∙ (λ j. w.join (left j) (one j)) ∙ sym (sum-append (entries w acc x) _), l, r)

    -- a rotation keeps the order of the items and the sums of each node
    module _ (acc : B) (a b : Bool) (n c : ℕ) (dn dc : Data X S B) (out mid far : Tree (Data X S B)) where
      abbrev low : Side → Data X S B
      low s = lowered w s dn dc (whole_at w mid) (whole_at w far)

      abbrev high : Side → Data X S B
      high s = raised w s dn dc (whole_at w mid) (whole_at w far)

      back : w.plus (w.plus acc dc.delta) (w.minus w.still dc.delta) ≡ acc
      back = L.plus_assoc acc dc.delta _ ∙ ap (w.plus acc) (L.plus_minus w.still dc.delta) ∙ L.plus_still acc

      far_same : w.plus (w.plus acc dc.delta) (w.minus dn.delta dc.delta) ≡ w.plus acc dn.delta
      far_same = L.plus_assoc acc dc.delta _ ∙ ap (w.plus acc) (L.plus_minus dn.delta dc.delta)

      pub turned_items : (s : Side) → entries w acc (forked s a c (high s) out (forked s b n (low s) mid far)) ≡ entries w acc (forked s a n dn (forked s b c dc out mid) far)
      turned_items Left =
          let item : w.shift (w.plus acc dc.delta) (w.shift (w.minus w.still dc.delta) dn.item) ≡ w.shift acc dn.item
          = sym (L.shift_plus _ _ _) ∙ ap (λ e. w.shift e dn.item) back in
          (λ j. entries w acc out ++ (c, w.shift acc dc.item) ∷ (entries w (w.plus acc dc.delta) mid ++ (n, item j) ∷ entries w (far_same j) far))
          ∙ sym (append_assoc (entries w acc out) ((c, w.shift acc dc.item) ∷ entries w (w.plus acc dc.delta) mid) ((n, w.shift acc dn.item) ∷ entries w (w.plus acc dn.delta) far))
      turned_items Right =
          (λ j. (entries w acc far ++ (n, w.shift acc dn.item) ∷ entries w (w.plus acc dn.delta) mid) ++ (c, sym (L.shift_plus acc dn.delta dc.item) j) ∷ entries w (sym (L.plus_assoc acc dn.delta dc.delta) j) out)
          ∙ append_assoc (entries w acc far) ((n, w.shift acc dn.item) ∷ entries w (w.plus acc dn.delta) mid) ((c, w.shift (w.plus acc dn.delta) dc.item) ∷ entries w (w.plus (w.plus acc dn.delta) dc.delta) out)

      pub turned_woven : (s : Side) → Woven w is_near acc (forked s a n dn (forked s b c dc out mid) far) → Woven w is_near acc (forked s a c (high s) out (forked s b n (low s) mid far))
      turned_woven Left (e, f, (g, h, wo, wm), wf) = (
        g,
        f ∙ sym (ap (sum_of w) (turned_items Left)),
        wo,
        woven_summed (w.plus acc dc.delta) b n _ _ mid far wm (subst (λ k. Woven w is_near k far) (sym far_same) wf),
      )
      turned_woven Right (e, f, wf, (g, h, wm, wo)) =
          let lower = woven_summed acc b n dn.item dn.delta far mid wf wm in (
            whole_is acc (fork b n (low Right) far mid) lower,
            f ∙ sym (ap (sum_of w) (turned_items Right)),
            lower,
            subst (λ k. Woven w is_near k out) (L.plus_assoc acc dn.delta dc.delta) wo,
          )

    pub entries-plug : (k : Hole (Data X S B)) (t : Tree (Data X S B)) → entries w w.still (plug k t) ≡ lefts w k ++ (entries w (shift_at w k) t ++ rights w k)
    entries-plug top t = sym (append-nil _)
    entries-plug (on Left c i d x k) t =
        entries-plug k (fork c i d t x) ∙ ap (λ l. lefts w k ++ l) (append_assoc (entries w (shift_at w k) t) ((i, w.shift (shift_at w k) d.item) ∷ entries w (w.plus (shift_at w k) d.delta) x) (rights w k))
    entries-plug (on Right c i d x k) t =
        let mine : ℕ × X = (i, w.shift (shift_at w k) d.item) in let inner = entries w (w.plus (shift_at w k) d.delta) t in
        entries-plug k (fork c i d x t) ∙ ap (λ l. lefts w k ++ l) (append_assoc (entries w (shift_at w k) x) (mine ∷ inner) (rights w k))
        ∙ ap (λ l. lefts w k ++ l) (sym (append_assoc (entries w (shift_at w k) x) (mine ∷ []) (inner ++ rights w k)))
        ∙ sym (append_assoc (lefts w k) (entries w (shift_at w k) x ++ mine ∷ []) (inner ++ rights w k))

    pub woven_at : (k : Hole (Data X S B)) (t : Tree (Data X S B)) → Woven w is_near w.still (plug k t) → Woven w is_near (shift_at w k) t
    woven_at top t h = h
    woven_at (on Left c i d x k) t h = let (a, b, l, r) = woven_at k (fork c i d t x) h in l
    woven_at (on Right c i d x k) t h = let (a, b, l, r) = woven_at k (fork c i d x t) h in r

    -- the tree in the hole is replaced by one with the same items
    pub woven_replug : (k : Hole (Data X S B)) (t u : Tree (Data X S B)) → Woven w is_near w.still (plug k t) → entries w (shift_at w k) u ≡ entries w (shift_at w k) t
        → Woven w is_near (shift_at w k) u → Woven w is_near w.still (plug k u)
    woven_replug top t u h e v = v
    woven_replug (on Left c i d x k) t u h e v =
        let (a, b, l, r) = woven_at k (fork c i d t x) h in let after = ap (λ es. es ++ (i, w.shift (shift_at w k) d.item) ∷ entries w (w.plus (shift_at w k) d.delta) x) e in
        woven_replug k (fork c i d t x) (fork c i d u x) h after (a ∙ sym (ap (sum_of w) e), b ∙ sym (ap (sum_of w) after), v, r)
    woven_replug (on Right c i d x k) t u h e v =
        let (a, b, l, r) = woven_at k (fork c i d x t) h in let after = ap (λ es. entries w (shift_at w k) x ++ (i, w.shift (shift_at w k) d.item) ∷ es) e in
        woven_replug k (fork c i d x t) (fork c i d x u) h after (a, b ∙ sym (ap (sum_of w) after), l, v)

    pub same_replug : (k : Hole (Data X S B)) (t u : Tree (Data X S B)) → entries w (shift_at w k) u ≡ entries w (shift_at w k) t → entries w w.still (plug k u) ≡ entries w w.still (plug k t)
    same_replug k t u e = entries-plug k u ∙ ap (λ es. lefts w k ++ (es ++ rights w k)) e ∙ sym (entries-plug k t)
