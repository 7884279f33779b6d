-- The node of an item of the list.
use Rattle.std.proofs.Common.{None, ◌≡◌, ℕ, Bool, List, [], ◌∷◌, ◌++◌, length, Option, Some, refl, sym, ap, ◌∙◌, subst, arith, append_assoc, append-nil, ◌⊎◌, inl, inr, length-append}
use Rattle.std.proofs.lemmas.Option.{none-some}
use Rattle.rb_rules.specs.declared.slot.Data.{Data}
use Rattle.rb_rules.specs.declared.slot.Side.{Side}
use Rattle.rb_rules.specs.declared.slot.Side.TheVariants.{Left, Right}
use Rattle.rb_rules.specs.Tree.{Tree, tip, fork, Hole, top, on, plug, above, root_of}
use Rattle.rb_rules.specs.Memory.{Spot, here, below}
use Rattle.rb_rules.specs.Weaving.{Weaving}
use Rattle.rb_rules.specs.Woven.{entries, lefts, rights, shift_at, AllItems}
use Rattle.rb_arena.specs.RbTree.{end_hole, first_hole, first_or, up_next, last_hole, last_or, name_at_end, up_prev, neighbour_of}

module _ {A : Type 0} where
  head_or : A → List A → A
  head_or a [] = a
  head_or a (x ∷ xs) = x

  tail_of : List A → List A
  tail_of [] = []
  tail_of (x ∷ xs) = xs

  -- one list split in two ways
  abbrev Cut : List A → A → List A → List A → A → List A → Type 0
  Cut xs a ys us b vs =
      ((w : List A) × (xs ≡ us ++ b ∷ w) × (vs ≡ w ++ a ∷ ys)) ⊎ (((xs ≡ us) × (a ≡ b) × (ys ≡ vs)) ⊎ ((w : List A) × (us ≡ xs ++ a ∷ w) × (ys ≡ w ++ b ∷ vs)))

  longer : (p u : A) (xs : List A) (a : A) (ys us : List A) (b : A) (vs : List A) → p ≡ u → Cut xs a ys us b vs → Cut (p ∷ xs) a ys (u ∷ us) b vs
  longer p u xs a ys us b vs e (inl (w, f, g)) = inl (w, (λ i. e i ∷ f i), g)
  longer p u xs a ys us b vs e (inr (inl (f, g, h))) = inr (inl ((λ i. e i ∷ f i), g, h))
  longer p u xs a ys us b vs e (inr (inr (w, f, g))) = inr (inr (w, (λ i. sym e i ∷ f i), g))

  pub cut : (xs : List A) (a : A) (ys us : List A) (b : A) (vs : List A) → xs ++ a ∷ ys ≡ us ++ b ∷ vs → Cut xs a ys us b vs
  unfolding head_or tail_of
  cut [] a ys [] b vs e = inr (inl (refl, ap (head_or a) e, ap tail_of e))
  cut [] a ys (u ∷ us) b vs e = inr (inr (us, (λ i. sym (ap (head_or a) e) i ∷ us), ap tail_of e))
  cut (p ∷ xs) a ys [] b vs e = inl (xs, (λ i. ap (head_or a) e i ∷ xs), sym (ap tail_of e))
  cut (p ∷ xs) a ys (u ∷ us) b vs e = longer p u xs a ys us b vs (ap (head_or a) e) (cut xs a ys us b vs (ap tail_of e))

-- the same node with that tree beside it
abbrev pub lying : {D : Type 0} → Tree D → Spot D → Spot D
lying beside s = record { beside = beside; hole = s.hole; red = s.red; datum = s.datum; left = s.left; right = s.right }

pub below_lying : {D : Type 0} (beside : Tree D) (side : Side) (s : Spot D) → below side (lying beside s) ≡ below side s
below_lying beside Left s = refl
below_lying beside Right s = refl

module _ {X S B : Type 0} (w : Weaving X S B) where
  -- a node at the position of the item
  abbrev pub Located : Hole (Data X S B) → Tree (Data X S B) → List (ℕ × X) → ℕ → X → List (ℕ × X) → Type 0
  Located k t us id x vs =
      (s : Spot (Data X S B)) × (plug s.hole (here s id) ≡ plug k t) × (x ≡ w.shift (shift_at w s.hole) s.datum.item)
      × (lefts w k ++ us ≡ lefts w s.hole ++ entries w (shift_at w s.hole) s.left) × (vs ++ rights w k ≡ entries w (w.plus (shift_at w s.hole) s.datum.delta) s.right ++ rights w s.hole)

  pub locate : (k : Hole (Data X S B)) (t : Tree (Data X S B)) (us : List (ℕ × X)) (id : ℕ) (x : X) (vs : List (ℕ × X)) → entries w (shift_at w k) t ≡ us ++ (id, x) ∷ vs → Located k t us id x vs
  locate k tip us id x vs e = absurd (let n = ap length e in let l = length-append us ((id, x) ∷ vs) in omega (arith, n, l))
  locate k (fork c i d a b) us id x vs e =
      let acc = shift_at w k in let mine : ℕ × X = (i, w.shift (shift_at w k) d.item) in let as_ = entries w (shift_at w k) a in let bs = entries w (w.plus (shift_at w k) d.delta) b in
      elim (cut as_ mine bs us (id, x) vs e) [
        | inl (q, f, g) ↦ let (s, whole, val, l, r) = locate (on Left c i d b k) a us id x q f in
            (s, whole, val, l, ap (λ z. z ++ rights w k) g ∙ append_assoc q (mine ∷ bs) (rights w k) ∙ r)
        | inr rest ↦ elim rest [
          | inl (f, g, h) ↦ let P : ℕ × X → Type 0 = λ p. Located k (fork c i d a b) us p.0 p.1 vs in
              subst P g (record { beside = tip; hole = k; red = c; datum = d; left = a; right = b }, refl, refl, ap (λ z. lefts w k ++ z) (sym f), ap (λ z. z ++ rights w k) (sym h))
          | inr (q, f, g) ↦ let (s, whole, val, l, r) = locate (on Right c i d a k) b q id x vs g in
              (s, whole, val, ap (λ z. lefts w k ++ z) (f ∙ sym (append_assoc as_ (mine ∷ []) q)) ∙ sym (append_assoc (lefts w k) (as_ ++ mine ∷ []) q) ∙ l, r)
        ]
      ]

  -- the same in a whole tree
  pub locate_in : (t : Tree (Data X S B)) (us : List (ℕ × X)) (id : ℕ) (x : X) (vs : List (ℕ × X)) → entries w w.still t ≡ us ++ (id, x) ∷ vs
      → (s : Spot (Data X S B)) × (plug s.hole (here s id) ≡ t) × (x ≡ w.shift (shift_at w s.hole) s.datum.item)
      × (us ≡ lefts w s.hole ++ entries w (shift_at w s.hole) s.left) × (vs ≡ entries w (w.plus (shift_at w s.hole) s.datum.delta) s.right ++ rights w s.hole)
  locate_in t us id x vs e = let (s, whole, val, l, r) = locate top t us id x vs e in (s, whole, val, l, sym (append-nil vs) ∙ r)

  first_of_left : (o : Option ℕ) (i : ℕ) (x : X) (es fs : List (ℕ × X)) → first_or (Some i) es ≡ first_or o (es ++ (i, x) ∷ fs)
  first_of_left o i x [] fs = refl
  first_of_left o i x (e ∷ es) fs = refl

  -- the node above the first place is the first
  pub above_first : (k : Hole (Data X S B)) (t : Tree (Data X S B)) → above (first_hole k t) ≡ first_or (above k) (entries w (shift_at w k) t)
  above_first k tip = refl
  above_first k (fork c i d x y) = above_first (on Left c i d y k) x ∙ first_of_left (above k) i (w.shift (shift_at w k) d.item) (entries w (shift_at w k) x) (entries w (w.plus (shift_at w k) d.delta) y)

  -- the list up to a node, and the items after it
  pub after_list : (s : Spot (Data X S B)) (id : ℕ) (x : X) (us zs : List (ℕ × X)) → x ≡ w.shift (shift_at w s.hole) s.datum.item → us ≡ lefts w s.hole ++ entries w (shift_at w s.hole) s.left
      → lefts w (on Right s.red id s.datum s.left s.hole) ++ zs ≡ us ++ (id, x) ∷ zs
  after_list s id x us zs val l =
      let el = entries w (shift_at w s.hole) s.left in let mine : ℕ × X = (id, w.shift (shift_at w s.hole) s.datum.item) in
      append_assoc (lefts w s.hole) (el ++ mine ∷ []) zs ∙ ap (λ q. lefts w s.hole ++ q) (append_assoc el (mine ∷ []) zs) ∙ sym (append_assoc (lefts w s.hole) el (mine ∷ zs))
      ∙ (λ i. sym l i ++ (id, sym val i) ∷ zs)

  pub items_more : (is_item : X → Type 0) (us : List (ℕ × X)) (e f : ℕ × X) (vs : List (ℕ × X)) → is_item f.1 → AllItems w is_item (us ++ e ∷ vs) → AllItems w is_item (us ++ e ∷ f ∷ vs)
  items_more is_item [] e f vs x (h, hs) = (h, (x, hs))
  items_more is_item (u ∷ us) e f vs x (h, hs) = (h, items_more is_item us e f vs x hs)

  first_of_more : (o p : Option ℕ) (es : List (ℕ × X)) (e : ℕ × X) (fs gs : List (ℕ × X)) → first_or o (es ++ e ∷ fs) ≡ first_or p ((es ++ e ∷ fs) ++ gs)
  first_of_more o p [] e fs gs = refl
  first_of_more o p (f ∷ es) e fs gs = refl

  -- a tree with a node has a first item
  pub first_of_tree : (o p : Option ℕ) (acc : B) (t : Tree (Data X S B)) (gs : List (ℕ × X)) → (root_of t ≡ None → ⊥) → first_or o (entries w acc t) ≡ first_or p (entries w acc t ++ gs)
  first_of_tree o p acc tip gs some = absurd (some refl)
  first_of_tree o p acc (fork c i d x y) gs some = first_of_more o p (entries w acc x) (i, w.shift acc d.item) (entries w (w.plus acc d.delta) y) gs

  pub up-next : (k : Hole (Data X S B)) → up_next k ≡ first_or None (rights w k)
  up-next top = refl
  up-next (on Left c i d x k) = refl
  up-next (on Right c i d x k) = up-next k

  last_of_right : (o : Option ℕ) (i : ℕ) (x : X) (es fs : List (ℕ × X)) → last_or (Some i) fs ≡ last_or o (es ++ (i, x) ∷ fs)
  last_of_right o i x [] fs = refl
  last_of_right o i x (e ∷ es) fs = last_of_right (Some e.0) i x es fs

  -- the node above the last place is the last
  pub above_last : (k : Hole (Data X S B)) (t : Tree (Data X S B)) → above (last_hole k t) ≡ last_or (above k) (entries w (shift_at w k) t)
  above_last k tip = refl
  above_last k (fork c i d x y) = above_last (on Right c i d x k) y
      ∙ last_of_right (above k) i (w.shift (shift_at w k) d.item) (entries w (shift_at w k) x) (entries w (w.plus (shift_at w k) d.delta) y)

  pub above_end : (side : Side) (t : Tree (Data X S B)) → above (end_hole side top t) ≡ name_at_end side (entries w w.still t)
  unfolding name_at_end
  above_end Left t = above_first top t
  above_end Right t = above_last top t

  pub last_of_tree : (o p : Option ℕ) (acc : B) (t : Tree (Data X S B)) (gs : List (ℕ × X)) → (root_of t ≡ None → ⊥) → last_or o (entries w acc t) ≡ last_or p (gs ++ entries w acc t)
  last_of_tree o p acc tip gs some = absurd (some refl)
  last_of_tree o p acc (fork c i d x y) gs some =
      let es = entries w acc x in let fs = entries w (w.plus acc d.delta) y in let e : ℕ × X = (i, w.shift acc d.item) in
      sym (last_of_right o i (w.shift acc d.item) es fs) ∙ last_of_right p i (w.shift acc d.item) (gs ++ es) fs ∙ ap (last_or p) (append_assoc gs es (e ∷ fs))

  pub up-prev : (k : Hole (Data X S B)) → up_prev k ≡ last_or None (lefts w k)
  up-prev top = refl
  up-prev (on Left c i d x k) = up-prev k
  up-prev (on Right c i d x k) =
      let es = entries w (shift_at w k) x in let e : ℕ × X = (i, w.shift (shift_at w k) d.item) in
      last_of_right None i (w.shift (shift_at w k) d.item) (lefts w k ++ es) [] ∙ ap (last_or None) (append_assoc (lefts w k) es (e ∷ []))

  -- the next node of the one in a hole, by its subtrees
  pub next_is : (beside : Tree (Data X S B)) (k : Hole (Data X S B)) (c : Bool) (id : ℕ) (d : Data X S B) (l r : Tree (Data X S B))
      → neighbour_of Right id (record { beside = beside; hole = k; red = c; datum = d; left = l; right = r }) ≡ first_or None (entries w (w.plus (shift_at w k) d.delta) r ++ rights w k)
  next_is beside k c id d l tip = up-next k
  next_is beside k c id d l (fork c2 i d2 x y) =
      let t = fork c2 i d2 x y in above_first (on Right c id d l k) t ∙ first_of_tree (Some id) None (w.plus (shift_at w k) d.delta) t (rights w k) (λ none. none-some i (sym none))

  pub prev_is : (beside : Tree (Data X S B)) (k : Hole (Data X S B)) (c : Bool) (id : ℕ) (d : Data X S B) (l r : Tree (Data X S B))
      → neighbour_of Left id (record { beside = beside; hole = k; red = c; datum = d; left = l; right = r }) ≡ last_or None (lefts w k ++ entries w (shift_at w k) l)
  prev_is beside k c id d tip r = up-prev k ∙ ap (last_or None) (sym (append-nil (lefts w k)))
  prev_is beside k c id d (fork c2 i d2 x y) r =
      let t = fork c2 i d2 x y in above_last (on Left c id d r k) t ∙ last_of_tree (Some id) None (shift_at w k) t (lefts w k) (λ none. none-some i (sym none))
