-- One step of the rebalancing after an insertion: the effect of each case on the tree.
use Rattle.std.proofs.Common.{◌≡◌, ℕ, suc, ◌-◌, Bool, true, false, List, Option, refl, sym, ap, ◌∙◌, subst, arith, ◌⊎◌, inl, inr}
use Rattle.std.proofs.lemmas.Bool.{true≢false}
use Rattle.std.specs.Ordering.{nat_cmp}
use Rattle.std.specs.FinMap as map
use Rattle.rb_rules.specs.declared.slot.Data.{Data}
use Rattle.rb_rules.specs.declared.slot.Side.{Side}
use Rattle.rb_rules.specs.declared.slot.Side.TheVariants.{Left, Right}
use Rattle.rb_rules.specs.declared.slot.Slot.{Slot}
use Rattle.rb_rules.specs.Tree.{Tree, tip, fork, Hole, top, on, other, forked, plug, depth}
use Rattle.rb_rules.specs.Colours.{Rb, Fits, Balanced}
use Rattle.rb_rules.specs.Memory.{Made, Spot, Stands, AtSpot, here}
use Rattle.rb_rules.specs.Weaving.{Weaving, Lawful}
use Rattle.rb_rules.specs.Woven.{Valued}
use Rattle.rb_rules.specs.Sound.{Lists, CanTurnAt, TurnedAt}
use Rattle.rb_rules.proofs.Holes.{forked-other, root-forked}
use Rattle.rb_rules.proofs.Live.{forks_on}
use Rattle.rb_rules.proofs.Ups.{spot_of, as_spot}
use Rattle.rb_rules.proofs.Weaves.{woven_at, woven_replug, same_replug}
use Rattle.rb_rules.proofs.Colouring as C
use Rattle.rb_arena.specs.declared.mend.Case.{Case}
use Rattle.rb_arena.specs.declared.mend.Case.TheVariants.{Settled, RedRoot, RedUncle, Outer, Inner}
use Rattle.rb_arena.specs.Mending.{bent, case_of}
use Rattle.rb_arena.specs.Rising.{Mended, Rising}

module _ {D : Type 0} where
  -- the red node's parent is red and the root
  pub record UnderRoot (k : Hole D) (p : ℕ) : Type 0 where
    pub side : Side
    pub datum : D
    pub far : Tree D
    pub is : k ≡ on side true p datum far top

  -- its parent and its uncle are red
  pub record UnderUncle (k : Hole D) (p u g : ℕ) : Type 0 where
    pub side : Side
    pub datum : D
    pub far : Tree D
    pub upper : Side
    pub grand : D
    pub uncle : D
    pub left : Tree D
    pub right : Tree D
    pub up : Hole D
    pub is : k ≡ on side true p datum far (on upper false g grand (fork true u uncle left right) up)

  -- its parent is red on that side of the grandparent, its uncle is not; the node is on the side s of the parent
  pub record Alone (h : ℕ) (k : Hole D) (s : Side) (p : ℕ) (upper : Side) (g : ℕ) : Type 0 where
    pub datum : D
    pub far : Tree D
    pub grand : D
    pub uncle : Tree D
    pub up : Hole D
    pub is : k ≡ on s true p datum far (on upper false g grand uncle up)
    pub even : Rb false h uncle

  -- the nodes above, by case
  abbrev pub Shape : ℕ → Hole D → Case → Type 0
  Shape h k Settled = (k ≡ top) ⊎ ((s : Side) × ((p : ℕ) × (d : D) × (x : Tree D) × (k2 : Hole D) × (k ≡ on s false p d x k2)))
  Shape h k (RedRoot p) = UnderRoot k p
  Shape h k (RedUncle p u g) = UnderUncle k p u g
  Shape h k (Outer g s) = (p : ℕ) × Alone h k s p s g
  Shape h k (Inner p s g) = Alone h k s p (other s) g

  bent_shape : (h : ℕ) (s s2 : Side) (p g : ℕ) (d : D) (x : Tree D) (dg : D) (u : Tree D) (k : Hole D) → Rb false h u
      → Shape h (on s true p d x (on s2 false g dg u k)) (bent s s2 p g)
  bent_shape h Left Left p g d x dg u k r = (p, record { datum = d; far = x; grand = dg; uncle = u; up = k; is = refl; even = r })
  bent_shape h Right Right p g d x dg u k r = (p, record { datum = d; far = x; grand = dg; uncle = u; up = k; is = refl; even = r })
  bent_shape h Left Right p g d x dg u k r = record { datum = d; far = x; grand = dg; uncle = u; up = k; is = refl; even = r }
  bent_shape h Right Left p g d x dg u k r = record { datum = d; far = x; grand = dg; uncle = u; up = k; is = refl; even = r }

  case_shape : (h : ℕ) (k : Hole D) → Fits false h k → Shape h k (case_of k)
  case_shape h top f = inl refl
  case_shape h (on s false p d x k) f = inr (s, (p, d, x, k, refl))
  case_shape h (on s true p d x top) f = record { side = s; datum = d; far = x; is = refl }
  case_shape h (on s true p d x (on s2 true g dg u k)) (e, r, (ff, qa, qb)) = absurd (true≢false ff)
  case_shape h (on s true p d x (on s2 false g dg tip k)) (e, r, ((c, q), f)) = bent_shape h s s2 p g d x dg tip k (refl, q.1)
  case_shape h (on s true p d x (on s2 false g dg (fork true u ud a b) k)) f =
      record { side = s; datum = d; far = x; upper = s2; grand = dg; uncle = ud; left = a; right = b; up = k; is = refl }
  case_shape h (on s true p d x (on s2 false g dg (fork false u ud a b) k)) (e, r, ((c, q), f)) = bent_shape h s s2 p g d x dg (fork false u ud a b) k (refl, q.1)

  module _ (m : map.FinMap nat_cmp (Slot D)) (root : Option ℕ) where
    pub stands : (k : Hole D) (s : Side) (c : Bool) (i : ℕ) (d : D) (x y : Tree D) → {beside : Tree D} → Made beside m root (plug k (forked s c i d x y)) → Stands m root i
    stands k s c i d x y {beside} h = (spot_of beside s c d x y k, as_spot m root beside s c i d x y k h)

    abbrev pub Painted : map.FinMap nat_cmp (Slot D) → Option ℕ → ℕ → Bool → Type 0
    Painted m2 root2 i red = AtSpot m root i (λ s. Made s.beside m2 root2 (plug s.hole (fork red i s.datum s.left s.right)))

    pub painted : (m2 : map.FinMap nat_cmp (Slot D)) (root2 : Option ℕ) (k : Hole D) (s : Side) (c red : Bool) (i : ℕ) (d : D) (x y : Tree D)
        → Painted m2 root2 i red → {beside : Tree D} → Made beside m root (plug k (forked s c i d x y)) → Made beside m2 root2 (plug k (forked s red i d x y))
    painted m2 root2 k Left c red i d x y done {beside} h = done (record { beside = beside; hole = k; red = c; datum = d; left = x; right = y }) h
    painted m2 root2 k Right c red i d x y done {beside} h = done (record { beside = beside; hole = k; red = c; datum = d; left = y; right = x }) h

red_root : {D : Type 0} (h : ℕ) (s : Side) (c : Bool) (i : ℕ) (d : D) (x y : Tree D) → Rb true h (forked s c i d x y) → c ≡ true
red_root h Left true i d x y r = refl
red_root h Right true i d x y r = refl
red_root h Left false i d x y (e, r) = sym e
red_root h Right false i d x y (e, r) = sym e

module _ {X S B : Type 0} (w : Weaving X S B) (L : Lawful w) (is_near : B → Type 0) where
  -- the items do not depend on colours
  pub recoloured : (k : Hole (Data X S B)) (s : Side) (c red : Bool) (i : ℕ) (d : Data X S B) (x y : Tree (Data X S B)) (es : List (ℕ × X))
      → Lists w is_near (plug k (forked s c i d x y)) es → Lists w is_near (plug k (forked s red i d x y)) es
  recoloured k Left c red i d x y es (h, e) =
      (woven_replug w L is_near k (fork c i d x y) (fork red i d x y) h refl (woven_at w L is_near k (fork c i d x y) h), same_replug w L is_near k (fork c i d x y) (fork red i d x y) refl ∙ e)
  recoloured k Right c red i d x y es (h, e) =
      (woven_replug w L is_near k (fork c i d y x) (fork red i d y x) h refl (woven_at w L is_near k (fork c i d y x) h), same_replug w L is_near k (fork c i d y x) (fork red i d y x) refl ∙ e)

  module _ (is_item : X → Type 0) (is_value : S → Type 0) (beside : Tree (Data X S B)) (m : map.FinMap nat_cmp (Slot (Data X S B))) (root : Option ℕ) (es : List (ℕ × X)) where
    module _ (k : Hole (Data X S B)) (a b : Bool) (n c : ℕ) (dn dc : Data X S B) (out mid far : Tree (Data X S B)) where
      pub can_turn_at : (s : Side) → Made beside m root (plug k (forked s a n dn (forked s b c dc out mid) far)) → Lists w is_near (plug k (forked s a n dn (forked s b c dc out mid) far)) es
          → Valued w is_item is_value es → CanTurnAt w is_near is_item is_value m root n s
      can_turn_at Left h (wv, e) v = (record { beside = beside; hole = k; red = a; datum = dn; left = fork b c dc out mid; right = far }, h, refl, wv, subst (Valued w is_item is_value) (sym e) v)
      can_turn_at Right h (wv, e) v = (record { beside = beside; hole = k; red = a; datum = dn; left = far; right = fork b c dc mid out }, h, refl, wv, subst (Valued w is_item is_value) (sym e) v)

      pub turned_at : (m2 : map.FinMap nat_cmp (Slot (Data X S B))) (root2 : Option ℕ) (s : Side) → AtSpot m root n (λ sp. TurnedAt w is_near m2 root2 n s sp)
          → Made beside m root (plug k (forked s a n dn (forked s b c dc out mid) far)) → Lists w is_near (plug k (forked s a n dn (forked s b c dc out mid) far)) es
          → (low : Data X S B) × ((high : Data X S B) × Made beside m2 root2 (plug k (forked s a c high out (forked s b n low mid far))) × Lists w is_near (plug k (forked s a c high out (forked s b n low mid far))) es)
      turned_at m2 root2 Left done h (wv, e) =
          let (low, (high, made, (wv2, e2))) = done (record { beside = beside; hole = k; red = a; datum = dn; left = fork b c dc out mid; right = far }) h wv in (low, (high, made, (wv2, e2 ∙ e)))
      turned_at m2 root2 Right done h (wv, e) =
          let (low, (high, made, (wv2, e2))) = done (record { beside = beside; hole = k; red = a; datum = dn; left = far; right = fork b c dc mid out }) h wv in (low, (high, made, (wv2, e2 ∙ e)))

-- the effect of each case on a red tree in a hole that may require a black one
module _ {X S B : Type 0} {w : Weaving X S B} {is_near : B → Type 0} {beside : Tree (Data X S B)} {m : map.FinMap nat_cmp (Slot (Data X S B))} {root : Option ℕ} {es : List (ℕ × X)} {i n : ℕ}
    (r : Rising w is_near beside m root es i n) where
  -- its root
  pub record Topmost (s : Side) : Type 0 where
    pub datum : Data X S B
    pub near : Tree (Data X S B)
    pub far : Tree (Data X S B)
    pub is : r.subtree ≡ forked s true i datum near far

  pub topmost : (s : Side) → Topmost s
  topmost s =
      let (c, (d, x, y, is)) = forks_on s r.subtree i r.named in let red : c ≡ true = red_root r.black s c i d x y (subst (Rb true r.black) is r.red) in
      record { datum = d; near = x; far = y; is = is ∙ ap (λ l. forked s l i d x y) red }

  abbrev pub own_spot : Spot (Data X S B)
  own_spot = let z = topmost Left in record { beside = beside; hole = r.hole; red = true; datum = z.datum; left = z.near; right = z.far }

  pub stands_red : Made beside m root (plug r.hole (here own_spot i))
  stands_red = subst (λ q. Made beside m root (plug r.hole q)) (topmost Left).is r.made

  -- the nodes above, from the case found
  pub case_found : {found : Case} → AtSpot m root i (λ s. found ≡ case_of s.hole) → {c : Case} → found ≡ c → Shape r.black r.hole c
  case_found told {c} is = subst (Shape r.black r.hole) (sym (told own_spot stands_red) ∙ is) (case_shape r.black r.hole r.fits)

  pub parent_stands : {s : Side} {c : Bool} {p : ℕ} {d : Data X S B} {x : Tree (Data X S B)} {k : Hole (Data X S B)} → r.hole ≡ on s c p d x k → Stands m root p
  parent_stands {s} {c} {p} {d} {x} {k} e = stands m root k s c p d r.subtree x (subst (λ l. Made beside m root (plug l r.subtree)) e r.made)

  pub settled : Shape r.black r.hole Settled → Mended w is_near beside m root es
  settled c = (
    plug r.hole r.subtree,
    r.made,
    r.lists,
    elim c [
      | inl e ↦ subst (λ l. Balanced (plug l r.subtree)) (sym e) (r.black, (true, r.red))
      | inr (s, (p, d, x, k2, e)) ↦ subst (λ l. Balanced (plug l r.subtree)) (sym e) (C.plugged true r.black (on s false p d x k2) r.subtree r.red (subst (Fits false r.black) e r.fits))
    ],
  )

  module _ (L : Lawful w) {m2 : map.FinMap nat_cmp (Slot (Data X S B))} {root2 : Option ℕ} where
    pub root_blackened : {p : ℕ} → UnderRoot r.hole p → Painted m root m2 root2 p false → Mended w is_near beside m2 root2 es
    root_blackened {p} u done = (
      forked u.side false p u.datum r.subtree u.far,
      painted m root m2 root2 top u.side true false p u.datum r.subtree u.far done (subst (λ l. Made beside m root (plug l r.subtree)) u.is r.made),
      recoloured w L is_near top u.side true false p u.datum r.subtree u.far es (subst (λ l. Lists w is_near (plug l r.subtree) es) u.is r.lists),
      C.blackened_root u.side r.black r.subtree r.red p u.datum u.far (subst (Fits false r.black) u.is r.fits),
    )

  -- a red uncle: the parent and the uncle become black, the grandparent red
  module _ {p u g : ℕ} (v : UnderUncle r.hole p u g) where
    -- the grandparent is in the tree
    pub uncle_above : n ≡ 0 → ⊥
    uncle_above top_ = let deep = ap depth v.is in let few = r.few in omega (arith, deep, few, top_)

    -- the grandparent's subtree, by the colours of the three
    abbrev pub Family : Bool → Bool → Bool → Tree (Data X S B)
    Family parent uncle grand = forked v.upper grand g v.grand (forked v.side parent p v.datum r.subtree v.far) (fork uncle u v.uncle v.left v.right)

    -- the same, by the uncle's side
    abbrev Beside : Bool → Bool → Hole (Data X S B)
    Beside parent grand = on (other v.upper) grand g v.grand (forked v.side parent p v.datum r.subtree v.far) v.up

    swapped : (parent uncle grand : Bool) → plug v.up (Family parent uncle grand) ≡ plug (Beside parent grand) (fork uncle u v.uncle v.left v.right)
    swapped parent uncle grand = ap (plug v.up) (sym (forked-other v.upper grand g v.grand (fork uncle u v.uncle v.left v.right) (forked v.side parent p v.datum r.subtree v.far)))

    pub after_parent : {m2 : map.FinMap nat_cmp (Slot (Data X S B))} {root2 : Option ℕ} → Painted m root m2 root2 p false → Made beside m2 root2 (plug v.up (Family false true false))
    after_parent {m2} {root2} done =
        painted m root m2 root2 (on v.upper false g v.grand (fork true u v.uncle v.left v.right) v.up) v.side true false p v.datum r.subtree v.far done (subst (λ l. Made beside m root (plug l r.subtree)) v.is r.made)

    module _ {m2 : map.FinMap nat_cmp (Slot (Data X S B))} {root2 : Option ℕ} where
      pub stands_uncle : Made beside m2 root2 (plug v.up (Family false true false)) → Stands m2 root2 u
      stands_uncle h = stands m2 root2 (Beside false false) Left true u v.uncle v.left v.right (subst (Made beside m2 root2) (swapped false true false) h)

      pub stands_grand : Made beside m2 root2 (plug v.up (Family false false false)) → Stands m2 root2 g
      stands_grand h = stands m2 root2 v.up v.upper false g v.grand (forked v.side false p v.datum r.subtree v.far) (fork false u v.uncle v.left v.right) h

      module _ {m3 : map.FinMap nat_cmp (Slot (Data X S B))} {root3 : Option ℕ} where
        pub after_uncle : Made beside m2 root2 (plug v.up (Family false true false)) → Painted m2 root2 m3 root3 u false → Made beside m3 root3 (plug v.up (Family false false false))
        after_uncle h done = subst (Made beside m3 root3) (sym (swapped false false false))
            (painted m2 root2 m3 root3 (Beside false false) Left true false u v.uncle v.left v.right done (subst (Made beside m2 root2) (swapped false true false) h))

        pub risen_grand : Lawful w → Made beside m2 root2 (plug v.up (Family false false false)) → Painted m2 root2 m3 root3 g true → Rising w is_near beside m3 root3 es g (n - 1)
        risen_grand L h done =
            let parent = forked v.side false p v.datum r.subtree v.far in let uncle = fork false u v.uncle v.left v.right in
            let l0 : Lists w is_near (plug v.up (Family true true false)) es = subst (λ l. Lists w is_near (plug l r.subtree) es) v.is r.lists in
            let l1 = recoloured w L is_near (on v.upper false g v.grand (fork true u v.uncle v.left v.right) v.up) v.side true false p v.datum r.subtree v.far es l0 in
            let l2 = recoloured w L is_near (Beside false false) Left true false u v.uncle v.left v.right es (subst (λ q. Lists w is_near q es) (swapped false true false) l1) in
            let l3 = subst (λ q. Lists w is_near q es) (sym (swapped false false false)) l2 in
            let (rb, fit) = C.uncle_red v.side r.black r.subtree r.red p v.datum v.far v.upper g v.grand v.up u v.uncle v.left v.right (subst (Fits false r.black) v.is r.fits) in
            let deep = ap depth v.is in let few = r.few in record {
              hole = v.up;
              subtree = Family false false true;
              black = suc r.black;
              made = painted m2 root2 m3 root3 v.up v.upper false true g v.grand parent uncle done h;
              lists = recoloured w L is_near v.up v.upper false true g v.grand parent uncle es l3;
              named = root-forked v.upper true g v.grand parent uncle;
              red = rb;
              fits = fit;
              few = omega (arith, deep, few);
            }

  module _ (L : Lawful w) (is_item : X → Type 0) (is_value : S → Type 0) where
    -- no red uncle, and the node is on its parent's side
    module _ {s : Side} {p g : ℕ} (o : Alone r.black r.hole s p s g) where
      made_outer : Made beside m root (plug o.up (forked s false g o.grand (forked s true p o.datum r.subtree o.far) o.uncle))
      made_outer = subst (λ l. Made beside m root (plug l r.subtree)) o.is r.made

      lists_outer : Lists w is_near (plug o.up (forked s false g o.grand (forked s true p o.datum r.subtree o.far) o.uncle)) es
      lists_outer = subst (λ l. Lists w is_near (plug l r.subtree) es) o.is r.lists

      pub can_turn_outer : Valued w is_item is_value es → CanTurnAt w is_near is_item is_value m root g s
      can_turn_outer v = can_turn_at w L is_near is_item is_value beside m root es o.up false true g p o.grand o.datum r.subtree o.far o.uncle s made_outer lists_outer v

      pub outer_turned : {m2 : map.FinMap nat_cmp (Slot (Data X S B))} {root2 : Option ℕ} → AtSpot m root g (λ sp. TurnedAt w is_near m2 root2 g s sp) → Mended w is_near beside m2 root2 es
      outer_turned {m2} {root2} done =
          let (low, (high, made2, lists2)) = turned_at w L is_near is_item is_value beside m root es o.up false true g p o.grand o.datum r.subtree o.far o.uncle m2 root2 s done made_outer lists_outer in
          let (rb, fit) = C.outer s r.black r.subtree r.red p o.datum o.far g o.grand high low o.uncle o.up o.even (subst (Fits false r.black) o.is r.fits) in
          let t = forked s false p high r.subtree (forked s true g low o.far o.uncle) in (plug o.up t, made2, lists2, C.plugged false (suc r.black) o.up t rb fit)

    -- the node is on the other side: a rotation at the parent gives the other case
    module _ {s : Side} {p g : ℕ} (q : Alone r.black r.hole s p (other s) g) where
      abbrev z : Topmost s
      z = topmost s

      abbrev above : Hole (Data X S B)
      above = on (other s) false g q.grand q.uncle q.up

      made_inner : Made beside m root (plug above (forked s true p q.datum (forked s true i z.datum z.near z.far) q.far))
      made_inner = subst (λ t. Made beside m root (plug above (forked s true p q.datum t q.far))) z.is (subst (λ l. Made beside m root (plug l r.subtree)) q.is r.made)

      lists_inner : Lists w is_near (plug above (forked s true p q.datum (forked s true i z.datum z.near z.far) q.far)) es
      lists_inner = subst (λ t. Lists w is_near (plug above (forked s true p q.datum t q.far)) es) z.is (subst (λ l. Lists w is_near (plug l r.subtree) es) q.is r.lists)

      pub can_turn_inner : Valued w is_item is_value es → CanTurnAt w is_near is_item is_value m root p s
      can_turn_inner v = can_turn_at w L is_near is_item is_value beside m root es above true true p i q.datum z.datum z.near z.far q.far s made_inner lists_inner v

      pub inner_turned : {m2 : map.FinMap nat_cmp (Slot (Data X S B))} {root2 : Option ℕ} → AtSpot m root p (λ sp. TurnedAt w is_near m2 root2 p s sp)
          → (low : Rising w is_near beside m2 root2 es p n) × Alone low.black low.hole (other s) i (other s) g
      inner_turned {m2} {root2} done =
          let (low, (high, made2, lists2)) = turned_at w L is_near is_item is_value beside m root es above true true p i q.datum z.datum z.near z.far q.far m2 root2 s done made_inner lists_inner in
          let swap = ap (plug above) (sym (forked-other s true i high (forked s true p low z.far q.far) z.near)) in
          let (rb, fit) = C.inner s r.black i p z.datum q.datum high low z.near z.far q.far above (subst (Rb true r.black) z.is r.red) (subst (Fits false r.black) q.is r.fits) in
          let deep = ap depth q.is in let few = r.few in (
            record {
              hole = on (other s) true i high z.near above;
              subtree = forked s true p low z.far q.far;
              black = r.black;
              made = subst (Made beside m2 root2) swap made2;
              lists = subst (λ t. Lists w is_near t es) swap lists2;
              named = root-forked s true p low z.far q.far;
              red = rb;
              fits = fit;
              few = omega (arith, deep, few);
            },
            record { datum = high; far = z.near; grand = q.grand; uncle = q.uncle; up = q.up; is = refl; even = q.even },
          )
