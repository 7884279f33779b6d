-- The effect of rotations and colour changes on the colours of a tree.
use Rattle.std.proofs.Common.{◌≡◌, ℕ, suc, Bool, true, false, refl, subst, arith}
use Rattle.std.proofs.lemmas.Bool.{true≢false, false≢true}
use Rattle.rb_rules.specs.declared.slot.Side.{Side}
use Rattle.rb_rules.specs.declared.slot.Side.TheVariants.{Left, Right}
use Rattle.rb_rules.specs.Tree.{Tree, tip, fork, Hole, top, on, other, forked, plug}
use Rattle.rb_rules.specs.Colours.{Rb, Black, Balanced, Fits}

module _ {D : Type 0} where
  pub red_forked : (s : Side) (n i : ℕ) (d : D) (x y : Tree D) → Rb false n x → Rb false n y → Rb true n (forked s true i d x y)
  red_forked Left n i d x y a b = (refl, a, b)
  red_forked Right n i d x y a b = (refl, b, a)

  pub black_forked : (s : Side) (n i : ℕ) (d : D) (x y : Tree D) → Black n x → Black n y → Rb false (suc n) (forked s false i d x y)
  black_forked Left n i d x y a b = (refl, (n, refl, a, b))
  black_forked Right n i d x y a b = (refl, (n, refl, b, a))

  pub of_red : (s : Side) (c : Bool) (n i : ℕ) (d : D) (x y : Tree D) → Rb c n (forked s true i d x y) → (c ≡ true) × Rb false n x × Rb false n y
  of_red Left c n i d x y (e, a, b) = (e, a, b)
  of_red Right c n i d x y (e, a, b) = (e, b, a)

  pub of_black : (s : Side) (c : Bool) (n i : ℕ) (d : D) (x y : Tree D) → Rb c n (forked s false i d x y) → (c ≡ false) × ((m : ℕ) × (n ≡ suc m) × Black m x × Black m y)
  of_black Left c n i d x y (e, (m, f, a, b)) = (e, (m, f, a, b))
  of_black Right c n i d x y (e, (m, f, a, b)) = (e, (m, f, b, a))

  -- a hole for a red tree takes a black one too
  pub fits_either : (c : Bool) (n : ℕ) (k : Hole D) → Fits true n k → Fits c n k
  fits_either c n top f = tt
  fits_either c n (on s true i d x k) (e, a, b) = absurd (true≢false e)
  fits_either c n (on s false i d x k) f = f

  pub plugged : (c : Bool) (n : ℕ) (k : Hole D) (t : Tree D) → Rb c n t → Fits c n k → Balanced (plug k t)
  plugged c n top t r f = (n, (c, r))
  plugged c n (on s true i d x k) t r (e, a, b) =
      plugged true n k (forked s true i d t x) (red_forked s n i d t x (subst (λ b_. Rb b_ n t) e r) a) b
  plugged c n (on s false i d x k) t r (a, b) = plugged false (suc n) k (forked s false i d t x) (black_forked s n i d t x (c, r) a) b

  pub unplugged : (k : Hole D) (t : Tree D) → Balanced (plug k t) → (n : ℕ) × ((c : Bool) × Rb c n t × Fits c n k)
  unplugged top t (n, (c, r)) = (n, (c, r, tt))
  unplugged (on s true i d x k) t whole =
      let (n, (c, r, f)) = unplugged k (forked s true i d t x) whole in let (e, a, b) = of_red s c n i d t x r in
      (n, (false, a, (refl, b, subst (λ b_. Fits b_ n k) e f)))
  unplugged (on s false i d x k) t whole =
      let (n, (c, r, f)) = unplugged k (forked s false i d t x) whole in let (e, (m, g, (a, ra), b)) = of_black s c n i d t x r in
      (m, (a, ra, (b, subst (λ b_. Fits b_ (suc m) k) e (subst (λ l. Fits c l k) g f))))

  -- Insertion: a red tree is in a hole that may require a black one.
  module _ (s : Side) (n : ℕ) (t : Tree D) (red : Rb true n t) (p : ℕ) (dp : D) (x : Tree D) where
    pub blackened_root : Fits false n (on s true p dp x top) → Balanced (forked s false p dp t x)
    blackened_root (e, a, b) = (suc n, (false, black_forked s n p dp t x (true, red) (false, a)))

    module _ (s2 : Side) (g : ℕ) (dg : D) (k : Hole D) where
      pub uncle_red : (ui : ℕ) (ud : D) (u v : Tree D) → Fits false n (on s true p dp x (on s2 false g dg (fork true ui ud u v) k))
          → Rb true (suc n) (forked s2 true g dg (forked s false p dp t x) (fork false ui ud u v)) × Fits false (suc n) k
      uncle_red ui ud u v (e, a, ((c, (ce, ru, rv)), f)) =
          (red_forked s2 (suc n) g dg _ _ (black_forked s n p dp t x (true, red) (false, a)) (refl, (n, refl, (false, ru), (false, rv))), f)

    module _ (g : ℕ) (dg dp2 dg2 : D) (u : Tree D) (k : Hole D) where
      pub outer : Rb false n u → Fits false n (on s true p dp x (on s false g dg u k))
          → Rb false (suc n) (forked s false p dp2 t (forked s true g dg2 x u)) × Fits false (suc n) k
      outer ru (e, a, (b, f)) = (black_forked s n p dp2 t _ (true, red) (true, red_forked s n g dg2 x u a ru), f)

  pub inner : (s : Side) (n z p : ℕ) (dz dp dz2 dp2 : D) (a b x : Tree D) (k : Hole D) → Rb true n (forked s true z dz a b) → Fits false n (on s true p dp x k)
      → Rb true n (forked s true p dp2 b x) × Fits false n (on (other s) true z dz2 a k)
  inner s n z p dz dp dz2 dp2 a b x k red (e, rx, f) =
      let (e2, ra, rb) = of_red s true n z dz a b red in (red_forked s n p dp2 b x rb rx, (refl, ra, f))

  -- Removal: a tree with one black node too few on each path is in a hole.
  module _ (s : Side) (n p : ℕ) (dp : D) (k : Hole D) where
    -- the brother of such a tree is not empty
    pub some_brother : (c : Bool) → Fits false (suc n) (on s c p dp tip k) → ⊥
    some_brother true (e, (f, g), h) = absurd (omega arith)
    some_brother false ((b, (f, g)), h) = absurd (omega arith)

    -- a red brother has a black parent and black children, of which the inner one becomes the brother
    pub brother_red : (c : Bool) (q : ℕ) (dq dp2 dq2 : D) (out mid : Tree D) → Fits false (suc n) (on s c p dp (forked (other s) true q dq out mid) k)
        → (c ≡ false) × Fits false (suc n) (on s true p dp2 mid (on s false q dq2 out k))
    brother_red true q dq dp2 dq2 out mid (e, r, f) = let (g, _, _) = of_red (other s) false (suc n) q dq out mid r in absurd (false≢true g)
    brother_red false q dq dp2 dq2 out mid ((b, r), f) =
        let (g, ro, rm) = of_red (other s) b (suc n) q dq out mid r in (refl, (refl, rm, ((false, ro), f)))

    -- the outer child of a black brother is red
    pub outer_red : (c : Bool) (q : ℕ) (dq dp2 dq2 : D) (oi : ℕ) (od : D) (ox oy mid t : Tree D)
        → Fits false (suc n) (on s c p dp (forked (other s) false q dq (fork true oi od ox oy) mid) k) → Rb false n t
        → Balanced (plug k (forked (other s) c q dq2 (fork false oi od ox oy) (forked s false p dp2 t mid)))
    outer_red true q dq dp2 dq2 oi od ox oy mid t (e, r, f) rt =
        let (_, (m, same, (oc, (oe, ra, rb)), rm)) = of_black (other s) false (suc n) q dq (fork true oi od ox oy) mid r in let is : m ≡ n = omega arith in
        plugged true (suc n) k (forked (other s) true q dq2 (fork false oi od ox oy) (forked s false p dp2 t mid))
        (red_forked (other s) (suc n) q dq2 _ _ (refl, (n, refl, (false, subst (λ l. Rb false l ox) is ra), (false, subst (λ l. Rb false l oy) is rb)))
        (black_forked s n p dp2 t mid (false, rt) (subst (λ l. Black l mid) is rm))) f
    outer_red false q dq dp2 dq2 oi od ox oy mid t ((b, r), f) rt =
        let (_, (m, same, (oc, (oe, ra, rb)), rm)) = of_black (other s) b (suc n) q dq (fork true oi od ox oy) mid r in let is : m ≡ n = omega arith in
        plugged false (suc (suc n)) k (forked (other s) false q dq2 (fork false oi od ox oy) (forked s false p dp2 t mid))
        (black_forked (other s) (suc n) q dq2 _ _ (false, (refl, (n, refl, (false, subst (λ l. Rb false l ox) is ra), (false, subst (λ l. Rb false l oy) is rb))))
        (false, black_forked s n p dp2 t mid (false, rt) (subst (λ l. Black l mid) is rm))) f

    -- the inner child of a black brother is red: it becomes the brother, with a red outer child
    module _ (q mi : ℕ) (dq md dq2 md2 : D) (a b out : Tree D) where
      inner_turned : (c : Bool) → Rb c (suc n) (forked (other s) false q dq out (forked s true mi md a b)) → Rb false n out
          → Rb false (suc n) (forked (other s) false mi md2 (forked s true q dq2 b out) a)
      inner_turned c r ro =
          let (_, (m, same, _, (mc, rm))) = of_black (other s) c (suc n) q dq out (forked s true mi md a b) r in let is : m ≡ n = omega arith in
          let (_, ra, rb) = of_red s mc m mi md a b rm in
          black_forked (other s) n mi md2 _ a (true, red_forked s n q dq2 b out (subst (λ l. Rb false l b) is rb) ro) (false, subst (λ l. Rb false l a) is ra)

      pub inner_red : (c : Bool) → Fits false (suc n) (on s c p dp (forked (other s) false q dq out (forked s true mi md a b)) k) → Rb false n out
          → Fits false (suc n) (on s c p dp (forked (other s) false mi md2 (forked s true q dq2 b out) a) k)
      inner_red true (e, r, f) ro = (e, inner_turned false r ro, f)
      inner_red false ((c, r), f) ro = ((false, inner_turned c r ro), f)

    -- both children of a black brother are black: it becomes red
    module _ (q : ℕ) (dq : D) (out mid : Tree D) where
      reddened : (c : Bool) → Rb c (suc n) (forked (other s) false q dq out mid) → Rb false n out → Rb false n mid → Rb true n (forked (other s) true q dq out mid)
      reddened c r ro rm = red_forked (other s) n q dq out mid ro rm

      pub below_red : (t : Tree D) → Fits false (suc n) (on s true p dp (forked (other s) false q dq out mid) k) → Rb false n t → Rb false n out → Rb false n mid
          → Balanced (plug k (forked s false p dp t (forked (other s) true q dq out mid)))
      below_red t (e, r, f) rt ro rm =
          plugged false (suc n) k _ (black_forked s n p dp t _ (false, rt) (true, reddened false r ro rm)) (fits_either false (suc n) k f)

      pub below_black : (t : Tree D) → Fits false (suc n) (on s false p dp (forked (other s) false q dq out mid) k) → Rb false n t → Rb false n out → Rb false n mid
          → Rb false (suc n) (forked s false p dp t (forked (other s) true q dq out mid)) × Fits false (suc (suc n)) k
      below_black t ((c, r), f) rt ro rm = (black_forked s n p dp t _ (false, rt) (true, reddened c r ro rm), f)
