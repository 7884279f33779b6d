-- A tree of the same shape as a plugged one is plugged in the same way.
use Rattle.std.proofs.Common.{◌≡◌, ℕ, suc, ◌+◌, Bool, true, false, refl, sym, ap, ◌∙◌, subst}
use Rattle.rb_rules.specs.declared.slot.Side.{Side}
use Rattle.rb_rules.specs.declared.slot.Side.TheVariants.{Left, Right}
use Rattle.rb_rules.specs.Tree.{Tree, tip, fork, Hole, top, on, forked, plug, depth}
use Rattle.rb_rules.specs.Colours.{Rb, Fits}
use Rattle.rb_rules.specs.Shape.{each}
use Rattle.rb_rules.proofs.Shapes.{rb_to_each, rb_of_each, each-forked}

module _ {D E : Type 0} (f : D → E) where
  -- a tree of the shape of a node is one of that colour and name
  is_fork : Tree E → Type 0
  is_fork tip = ⊥
  is_fork (fork c i d x y) = Unit {0}

  colour_of : Tree E → Bool → Bool
  colour_of tip b = b
  colour_of (fork c i d x y) b = c

  name_of : Tree E → ℕ
  name_of tip = 0
  name_of (fork c i d x y) = i

  lefts_of : Tree E → Tree E
  lefts_of tip = tip
  lefts_of (fork c i d x y) = x

  rights_of : Tree E → Tree E
  rights_of tip = tip
  rights_of (fork c i d x y) = y

  pub forked_back : (s : Side) (u : Tree D) (c : Bool) (i : ℕ) (e : E) (x y : Tree E) → each f u ≡ forked s c i e x y
      → (d : D) × ((a : Tree D) × (b : Tree D) × (u ≡ forked s c i d a b) × (each f a ≡ x) × (each f b ≡ y))
  unfolding is_fork colour_of name_of lefts_of rights_of
  forked_back Left tip c i e x y h = absurd (subst is_fork (sym h) tt)
  forked_back Right tip c i e x y h = absurd (subst is_fork (sym h) tt)
  forked_back Left (fork c2 i2 d a b) c i e x y h =
      let ec : c2 ≡ c = ap (λ t. colour_of t c) h in let ei : i2 ≡ i = ap name_of h in (d, (a, b, (λ j. fork (ec j) (ei j) d a b), ap lefts_of h, ap rights_of h))
  forked_back Right (fork c2 i2 d b a) c i e x y h =
      let ec : c2 ≡ c = ap (λ t. colour_of t c) h in let ei : i2 ≡ i = ap name_of h in (d, (a, b, (λ j. fork (ec j) (ei j) d b a), ap rights_of h, ap lefts_of h))

  pub rb_same : (c : Bool) (n : ℕ) (t u : Tree D) → each f t ≡ each f u → Rb c n t → Rb c n u
  rb_same c n t u e r = rb_of_each f c n u (subst (Rb c n) e (rb_to_each f c n t r))

  pub unplugged : (k : Hole D) (t u : Tree D) → each f u ≡ each f (plug k t)
      → (k2 : Hole D) × ((t2 : Tree D) × (u ≡ plug k2 t2) × (each f t2 ≡ each f t) × (depth k2 ≡ depth k) × ((c : Bool) (n : ℕ) → Fits c n k → Fits c n k2))
  unplugged top t u e = (top, (u, refl, e, refl, λ c n q. q))
  unplugged (on s true i d x k) t u e =
      let (k1, (w, is, alike, deep, fits)) = unplugged k (forked s true i d t x) u e in
      let (d2, (a, b, same, ea, eb)) = forked_back s w true i (f d) (each f t) (each f x) (alike ∙ each-forked f s true i d t x) in
      (on s true i d2 b k1, (a, is ∙ ap (plug k1) same, ea, ap (λ n. 1 + n) deep, λ c n (q, r, g). (q, rb_same false n x b (sym eb) r, fits true n g)))
  unplugged (on s false i d x k) t u e =
      let (k1, (w, is, alike, deep, fits)) = unplugged k (forked s false i d t x) u e in
      let (d2, (a, b, same, ea, eb)) = forked_back s w false i (f d) (each f t) (each f x) (alike ∙ each-forked f s false i d t x) in
      (on s false i d2 b k1, (a, is ∙ ap (plug k1) same, ea, ap (λ n. 1 + n) deep, λ c n ((q, r), g). ((q, rb_same q n x b (sym eb) r), fits false (suc n) g)))
