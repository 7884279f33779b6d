-- A red-black tree of n nodes has a longest path of h nodes with 2 ^ h ≤ (n + 1) ^ 2.
use Rattle.std.proofs.Common.{◌≡◌, ℕ, suc, ◌+◌, ◌*◌, ◌^◌, ◌≤◌, Bool, true, false, cond, sym, ap, ◌∙◌, subst, arith, lit<, lit≤, max, pow-add}
use Rattle.std.proofs.Math.Nat.{pow-suc, pow-le-pow_right, mul-le-mul_left, mul-le-mul_right}
use Rattle.rb_rules.specs.Tree.{Tree, tip, fork, size, height}
use Rattle.rb_rules.specs.Colours.{Rb, Balanced}

double : (n : ℕ) → 2 ^ suc n ≡ 2 ^ n + 2 ^ n
double n = let e = pow-suc 2 n in omega (arith, e)

at_least : (c : Bool) (n k : ℕ) → 2 ^ (cond c 1 0 + n) ≤ k → 2 ^ n ≤ k
at_least true n k le = let two = double n in let same : 1 + n ≡ suc n = omega arith in let le2 : 2 ^ suc n ≤ k = subst (λ j. 2 ^ j ≤ k) same le in omega (arith, two, le2)
at_least false n k le = let same : 0 + n ≡ n = omega arith in subst (λ j. 2 ^ j ≤ k) same le

weak : (c : Bool) (h n : ℕ) → h ≤ cond c 1 0 + (n + n) → h ≤ 1 + (n + n)
weak true h n le = le
weak false h n le = omega arith

twice : (c : Bool) (h n : ℕ) → h ≤ cond c 1 0 + (n + n) → h ≤ (cond c 1 0 + n) + (cond c 1 0 + n)
twice true h n le = omega arith
twice false h n le = omega arith

module _ {D : Type 0} where
  -- the black nodes alone give a lower bound for the size, twice as great if the root is red
  pub many : (c : Bool) (n : ℕ) (t : Tree D) → Rb c n t → 2 ^ (cond c 1 0 + n) ≤ size t + 1
  many c n tip (e, f) =
      let none : cond c 1 0 + n ≡ 0 = ap (λ b. cond b 1 0 + n) e ∙ omega (arith, f) in subst (λ k. 2 ^ k ≤ 0 + 1) (sym none) (lit≤ tt)
  many c n (fork true i d x y) (e, a, b) =
      let l = at_least false n _ (many false n x a) in let r = at_least false n _ (many false n y b) in let two = double n in
      let is : cond c 1 0 + n ≡ suc n = ap (λ b_. cond b_ 1 0 + n) e ∙ omega arith in
      subst (λ k. 2 ^ k ≤ (1 + (size x + size y)) + 1) (sym is) (omega (arith, l, r, two))
  many c n (fork false i d x y) (e, (m, f, (ca, a), (cb, b))) =
      let l = at_least ca m _ (many ca m x a) in let r = at_least cb m _ (many cb m y b) in let two = double m in
      let is : cond c 1 0 + n ≡ suc m = ap (λ b_. cond b_ 1 0 + n) e ∙ omega (arith, f) in
      subst (λ k. 2 ^ k ≤ (1 + (size x + size y)) + 1) (sym is) (omega (arith, l, r, two))

  -- a bound for the height, since no two red nodes are adjacent on a path
  pub not_long : (c : Bool) (n : ℕ) (t : Tree D) → Rb c n t → height t ≤ cond c 1 0 + (n + n)
  not_long c n tip r = omega arith
  not_long c n (fork true i d x y) (e, a, b) =
      let l = not_long false n x a in let r = not_long false n y b in subst (λ b_. 1 + max (height x) (height y) ≤ cond b_ 1 0 + (n + n)) (sym e) (omega (arith, l, r))
  not_long c n (fork false i d x y) (e, (m, f, (ca, a), (cb, b))) =
      let l = weak ca _ m (not_long ca m x a) in let r = weak cb _ m (not_long cb m y b) in
      subst (λ b_. 1 + max (height x) (height y) ≤ cond b_ 1 0 + (n + n)) (sym e) (omega (arith, l, r, f))

  pub bound : (t : Tree D) → Balanced t → 2 ^ height t ≤ (size t + 1) * (size t + 1)
  bound t (n, (c, r)) =
      let e = cond c 1 0 + n in let le = many c n t r in let h = twice c (height t) n (not_long c n t r) in
      let up : 2 ^ height t ≤ 2 ^ (e + e) = pow-le-pow_right (lit< tt) h in let same : 2 ^ (e + e) ≡ 2 ^ e * 2 ^ e = pow-add 2 e e in
      let left = mul-le-mul_left (2 ^ e) le in let right = mul-le-mul_right (size t + 1) le in omega (arith, up, same, left, right)
