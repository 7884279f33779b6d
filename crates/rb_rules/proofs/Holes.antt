-- A tree with a hole and the tree that fills it.
use Rattle.std.proofs.Common.{◌≡◌, ℕ, ◌+◌, Bool, cond, eqb, Some, refl, ap, arith, inl, inr}
use Rattle.std.proofs.lemmas.Bool.Decides.{eqb_tells}
use Rattle.rb_rules.specs.declared.slot.Side.{Side}
use Rattle.rb_rules.specs.declared.slot.Side.TheVariants.{Left, Right}
use Rattle.rb_rules.specs.Tree.{Tree, Hole, top, on, other, forked, plug, root_of, count, count_round}

-- a node counts its own name
pub count_self : (i n : ℕ) → cond (eqb i i) 1 0 + n ≡ 1 + n
count_self i n = elim (eqb_tells i i) [ inl (e, _) ↦ ap (λ b. cond b 1 0 + n) e | inr (_, ne) ↦ absurd (ne refl) ]

module _ {D : Type 0} where
  pub root-forked : (s : Side) (c : Bool) (i : ℕ) (d : D) (x y : Tree D) → root_of (forked s c i d x y) ≡ Some i
  root-forked Left c i d x y = refl
  root-forked Right c i d x y = refl

  pub forked-other : (s : Side) (c : Bool) (i : ℕ) (d : D) (x y : Tree D) → forked (other s) c i d x y ≡ forked s c i d y x
  forked-other Left c i d x y = refl
  forked-other Right c i d x y = refl

  pub count-forked : (j : ℕ) (s : Side) (c : Bool) (i : ℕ) (d : D) (x y : Tree D) → count j (forked s c i d x y) ≡ cond (eqb j i) 1 0 + (count j x + count j y)
  count-forked j Left c i d x y = refl
  count-forked j Right c i d x y = omega arith

  pub count-plug : (j : ℕ) (k : Hole D) (t : Tree D) → count j (plug k t) ≡ count_round j k + count j t
  count-plug j top t = omega arith
  count-plug j (on s c i d x k) t = let more = count-plug j k (forked s c i d t x) in let here = count-forked j s c i d t x in omega (arith, more, here)
