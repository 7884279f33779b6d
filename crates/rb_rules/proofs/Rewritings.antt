-- Lists rewritten in parts, and trees that list them.
use Rattle.std.proofs.Common.{◌≡◌, ℕ, List, [], ◌∷◌, ◌++◌, refl, sym, ap, ◌∙◌}
use Rattle.rb_rules.specs.Weaving.{Weaving, Lawful}
use Rattle.rb_rules.specs.Rewriting.{rewritten_all, onward_all}

module _ {V X : Type 0} (rewritten : V → X → X) (onward : V → X → V) where
  pub rewritten-append : (v : V) (xs ys : List (ℕ × X)) → rewritten_all rewritten onward v (xs ++ ys)
      ≡ rewritten_all rewritten onward v xs ++ rewritten_all rewritten onward (onward_all rewritten onward v xs) ys
  rewritten-append v [] ys = refl
  rewritten-append v (e ∷ xs) ys = ap (λ es. (e.0, rewritten v e.1) ∷ es) (rewritten-append (onward v e.1) xs ys)

  pub onward-append : (v : V) (xs ys : List (ℕ × X)) → onward_all rewritten onward v (xs ++ ys)
      ≡ onward_all rewritten onward (onward_all rewritten onward v xs) ys
  onward-append v [] ys = refl
  onward-append v (e ∷ xs) ys = onward-append (onward v e.1) xs ys

-- an item relative to the shift of its path
pub shift_back : {X S B : Type 0} (w : Weaving X S B) → Lawful w → (acc : B) (x : X) → w.shift acc (w.shift (w.minus w.still acc) x) ≡ x
shift_back w L acc x = sym (L.shift_plus acc (w.minus w.still acc) x) ∙ ap (λ b. w.shift b x) (L.plus_minus w.still acc) ∙ L.shift_still x
