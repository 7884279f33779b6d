-- Lists whose items are rewritten in order.
use Rattle.std.specs.Prelude.{◌≡◌, ℕ, List, [], ◌∷◌}
use Rattle.rb_rules.specs.Weaving.{Weaving}
use Rattle.rb_rules.specs.Woven.{AllItems, sum_of}

-- the new form of an item and the state after it, from the state before it
module _ {V X : Type 0} (rewritten : V → X → X) (onward : V → X → V) where
  -- each item in its new form, under its name
  abbrev pub rewritten_all : V → List (ℕ × X) → List (ℕ × X)
  rewritten_all v [] = []
  rewritten_all v (e ∷ es) = (e.0, rewritten v e.1) ∷ rewritten_all (onward v e.1) es

  -- the state after all items
  abbrev pub onward_all : V → List (ℕ × X) → V
  onward_all v [] = v
  onward_all v (e ∷ es) = onward_all (onward v e.1) es

-- lists of values with that sum are left unchanged, and so is the state
abbrev pub Leaves : {V X S B : Type 0} → Weaving X S B → (X → Type 0) → (V → X → X) → (V → X → V) → V → S → Type 0
Leaves {X} w is_item rewritten onward v sum =
    (es : List (ℕ × X)) → AllItems w is_item es → sum_of w es ≡ sum
    → (rewritten_all rewritten onward v es ≡ es) × (onward_all rewritten onward v es ≡ v)
