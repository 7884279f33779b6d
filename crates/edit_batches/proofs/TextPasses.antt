-- One pass over the texts of a batch.
use Rattle.std.proofs.Common.{◌≡◌, ℕ, zero, suc, ◌+◌, ◌<◌, List, [], ◌∷◌, ◌++◌, length, map, take, drop, get_or, set, refl, ap, arith}
use Rattle.text_rules.specs.declared.Op.{Op}

-- in a list whose first `at` items were changed, the next item is unchanged
pub get_or-next : (f : Op → Op) (ops : List Op) (at : ℕ) (d : Op) → at < length ops
    → get_or (map f (take at ops) ++ drop at ops) at d ≡ get_or ops at d
get_or-next f [] at d inside = absurd (omega arith)
get_or-next f (op ∷ ops) zero d inside = refl
get_or-next f (op ∷ ops) (suc at) d inside = get_or-next f ops at d (omega arith)

-- changing this item makes it one more changed item
pub set-next : (f : Op → Op) (ops : List Op) (at : ℕ) (d : Op) → at < length ops
    → set (map f (take at ops) ++ drop at ops) at (f (get_or ops at d)) ≡ map f (take (at + 1) ops) ++ drop (at + 1) ops
set-next f [] at d inside = absurd (omega arith)
set-next f (op ∷ ops) zero d inside = refl
set-next f (op ∷ ops) (suc at) d inside =
    let more : suc at + 1 ≡ suc (at + 1) = omega arith in
    rw more (ap (λ l. f op ∷ l) (set-next f ops at d (omega arith)))
