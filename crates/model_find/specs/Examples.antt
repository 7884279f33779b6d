-- Worked examples of the definitions.
use Rattle.std.specs.Prelude.{◌≡◌, ℕ, zero, suc, ◌+◌, ◌-◌, ◌<◌, [], ◌∷◌, codes, slice_index, refl}
use Rattle.std.proofs.Common.{arith}
use Rattle.unit_text.specs.declared.kind.Kind.TheVariants.{Mixed}
use Rattle.model_find.specs.Matching.{EndsWith, AreBorders}

-- a text ends with the first two of three units
two_of_three : EndsWith Mixed (codes "xab") (codes "abc") 3 2
two_of_three = record { few = omega arith; there = omega arith; same = same; begins = λ some. refl }
  where
    same : (k : ℕ) → k < 2 → slice_index (codes "xab") (3 - 2 + k) ≡ slice_index (codes "abc") k
    same zero below = refl
    same (suc zero) below = refl
    same (suc (suc k)) below = absurd (omega arith)

-- a prefix of one unit has an empty border, and one of two equal units has a border of one unit
borders_of_two : AreBorders Mixed (codes "aa") (0 ∷ 1 ∷ [])
borders_of_two zero some few = absurd (omega arith)
borders_of_two (suc zero) some few = record {
  ends = record { few = omega arith; there = omega arith; same = λ k below. absurd (omega arith); begins = λ some. absurd (omega arith) };
  behind = omega arith;
  longer = λ k more most there part. absurd (omega arith);
}
borders_of_two (suc (suc zero)) some few = record {
  ends = record { few = omega arith; there = omega arith; same = same; begins = λ some. refl };
  behind = omega arith;
  longer = λ k more most there part. absurd (omega arith);
}
  where
    same : (k : ℕ) → k < 1 → slice_index (codes "aa") (2 - 1 + k) ≡ slice_index (codes "aa") k
    same zero below = refl
    same (suc k) below = absurd (omega arith)
borders_of_two (suc (suc (suc n))) some few = absurd (omega arith)
