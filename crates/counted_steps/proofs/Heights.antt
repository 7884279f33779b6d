-- The height of a list in a tree whose leaves fit 64 bits.
use Rattle.std.proofs.Common.{ℕ, ◌+◌, ◌<◌, ◌≤◌, ◌^◌, inl, inr, arith}
use Rattle.std.proofs.lemmas.Nat.{pow_below}
use Rattle.std.proofs.lemmas.Bool.{cases_lt}

pub low_list : (height weight : ℕ) → 2 ^ height ≤ weight + 1 → weight < 2 ^ 64 → height ≤ 64
low_list height weight h light =
    elim (cases_lt 64 height) [
      | inl k ↦ let more : 2 ^ 64 < 2 ^ height = pow_below 64 height k in absurd (omega (arith, more, h, light))
      | inr k ↦ omega (arith, k)
    ]
