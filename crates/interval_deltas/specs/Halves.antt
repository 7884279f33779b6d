-- A 64-bit number in two halves.
use Rattle.std.specs.Prelude.{◌≡◌, ℕ, ◌+◌, ◌*◌, ◌/◌, ◌%◌, ◌^◌, ◌<◌}
use Rattle.std.proofs.Common.{arith}

-- the number with the given halves, and the halves of a number
abbrev pub joined : ℕ → ℕ → ℕ
joined high low = high * 2 ^ 32 + low

abbrev pub high_half : ℕ → ℕ
high_half n = n / 2 ^ 32

abbrev pub low_half : ℕ → ℕ
low_half n = n % 2 ^ 32

pub same_high : (high low : ℕ) → low < 2 ^ 32 → high_half (joined high low) ≡ high
same_high high low fits = omega (arith, fits)

pub same_low : (high low : ℕ) → low < 2 ^ 32 → low_half (joined high low) ≡ low
same_low high low fits = omega (arith, fits)
