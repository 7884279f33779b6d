-- Random numbers, by a linear congruential generator.
use Rattle.std.specs.Prelude.{ℕ, ◌+◌, ◌*◌, ◌/◌, ◌%◌, ◌^◌}
use Rattle.script_play.specs.declared.TheConstants.{MULTIPLIER, INCREMENT}

-- the state of the generator after a draw
unfoldable pub next : ℕ → ℕ
next x = (x * MULTIPLIER + INCREMENT) % 2 ^ 64

-- the result of a draw below m that left the generator in state x
abbrev pub drawn : ℕ → ℕ → ℕ
drawn x m = x / 2 ^ 33 % m
