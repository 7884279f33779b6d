-- The numbers of lines that are kept with consecutive numbers.
use Rattle.std.specs.Prelude.{ℕ, ◌+◌, ◌^◌, ◌≤◌, ⊤}
use Rattle.mark_rules.specs.declared.Mark.{Mark}
use Rattle.mark_rules.specs.declared.Mark.TheVariants.{Kept, New}

-- the numbers are at least 1 and less than 2 ^ 62
abbrev pub AreNumbers : Mark → ℕ → Type 0
AreNumbers New lines = ⊤
AreNumbers (Kept first) lines = (1 ≤ first) × (first + lines ≤ 2 ^ 62)
