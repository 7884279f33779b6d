-- Lines that are there.
use Rattle.std.proofs.Common.{◌≡◌, ℕ, ◌-◌, ◌<◌, ◌≤◌, List, length, Some, inl, inr, arith}
use Rattle.std.proofs.lemmas.Bool.{ne_eqb}
use Rattle.std.proofs.lemmas.Option.{slice_get_cases}
use Rattle.text_rules.specs.Lines.{Line, lines_of, line_at}

pub line_there : (x : List ℕ) (n : ℕ) → 0 < n → n ≤ length (lines_of x) → (line : Line) × (line_at x n ≡ Some line)
line_there x n first last =
    elim ((slice_get_cases (lines_of x) (n - 1)).1) [
      | inl found ↦ (found.0, rw (ne_eqb n 0 (λ e. absurd (omega arith))) found.2)
      | inr past ↦ absurd (omega (arith, past.0))
    ]
