-- Where the lines of a text start, and how many breaks it has. Lines are cut as the text buffer of VS Code cuts them.
use Rattle.std.specs.Prelude.{ℕ, ◌+◌, ◌-◌, ◌*◌, List, length, map, drop}
use Rattle.std.specs.List.{range_with_len}
use Rattle.text_rules.specs.Breaks.{break_ends}
use Rattle.text_rules.specs.Lines.{lines_of, line_start}

-- the start of each line, from line 1 on
abbrev pub starts_of : List ℕ → List ℕ
starts_of x = map (line_start x) (range_with_len 1 (length (lines_of x)))

-- a text with k breaks has k + 1 lines
abbrev pub break_count : List ℕ → ℕ
break_count x = length (lines_of x) - 1

-- the place after each break, for a text that starts at `place` in a longer one
abbrev pub break_ends_at : ℕ → List ℕ → List ℕ
break_ends_at place x = map (λ start. place + start) (drop 1 (starts_of x))

-- the number of breaks in the text from `place` on
abbrev pub breaks_from : List ℕ → ℕ → ℕ
breaks_from x place = length (break_ends 0 (drop place x))

-- the sum of a count over four places that are `apart` units apart
abbrev pub at_four : (ℕ → ℕ) → ℕ → ℕ → ℕ
at_four count at apart = count at + count (apart + at) + count (apart * 2 + at) + count (apart * 3 + at)
