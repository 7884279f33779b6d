-- A buffer that texts are appended to.
use Rattle.std.specs.Prelude.{ℕ, ◌≡◌, ◌<◌, ◌≤◌, ◌-◌, ◌^◌, Option, Some, None, List, [], ◌∷◌, ◌++◌, take, drop, get_or, if◌then◌else◌, nat_le}
use Rattle.std.specs.List.{prefix_len}
use Rattle.line_starts.specs.Starts.{break_count, starts_of}
use Rattle.text_rules.specs.Lines.{line_start}
use Rattle.text_rules.specs.Breaks.{joins_pair, count_to}

-- what contracts see of a buffer: its units, and how many more units and breaks fit without an allocation
pub record Filled : Type 0 where
  pub units : List ℕ
  pub room : ℕ
  pub break_room : ℕ

-- the most units of a buffer: each offset in it fits in 32 bits
abbrev pub most_units : ℕ
most_units = 2 ^ 32 - 1

abbrev pub padding : ℕ
padding = 0x5F

-- the buffer before a text is appended: if it ends with a CR and the text begins with an LF, a unit that belongs to no text keeps them
-- apart
abbrev pub padded : List ℕ → List ℕ → List ℕ
padded buffer text = if joins_pair buffer text then buffer ++ padding ∷ [] else buffer

-- the units from offset `from` to offset `to`
abbrev pub cut : List ℕ → ℕ → ℕ → List ℕ
cut x from to = take (to - from) (drop from x)

-- the offset after the first break of the units, if they have one
abbrev pub IsFirstBreak : List ℕ → Option ℕ → Type 0
IsFirstBreak units None = break_count units ≡ 0
IsFirstBreak units (Some end) = (0 < break_count units) × (end ≡ line_start units 2)

-- the first of the breaks that ends after `from` ends there, at most at `to`; None if that is none
abbrev pub NextEnds : ℕ → ℕ → List ℕ → Option ℕ → Type 0
NextEnds from to ends None = count_to to ends ≤ count_to from ends
NextEnds from to ends (Some end) =
    (count_to from ends < count_to to ends) × (from < end) × (end ≡ get_or ends (count_to from ends) 0)

-- the number of breaks that end at most at `place`
abbrev pub breaks_to : List ℕ → ℕ → ℕ
breaks_to x place = prefix_len (λ start. nat_le start place) (drop 1 (starts_of x))
