-- The occurrences of a text in another one, unit for unit, and the spans that a search from left to right finds.
use Rattle.std.specs.Prelude.{ℕ, zero, suc, ◌+◌, ◌-◌, ◌≡◌, ◌<◌, ◌≤◌, Bool, true, ◌&&◌, nat_eq, nat_lt, nat_le, if◌then◌else◌, List, [], ◌∷◌, ◌++◌, length, drop, All, ⊤}
use Rattle.std.specs.List.{starts_with, list_any}
use Rattle.text_lengths.specs.declared.Span.{Span}
use Rattle.unit_text.specs.declared.kind.Kind.{Kind}
use Rattle.unit_text.specs.Kinds.{is_place_in}

-- the sought units occur at this offset: the text has them there, and both ends are places of a text of the kind
abbrev pub stands_at : Kind → List ℕ → List ℕ → ℕ → Bool
stands_at kind x sought place =
    starts_with nat_eq (drop place x) sought && is_place_in kind x place && is_place_in kind x (place + length sought)

-- the span of the sought units at this offset
abbrev pub span_at : List ℕ → ℕ → Span
span_at sought place = record { start = place; end = place + length sought }

-- the spans found at this offset: the one of the sought units if they occur there, else none
abbrev pub found_at : Kind → List ℕ → List ℕ → ℕ → List Span
found_at kind x sought place = if stands_at kind x sought place then span_at sought place ∷ [] else []

-- the offset at which the search goes on: the end of the found span, or else one unit further
abbrev pub next_place : Kind → List ℕ → List ℕ → ℕ → ℕ
next_place kind x sought place = if stands_at kind x sought place then place + length sought else place + 1

-- the spans found from this offset on by the given number of steps
abbrev pub occurrences_from : Kind → List ℕ → List ℕ → ℕ → ℕ → List Span
occurrences_from kind x sought place zero = []
occurrences_from kind x sought place (suc steps) =
    found_at kind x sought place ++ occurrences_from kind x sought (next_place kind x sought place) steps

-- The spans found from this offset on. Each step advances by at least one unit, so as many steps as there are units left suffice.
abbrev pub occurrences_after : Kind → List ℕ → List ℕ → ℕ → List Span
occurrences_after kind x sought place = occurrences_from kind x sought place (length x - place)

-- the spans found in the whole text
abbrev pub occurrences : Kind → List ℕ → List ℕ → List Span
occurrences kind x sought = occurrences_after kind x sought 0

-- ---- properties of these spans

-- the span is that of an occurrence of the sought units
abbrev pub IsOccurrence : Kind → List ℕ → List ℕ → Span → Type 0
IsOccurrence kind x sought span = (span ≡ span_at sought span.start) × (stands_at kind x sought span.start ≡ true)

-- the spans are non-empty, ascending and do not overlap, and the first begins at the offset or later
abbrev pub AreApart : ℕ → List Span → Type 0
AreApart place [] = ⊤
AreApart place (span ∷ spans) = (place ≤ span.start) × (span.start < span.end) × AreApart span.end spans

-- the offset is the start of the span, or lies inside it
abbrev pub is_within : ℕ → Span → Bool
is_within place span = nat_le span.start place && nat_lt place span.end

-- The spans are the occurrences of the sought units in the text: they ascend and do not overlap, each is an occurrence, and each offset
-- at which the units occur is the start of one of the spans or lies inside one.
pub record AreOccurrences (kind : Kind) (x sought : List ℕ) (spans : List Span) : Type 0 where
  pub apart : AreApart 0 spans
  pub each : All (IsOccurrence kind x sought) spans
  pub every : (place : ℕ) → stands_at kind x sought place ≡ true → list_any (is_within place) spans ≡ true
