-- The state of a search by borders (Knuth, Morris, Pratt: Fast pattern matching in strings, 1977): the length of the match at the end of
-- the text read, and the border table of the sought units. A border of a list is a prefix of it that is also a suffix.
use Rattle.std.specs.Prelude.{ℕ, ◌≡◌, ◌+◌, ◌-◌, ◌<◌, ◌≤◌, ◌==◌, ◌&&◌, ◌||◌, Bool, false, nat_le, if◌then◌else◌, List, ◌++◌, length, take, drop, slice_index}
use Rattle.text_lengths.specs.declared.Span.{Span}
use Rattle.unit_text.specs.declared.kind.Kind.{Kind}
use Rattle.unit_text.specs.Kinds.{cuts_in}
use Rattle.search_rules.specs.Occurrences.{occurrences_after}

-- The units of the text before `at` end with the first n sought units, a match of length n. If n > 0, it begins at a place.
pub record EndsWith (kind : Kind) (x sought : List ℕ) (at n : ℕ) : Type 0 where
  pub few : n ≤ length sought
  pub there : n ≤ at
  pub same : (k : ℕ) → k < n → slice_index x (at - n + k) ≡ slice_index sought k
  pub begins : 0 < n → cuts_in kind x (at - n) ≡ false

-- n is the length of the longest match at `at` among those of at most `most` units that begin at `low` or later.
pub record IsLongest (most : ℕ) (kind : Kind) (x sought : List ℕ) (low at n : ℕ) : Type 0 where
  pub ends : EndsWith kind x sought at n
  pub behind : low + n ≤ at
  pub longer : (k : ℕ) → n < k → k ≤ most → low + k ≤ at → EndsWith kind x sought at k → ⊥

-- the unit before the offset; 0 before the first unit
abbrev pub unit_before : List ℕ → ℕ → ℕ
unit_before x at = if at == 0 then 0 else slice_index x (at - 1)

-- If the longest match, shorter than the sought units, has length n, it has length m after `unit`. `before` is the unit before `unit`.
abbrev pub ExtendsTo : Kind → List ℕ → ℕ → ℕ → ℕ → ℕ → Type 0
ExtendsTo kind sought before unit n m =
    (x : List ℕ) (low at : ℕ) → at < length x → before ≡ unit_before x at → unit ≡ slice_index x at
    → IsLongest (length sought - 1) kind x sought low at n → IsLongest (length sought) kind x sought low (at + 1) m

-- for each prefix of the sought units of length n, up to the length of the table: entry n - 1 is the length of its longest proper border
abbrev pub AreBorders : Kind → List ℕ → List ℕ → Type 0
AreBorders kind sought borders =
    (n : ℕ) → 0 < n → n ≤ length borders → IsLongest (length sought) kind sought sought 1 n (slice_index borders (n - 1))

-- The sought units may begin at this offset of a run: the run has their first unit there, and their last one where they would end, if that
-- is inside the run.
abbrev pub may_begin : List ℕ → List ℕ → ℕ → Bool
may_begin run sought at =
    let last = length sought - 1 in
    slice_index run at == slice_index sought 0
    && (nat_le (length run) (at + last) || slice_index run (at + last) == slice_index sought last)

-- A search has read the text before `at`. The longest match at its end, of at most `most` units, has length `matched`. The spans found so
-- far, followed by those found from the start of this match on, are all spans.
pub record HasRead (most : ℕ) (kind : Kind) (x sought : List ℕ) (all found : List Span) (at before matched : ℕ) : Type 0 where
  pub within : at ≤ length x
  pub unit : before ≡ unit_before x at
  pub low : ℕ
  pub longest : IsLongest most kind x sought low at matched
  pub goes_on : all ≡ found ++ occurrences_after kind x sought (at - matched)

-- the text has the run at this offset
abbrev pub IsRunAt : List ℕ → ℕ → List ℕ → Type 0
IsRunAt x at run = run ≡ take (length run) (drop at x)
