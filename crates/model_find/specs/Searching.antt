-- The state of a search, and its steps.
use Rattle.std.specs.Prelude.{ℕ, ◌≡◌, ◌-◌, ◌<◌, List, length, slice_index}
use Rattle.text_lengths.specs.declared.Span.{Span}
use Rattle.model_find.specs.declared.search.Search.{Search}
use Rattle.model_find.specs.Matching.{HasRead, IsRunAt}

-- both searches have the same sought units, border table and kind of text
pub record IsSame (s t : Search) : Type 0 where
  pub kind : s.kind ≡ t.kind
  pub sought : s.sought ≡ t.sought
  pub borders : s.borders ≡ t.borders

-- the search has read the text before `s.at` and found `found`; `all` are the spans of the whole text
abbrev pub StandsIn : List ℕ → List Span → List Span → Search → Type 0
StandsIn x all found s = HasRead (length s.sought.now) s.kind x s.sought.now all found s.at s.before s.matched

-- the same for the longest match of fewer than all sought units, which the next unit can extend
abbrev pub GoesOnIn : List ℕ → List Span → List Span → Search → Type 0
GoesOnIn x all found s = HasRead (length s.sought.now - 1) s.kind x s.sought.now all found s.at s.before s.matched

-- ---- steps from one state, with the spans found, to another

-- the run is read
abbrev pub ReadsRun : List ℕ → Search → List Span → Search → List Span → Type 0
ReadsRun run s before t after =
    (x : List ℕ) (all : List Span) → StandsIn x all before s → IsRunAt x s.at run → StandsIn x all after t

-- some units of the run, which was read up to `from`, are skipped
abbrev pub PassesOver : List ℕ → ℕ → Search → Search → Type 0
PassesOver run from s t =
    (x : List ℕ) (all found : List Span) → StandsIn x all found s → IsRunAt x (s.at - from) run → StandsIn x all found t

-- the unit is the next one of the text
abbrev pub ComesNext : List ℕ → Search → ℕ → Type 0
ComesNext x s unit = (s.at < length x) × (unit ≡ slice_index x s.at)

-- the unit is read
abbrev pub ReadsUnit : ℕ → Search → List Span → Search → List Span → Type 0
ReadsUnit unit s before t after =
    (x : List ℕ) (all : List Span) → StandsIn x all before s → ComesNext x s unit → StandsIn x all after t

-- a full match before the unit is found or rejected
abbrev pub SettlesBefore : ℕ → Search → List Span → Search → List Span → Type 0
SettlesBefore unit s before t after =
    (x : List ℕ) (all : List Span) → StandsIn x all before s → ComesNext x s unit → GoesOnIn x all after t
