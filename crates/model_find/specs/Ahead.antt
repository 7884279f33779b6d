-- The known candidate offsets of a run.
use Rattle.std.specs.Prelude.{ℕ, ◌≡◌, ◌+◌, ◌^◌, ◌<◌, ◌≤◌, List, length}
use Rattle.std.specs.Int.{bit_at, from_bool}
use Rattle.model_find.specs.declared.starts.Starts.{Starts}
use Rattle.model_find.specs.Matching.{may_begin}

-- bit k of the marks, for k below `known`, says whether the sought units may begin at `at + k`; no other bit is set
pub record KnowsStarts (run sought : List ℕ) (starts : Starts) : Type 0 where
  pub within : starts.at + starts.known ≤ length run
  pub few : starts.known ≤ 32
  pub lowest : starts.marks < 2 ^ starts.known
  pub tells : (k : ℕ) → k < starts.known → bit_at starts.marks k ≡ from_bool (may_begin run sought (starts.at + k))
