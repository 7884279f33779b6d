-- The snapshots of a model.
use Rattle.std.specs.Prelude.{ℕ, List}
use Rattle.snapshot_rules.specs.Snapshots.{IsSound}
use Rattle.snapshots.specs.Shown.{Shown, shown, LieIn}

-- their spans are within the buffers of the text, and their ids differ
pub record IsShelf (buffers : List (List ℕ)) (shelf : Shown) : Type 0 where
  pub inside : LieIn buffers shelf
  pub sound : IsSound (shown buffers shelf)
