-- The known contents of std's writers.
use Rattle.std.specs.Prelude.{◌≡◌, ℕ, List, take, Option, is_some, Result, Ok, Err}
use Rattle.script_streams.specs.Streams.{StartsWith, Took}

-- the contents of a writer are known at all times, or never
abbrev pub TellsAlwaysOrNever : {W : Type 0} → (W → Option (List ℕ)) → Type 0
TellsAlwaysOrNever {W} contents = (old new : W) → is_some (contents old) ≡ is_some (contents new)

-- a writer took the n bytes of the piece that it reports, or at an error a prefix of the piece, which may be empty
abbrev pub TakesFront : {E : Type 0} → Result ℕ E → Option (List ℕ) → Option (List ℕ) → List ℕ → Type 0
TakesFront (Ok n) old new piece = Took old new (take n piece)
TakesFront (Err error) old new piece = (front : List ℕ) × StartsWith piece front × Took old new front
