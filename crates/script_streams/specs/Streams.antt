-- The state, in contracts, of the source of a script and of the sink of its replies, and the effect of a call on it.
use Rattle.std.specs.Prelude.{◌≡◌, ℕ, ◌+◌, ◌-◌, ◌^◌, ◌%◌, ◌<◌, ◌≤◌, ◌⊎◌, min, List, [], ◌++◌, length, take, sum, Bool, false, ◌&&◌, ◌==◌, nat_lt, Option, Some, None, Result, Ok, Err, ⊤}
use Rattle.script_streams.specs.declared.Failed.{Failed}

pub record SourceState : Type 0 where
  -- the bytes left, if known
  pub left : Option (List ℕ)
  -- the number of bytes read, which stops at the greatest number of 64 bits
  pub given : ℕ
  -- whether the last read reported the end
  pub ended : Bool
  -- the number of failed reads, which stops likewise
  pub faults : ℕ

-- the number of bytes that a sink took, and their sum, both modulo 2^32
pub record Tally : Type 0 where
  pub count : ℕ
  pub sum : ℕ

pub record SinkState : Type 0 where
  -- the bytes that the sink took, if known
  pub taken : Option (List ℕ)
  -- known bytes stay known as long as they are at most this many
  pub room : ℕ
  -- the number of failed writes, which stops at the greatest number of 64 bits
  pub faults : ℕ
  -- the tally of the bytes that the sink took, if it keeps one
  pub tally : Option Tally

abbrev pub greatest_count : ℕ
greatest_count = 2 ^ 64 - 1

-- the count increased, or is at its greatest value
abbrev pub Rose : ℕ → ℕ → Type 0
Rose old new = (old < new) ⊎ (new ≡ greatest_count)

-- these bytes were removed from the front of the bytes left, if these were known
abbrev pub Gave : Option (List ℕ) → Option (List ℕ) → List ℕ → Type 0
Gave None after bytes = ⊤
Gave (Some before) None bytes = ⊥
Gave (Some before) (Some after) bytes = before ≡ bytes ++ after

-- no bytes are left, if these are known
abbrev pub NothingLeft : Option (List ℕ) → Type 0
NothingLeft None = ⊤
NothingLeft (Some left) = left ≡ []

-- these bytes were appended to the bytes taken, if these are known afterwards
abbrev pub Took : Option (List ℕ) → Option (List ℕ) → List ℕ → Type 0
Took before None bytes = ⊤
Took None (Some after) bytes = ⊥
Took (Some before) (Some after) bytes = after ≡ before ++ bytes

-- both numbers of a tally are below 2^32
pub record IsTally (tally : Tally) : Type 0 where
  pub count : tally.count < 2 ^ 32
  pub sum : tally.sum < 2 ^ 32

-- the tally after these further bytes
abbrev pub tally_after : Tally → List ℕ → Tally
tally_after before bytes =
    record { count = (before.count + length bytes) % 2 ^ 32; sum = (before.sum + sum bytes) % 2 ^ 32 }

-- a sink took these bytes
pub record Wrote (old new : SinkState) (bytes : List ℕ) : Type 0 where
  -- they were appended to the bytes taken, if these are known afterwards
  pub took : Took old.taken new.taken bytes
  -- known bytes stay known if there is room for them
  pub told : (before : List ℕ) → old.taken ≡ Some before → length before + length bytes ≤ old.room
      → new.taken ≡ Some (before ++ bytes)
  pub room : new.room ≡ old.room
  -- a tally becomes the one after these bytes
  pub tally : (before : Tally) → old.tally ≡ Some before → IsTally before
      → new.tally ≡ Some (tally_after before bytes)

abbrev pub StartsWith : List ℕ → List ℕ → Type 0
StartsWith bytes front = (rest : List ℕ) × (bytes ≡ front ++ rest)

-- a read returned the first n bytes of the buffer
pub record Given (n : ℕ) (old new : SourceState) (buf : List ℕ) : Type 0 where
  pub within : n ≤ length buf
  pub bytes : Gave old.left new.left (take n buf)
  pub given : new.given ≡ min (old.given + n) greatest_count
  -- 0 for a non-empty buffer reports the end, and is possible only if nothing is left
  pub ended : new.ended ≡ (n == 0 && nat_lt 0 (length buf))
  pub nothing_left : n ≡ 0 → 0 < length buf → NothingLeft new.left
  pub faults : new.faults ≡ old.faults

-- a read failed, and consumed nothing
pub record NotGiven (old new : SourceState) : Type 0 where
  pub left : new.left ≡ old.left
  pub given : new.given ≡ old.given
  pub ended : new.ended ≡ false
  pub faults : Rose old.faults new.faults

abbrev pub Reads : Result ℕ Failed → SourceState → SourceState → List ℕ → Type 0
Reads (Ok n) old new buf = Given n old new buf
Reads (Err failed) old new buf = NotGiven old new

-- a write took the first n bytes of the piece; 0 for a non-empty piece is a fault
pub record Taken (n : ℕ) (old new : SinkState) (piece : List ℕ) : Type 0 where
  pub within : n ≤ length piece
  pub wrote : Wrote old new (take n piece)
  pub nothing : n ≡ 0 → 0 < length piece → Rose old.faults new.faults
  pub something : 0 < n → new.faults ≡ old.faults
  pub nothing_asked : length piece ≡ 0 → new.faults ≡ old.faults

-- a write failed, and took a prefix of the piece, which may be empty
pub record Cut (old new : SinkState) (piece : List ℕ) : Type 0 where
  pub front : List ℕ
  pub starts : StartsWith piece front
  pub wrote : Wrote old new front
  pub faults : Rose old.faults new.faults

abbrev pub Writes : Result ℕ Failed → SinkState → SinkState → List ℕ → Type 0
Writes (Ok n) old new piece = Taken n old new piece
Writes (Err failed) old new piece = Cut old new piece

-- a whole text was written, without a fault
pub record TakenWhole (old new : SinkState) (text : List ℕ) : Type 0 where
  pub wrote : Wrote old new text
  pub faults : new.faults ≡ old.faults

abbrev pub WritesWhole : Result ⊤ Failed → SinkState → SinkState → List ℕ → Type 0
WritesWhole (Ok x) old new text = TakenWhole old new text
WritesWhole (Err failed) old new text = Cut old new text
