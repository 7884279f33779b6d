-- Snapshots of a text: each holds the unread rest of the text from the time when it was taken.
use Rattle.std.specs.Prelude.{ℕ, ◌≡◌, ◌+◌, ◌-◌, ◌<◌, ◌≤◌, ◌==◌, ◌||◌, Bool, not, nat_lt, nat_le, if◌then◌else◌, List, [], ◌∷◌, ◌++◌, length, take, drop, map, filter, find, Option, Some, None, option_map, Result, Ok, Err, ⊤}
use Rattle.std.specs.List.{All, list_any}
use Rattle.text_lengths.specs.declared.TheConstants.{GREATEST_NUMBER}
use Rattle.unit_text.specs.Units.{cuts_pair}
use Rattle.snapshot_rules.specs.declared.TheConstants.{MOST_SNAPSHOTS, LEAST_READ}
use Rattle.snapshot_rules.specs.declared.ShelfError.{ShelfError}
use Rattle.snapshot_rules.specs.declared.ShelfError.TheVariants.{Unknown, Range, Limit, Memory}
use Rattle.snapshot_rules.specs.Refusals.{ShelfRefusal, unknown, range, limit}

-- the maximum number of open snapshots
abbrev pub most_snapshots : ℕ
most_snapshots = MOST_SNAPSHOTS

abbrev pub greatest_snapshot : ℕ
greatest_snapshot = GREATEST_NUMBER

-- the minimum number of units per read
abbrev pub least_read : ℕ
least_read = LEAST_READ

-- an open snapshot, with its unread units
pub record Snapshot : Type 0 where
  pub id : ℕ
  pub rest : List ℕ

pub record FlatShelf : Type 0 where
  -- the open snapshots, in the order in which they were taken
  pub snapshots : List Snapshot
  pub next_id : ℕ

abbrev pub empty_shelf : FlatShelf
empty_shelf = record { snapshots = []; next_id = 1 }

abbrev pub has_id : ℕ → Snapshot → Bool
has_id id snapshot = snapshot.id == id

abbrev pub is_open : FlatShelf → ℕ → Bool
is_open shelf id = list_any (has_id id) shelf.snapshots

-- the unread units of the open snapshot with this id
abbrev pub rest_of : FlatShelf → ℕ → Option (List ℕ)
rest_of shelf id = option_map (λ snapshot. snapshot.rest) (find (has_id id) shelf.snapshots)

-- A text is added to the shelf under the next id.
abbrev pub is_full : FlatShelf → Bool
is_full shelf = nat_le most_snapshots (length shelf.snapshots) || nat_lt greatest_snapshot shelf.next_id

abbrev pub flat_take : FlatShelf → List ℕ → Result FlatShelf ShelfRefusal
flat_take shelf units =
    if is_full shelf then Err limit
    else Ok (record {
      snapshots = shelf.snapshots ++ record { id = shelf.next_id; rest = units } ∷ [];
      next_id = shelf.next_id + 1;
    })

-- the prefix that a read of `count` units returns: one unit less if it would cut a pair of surrogates
abbrev pub front : ℕ → List ℕ → List ℕ
front count units = if cuts_pair units count then take (count - 1) units else take count units

abbrev pub front_of : ℕ → Option (List ℕ) → Result (List ℕ) ShelfRefusal
front_of count None = Err unknown
front_of count (Some rest) = if nat_lt count least_read then Err range else Ok (front count rest)

-- the units that a read of `count` units returns; the shelf is unchanged
abbrev pub flat_peek : FlatShelf → ℕ → ℕ → Result (List ℕ) ShelfRefusal
flat_peek shelf id count = front_of count (rest_of shelf id)

-- the shelf after the first n unread units of snapshot `id` were read
abbrev pub skipped : ℕ → ℕ → Snapshot → Snapshot
skipped id n snapshot = if has_id id snapshot then record snapshot { rest = drop n snapshot.rest } else snapshot

abbrev pub flat_skip : FlatShelf → ℕ → ℕ → FlatShelf
flat_skip shelf id n = record shelf { snapshots = map (skipped id n) shelf.snapshots }

abbrev pub flat_close : FlatShelf → ℕ → Result FlatShelf ShelfRefusal
flat_close shelf id =
    if is_open shelf id then Ok (record shelf { snapshots = filter (λ snapshot. not (has_id id snapshot)) shelf.snapshots })
    else Err unknown

-- the ids ascend strictly
abbrev pub IsRising : List Snapshot → Type 0
IsRising [] = ⊤
IsRising (snapshot ∷ more) = All (λ (later : Snapshot). snapshot.id < later.id) more × IsRising more

-- the invariant of a shelf
pub record IsSound (shelf : FlatShelf) : Type 0 where
  pub rising : IsRising shelf.snapshots
  -- each open id is below the next id, so it is not used again
  pub used : All (λ (snapshot : Snapshot). snapshot.id < shelf.next_id) shelf.snapshots
  pub few : length shelf.snapshots ≤ most_snapshots
  pub first : 1 ≤ shelf.next_id
  pub last : shelf.next_id ≤ greatest_snapshot + 1

-- the rule refuses for the reason that the call returns; a call may also fail for lack of memory, whatever the rule
-- gives
abbrev pub RefusedFor : {A : Type 0} → ShelfError → Result A ShelfRefusal → Type 0
RefusedFor Unknown rule = rule ≡ Err unknown
RefusedFor Range rule = rule ≡ Err range
RefusedFor Limit rule = rule ≡ Err limit
RefusedFor Memory rule = ⊤

-- An added text gets the next id. A refused call leaves the shelf unchanged.
abbrev pub Takes : Result ℕ ShelfError → FlatShelf → FlatShelf → Result FlatShelf ShelfRefusal → Type 0
Takes (Ok id) old new rule = (rule ≡ Ok new) × (id ≡ old.next_id)
Takes (Err e) old new rule = (new ≡ old) × RefusedFor e rule

abbrev pub Closes : Result ⊤ ShelfError → FlatShelf → FlatShelf → Result FlatShelf ShelfRefusal → Type 0
Closes (Ok x) old new rule = rule ≡ Ok new
Closes (Err e) old new rule = (new ≡ old) × RefusedFor e rule

-- a read appends the units of the rule; a refused read appends nothing
abbrev pub Peeks : Result ⊤ ShelfError → List ℕ → List ℕ → Result (List ℕ) ShelfRefusal → Type 0
Peeks (Ok x) old new rule = (added : List ℕ) × (rule ≡ Ok added) × (new ≡ old ++ added)
Peeks (Err e) old new rule = (new ≡ old) × RefusedFor e rule
