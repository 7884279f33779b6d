-- The map from ids to nodes.
use Rattle.std.specs.Prelude.{ℕ, ◌≡◌, ◌<◌, ◌≤◌, ◌==◌, Bool, List, [], ◌∷◌, length, Option, None, is_some, if◌then◌else◌}
use Rattle.std.specs.List.{AllPairs, AllWithin, HoldsAt}
use Rattle.interval_deltas.specs.declared.names.Entry.{Entry}

-- what a contract sees: the entries in order of id, and the number of further ids for which there is room
pub record Named : Type 0 where
  pub entries : List Entry
  pub spare : ℕ

abbrev pub entry_of : ℕ → Option ℕ → Entry
entry_of id node = record { id = id; node = node }

abbrev pub node_of : List Entry → ℕ → Option ℕ
node_of [] id = None
node_of (entry ∷ entries) id = if id == entry.id then entry.node else node_of entries id

-- the id has this node now, or none; the nodes of all other ids are unchanged
abbrev pub HasNode : List Entry → List Entry → ℕ → Option ℕ → Type 0
HasNode old new id node = (other : ℕ) → node_of new other ≡ (if other == id then node else node_of old other)

-- the ids increase strictly
abbrev pub IsById : List Entry → Type 0
IsById entries = AllPairs (λ a b. a.id < b.id) entries

-- the entry at the index has the id
abbrev pub StandsAt : List Entry → ℕ → ℕ → Type 0
StandsAt entries id at = (at < length entries) × HoldsAt (λ entry. entry.id ≡ id) entries at

-- the entries before the index have lower ids, and those from there on have greater ones
abbrev pub BelongsAt : List Entry → ℕ → ℕ → Type 0
BelongsAt entries id at =
    (at ≤ length entries) × AllWithin (λ entry. entry.id < id) entries 0 at × AllWithin (λ entry. id < entry.id) entries at (length entries)

abbrev pub is_named : Entry → Bool
is_named entry = is_some entry.node
