-- How many decorations each owner has.
use Rattle.std.specs.Prelude.{ℕ, ◌≡◌, ◌==◌, ◌-◌, ◌+◌, if◌then◌else◌, List, length, filter, Option, Some, None, unwrap_or, nat_eq}
use Rattle.std.specs.declared.hash.FoldHasher.{FoldHasher}
use Rattle.std.specs.declared.hash.BuildHasherDefault.{BuildHasherDefault}
use Rattle.std.specs.HashMap.{get, HashMap}
use Rattle.decoration_rules.specs.declared.Mark.{Mark}
use Rattle.decoration_rules.specs.Decorations.{is_of}

-- a map from an owner to a number
abbrev pub Counts : Type 0
Counts = HashMap ℕ ℕ (BuildHasherDefault FoldHasher)

-- the number of decorations with this owner
abbrev pub count_of : ℕ → List Mark → ℕ
count_of owner marks = length (filter (is_of (Some owner)) marks)

-- the number of this owner in the map: 0 if the map does not have the owner
abbrev pub count_in : Counts → ℕ → ℕ
count_in counts owner = unwrap_or (get nat_eq counts owner) 0

-- what the map has for a number: nothing for 0
abbrev pub held : ℕ → Option ℕ
held count = if count == 0 then None else Some count

-- The map has the number of decorations of each owner that has some, and it has no other owner.
abbrev pub Tells : Counts → List Mark → Type 0
Tells counts marks = (owner : ℕ) → get nat_eq counts owner ≡ held (count_of owner marks)

-- The owner loses some decorations and gains others; no other owner changes.
abbrev pub Recounts : Counts → Counts → ℕ → ℕ → ℕ → Type 0
Recounts old new owner removed added =
    (other : ℕ) → get nat_eq new other ≡ (if owner == other then held (count_in old owner - removed + added) else get nat_eq old other)
