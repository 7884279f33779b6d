-- The value of an arena from its fields, and their invariant.
use Rattle.std.specs.Prelude.{◌≡◌, ℕ, ◌+◌, ◌-◌, ◌^◌, ◌<◌, ◌≤◌, ◌==◌, Bool, not, List, length}
use Rattle.std.specs.List.{All, IsDistinct, enumerate_from, list_any}
use Rattle.std.specs.Ordering.{nat_cmp}
use Rattle.std.specs.FinMap as map
use Rattle.raw_arena.specs.Arena.{Nodes, nodes}
use Rattle.raw_arena.specs.declared.arena.Arena.TheInside.{Inside}

-- the slot n is in the list of free slots
abbrev pub is_free : List ℕ → ℕ → Bool
is_free free n = list_any (λ m. n == m) free

module _ {X : Type 0} where
  -- the values of all slots that are not free; the name of a value is the number of its slot
  unfoldable pub live_of : List X → List ℕ → map.FinMap nat_cmp X
  live_of slots free = map.retain_keys (map.from_entries (enumerate_from 0 slots)) (λ n. not (is_free free n))

  -- the free slots are distinct and in range, and all others are live
  pub record AreFree (slots : List X) (free : List ℕ) : Type 0 where
    pub within : All (λ n. n < length slots) free
    pub distinct : IsDistinct ◌==◌ free
    pub others : map.len (live_of slots free) + length free ≡ length slots

  -- at most `limit` slots are in use, fewer than 2 ^ 32, and both lists have room for `limit` entries
  pub record IsArena (slots : List X) (free : List ℕ) (limit : ℕ) (slots_room : ℕ) (free_room : ℕ) : Type 0 where
    pub given_back : AreFree slots free
    pub few : (length slots ≤ limit) × (limit < 2 ^ 32)
    pub room : (limit ≤ slots_room) × (limit ≤ free_room)

  abbrev pub value : Inside X → Nodes X
  value a = nodes (live_of a.slots.items a.free.items) (length a.free.items + (a.limit - length a.slots.items))

  abbrev pub fields_hold : Inside X → Type 0
  fields_hold a = IsArena a.slots.items a.free.items a.limit a.slots.capacity a.free.capacity
