-- Adjacent slots in raw memory, each empty or with a value: what they own, and what a `&` to them shows.
use Rattle.std.specs.Prelude.{◌≡◌, ℕ, ◌+◌, ◌*◌, ◌^◌, List, [], ◌∷◌, length, get_or, Option, Some, None}
use Rattle.std.specs.Mem.{type_size}
use base.Fraction.{full_share}
use base.Fml.{Fml, Lft, ftrue, ffalse, fsep, flt, froom}
use mir.Raw.{raw}
use mir.Syntax.{Ty, ty_array}
use denote.Memory.{lone, part_at, shared_of}
use denote.RattleType.{RattleType}
use denote.RawPtr.{Ptr, block_ptr, null_ptr}
use denote.Sharing.{beside, nothing, said}

-- the slot at the index holds a value
abbrev pub IsFilled : {X : Type 0} → List (Option X) → ℕ → Type 0
IsFilled {X} cs i = (x : X) × (get_or cs i None ≡ Some x)

-- F of each item and its place: the first item is at the place n, each further one s places after the one before
module _ {X : Type 0} (s : ℕ) (F : X → ℕ → Fml) where
  abbrev pub in_a_row : List X → ℕ → Fml
  in_a_row [] n = ftrue
  in_a_row (x ∷ xs) n = fsep (F x n) (in_a_row xs (n + s))

module _ {X : Type 0} (s : ℕ) (F : X → ℕ → Lft → Fml) where
  abbrev pub seen_in_a_row : List X → ℕ → Lft → Fml
  seen_in_a_row [] n = nothing
  seen_in_a_row (x ∷ xs) n = beside (F x n) (seen_in_a_row xs (n + s))

module _ (R : RattleType) where
  -- a slot n bytes into the block b
  abbrev pub slot_owned : ℕ → Option R.Denot → ℕ → Fml
  slot_owned b None n = froom (raw (lone R.mir)) b n
  slot_owned b (Some x) n = part_at R full_share x b n

  abbrev pub slot_seen : ℕ → Option R.Denot → ℕ → Lft → Fml
  slot_seen b None n = nothing
  slot_seen b (Some x) n = shared_of R x b n

  -- the slots together have fewer than 2 ^ 63 bytes
  abbrev pub few_bytes : List (Option R.Denot) → Fml
  few_bytes cs = flt (length cs * type_size R) (2 ^ 63)

  abbrev pub block_owned : (Ty → Ptr → Fml) → Ptr → List (Option R.Denot) → Fml
  block_owned frees null_ptr cs = ffalse
  block_owned frees (block_ptr b n) cs =
      fsep (in_a_row (type_size R) (slot_owned b) cs n)
      (fsep (few_bytes cs) (frees (raw (ty_array (lone R.mir) (length cs))) (block_ptr b n)))

  abbrev pub block_seen : Ptr → List (Option R.Denot) → Lft → Fml
  block_seen null_ptr cs = said ffalse
  block_seen (block_ptr b n) cs = beside (seen_in_a_row (type_size R) (slot_seen b) cs n) (said (few_bytes cs))
