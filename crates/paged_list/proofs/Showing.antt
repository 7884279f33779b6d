-- A `&` to a block is made of a borrow of it: slot by slot, of the rows that the definitions speak of. Assumes `Logic`.
use Rattle.std.proofs.Common.{ℕ, ◌+◌, List, [], ◌∷◌, length, Option, Some, None}
use Rattle.std.specs.Mem.{type_size}
use seplogic.Ra.Ura.{Ura}
use base.Fml.{Fml, Incl, Lft, ffalse, fsep}
use types.Logic.{Logic}
use denote.Param.Laws.{Laws}
use denote.RattleType.{RattleType}
use denote.RawPtr.{Ptr, block_ptr, null_ptr}
use denote.Shares.{Shares-less}
use denote.Sharing.{ShrLaws, said}
use denote.SharingLaws.{beside_shr_laws, nothing_shr_laws, said_shr_laws}
use denote.Struct.Lending.{Lends, Lends-both, Lends-false, Lends-first, Lends-nothing, Lends-said}
use mir.Syntax.{Ty, ty_array}
use mir.Raw.{raw}
use denote.Memory.{lone}
use Rattle.paged_list.specs.Slots.{in_a_row, seen_in_a_row, slot_owned, slot_seen, few_bytes, block_owned, block_seen}

-- a row, from a fact about each of its items
module _ {X : Type 0} (s : ℕ) (seen : X → ℕ → Lft → Fml) where
  row_shows : ((x : X) (n : ℕ) → ShrLaws (seen x n)) → (xs : List X) (n : ℕ) → ShrLaws (seen_in_a_row s seen xs n)
  row_shows each [] n = nothing_shr_laws
  row_shows each (x ∷ xs) n = beside_shr_laws (seen x n) (seen_in_a_row s seen xs (n + s)) (each x n) (row_shows each xs (n + s))

  module _ {M : Type 1} {𝓤 : Ura M} (𝓛 : Logic 𝓤) (life : Lft) (owned : X → ℕ → Fml) (each : (x : X) (n : ℕ) → Lends 𝓛 (owned x n) (seen x n) life) where
    row_lends : (xs : List X) (n : ℕ) → Lends 𝓛 (in_a_row s owned xs n) (seen_in_a_row s seen xs n) life
    row_lends [] n = Lends-nothing 𝓛 (in_a_row s owned [] n) life
    row_lends (x ∷ xs) n = Lends-both 𝓛 (owned x n) (in_a_row s owned xs (n + s)) (seen x n) (seen_in_a_row s seen xs (n + s)) life (each x n) (row_lends xs (n + s))

module _ (R : RattleType) (L : Laws R) where
  one_shows : (b : ℕ) (c : Option R.Denot) (n : ℕ) → ShrLaws (slot_seen R b c n)
  one_shows b None n = nothing_shr_laws
  one_shows b (Some x) n = L.shr_laws x b n

  pub shows_block : (p : Ptr) (cs : List (Option R.Denot)) → ShrLaws (block_seen R p cs)
  shows_block null_ptr cs = said_shr_laws ffalse tt
  shows_block (block_ptr b n) cs =
      beside_shr_laws (seen_in_a_row (type_size R) (slot_seen R b) cs n) (said (few_bytes R cs)) (row_shows (type_size R) (slot_seen R b) (one_shows b) cs n) (said_shr_laws (few_bytes R cs) tt)

  module _ {M : Type 1} {𝓤 : Ura M} (𝓛 : Logic 𝓤) (life : Lft) (short : Incl life R.lives) where
    one_lends : (b : ℕ) (c : Option R.Denot) (n : ℕ) → Lends 𝓛 (slot_owned R b c n) (slot_seen R b c n) life
    one_lends b None n = Lends-nothing 𝓛 (slot_owned R b None n) life
    one_lends b (Some x) n = λ κ tokens. Shares-less 𝓛 R R.lives life short (L.shares 𝓛) x κ tokens b n

    pub lends_block : (frees : Ty → Ptr → Fml) (p : Ptr) (cs : List (Option R.Denot)) → Lends 𝓛 (block_owned R frees p cs) (block_seen R p cs) life
    lends_block frees null_ptr cs = Lends-false 𝓛 (said ffalse) life
    lends_block frees (block_ptr b n) cs =
        let right : Fml = frees (raw (ty_array (lone R.mir) (length cs))) (block_ptr b n) in
        Lends-both 𝓛 (in_a_row (type_size R) (slot_owned R b) cs n) (fsep (few_bytes R cs) right) (seen_in_a_row (type_size R) (slot_seen R b) cs n) (said (few_bytes R cs)) life
        (row_lends (type_size R) (slot_seen R b) 𝓛 life (slot_owned R b) (one_lends b) cs n)
        (Lends-first 𝓛 (few_bytes R cs) right (said (few_bytes R cs)) life (Lends-said 𝓛 (few_bytes R cs) tt life))
