-- The value of a list in pages in a contract, and its layout in slots.
use Rattle.std.specs.Prelude.{◌≡◌, ℕ, ◌-◌, ◌^◌, ◌<◌, List, [], ◌∷◌, Option, Some, None, length, replicate, refl}
use Rattle.std.specs.Coded.{Coded, code_by, coded×, coded_list, coded_ℕ}

-- the items, and the number of items for which there is room
pub record Paged (X : Type 0) : Type 0 where
  pub items : List X
  pub capacity : ℕ

module _ {X : Type 0} where
  abbrev pub paged : List X → ℕ → Paged X
  paged items capacity = record { items = items; capacity = capacity }

  abbrev pub paged_code : Coded X → Coded (Paged X)
  paged_code c = code_by (List X × ℕ) (coded× (coded_list c) coded_ℕ) (λ a. (a.items, a.capacity)) (λ p. paged p.0 p.1) (λ _. refl)

  -- the values of the slots that hold one
  abbrev pub values : List (Option X) → List X
  values [] = []
  values (None ∷ slots) = values slots
  values (Some x ∷ slots) = x ∷ values slots

  -- the items in the first slots, followed by n empty slots
  abbrev pub laid : List X → ℕ → List (Option X)
  laid [] n = replicate n None
  laid (x ∷ items) n = Some x ∷ laid items n

  -- no empty slot is in front of a value, and `len` slots hold a value
  pub record IsLaid (slots : List (Option X)) (len : ℕ) : Type 0 where
    pub count : length (values slots) ≡ len
    pub ordered : laid (values slots) (length slots - len) ≡ slots
    pub few : length slots < 2 ^ 32
