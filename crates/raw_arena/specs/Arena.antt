-- The value of an arena in a contract.
use Rattle.std.specs.Prelude.{◌≡◌, ℕ, Option, Some, refl}
use Rattle.std.specs.Coded.{Coded, code_by, coded×, coded_ℕ}
use Rattle.std.specs.Ordering.{nat_cmp}
use Rattle.std.specs.FinMap as map

-- the live values by name, and the number of further values for which there is room
pub record Nodes (X : Type 0) : Type 0 where
  pub live : map.FinMap nat_cmp X
  pub spare : ℕ

module _ {X : Type 0} where
  abbrev pub nodes : map.FinMap nat_cmp X → ℕ → Nodes X
  nodes live spare = record { live = live; spare = spare }

  abbrev pub nodes_code : Coded X → Coded (Nodes X)
  nodes_code c =
      code_by (map.FinMap nat_cmp X × ℕ) (coded× (map.code coded_ℕ c) coded_ℕ) (λ a. (a.live, a.spare)) (λ p. nodes p.0 p.1) (λ _. refl)

  -- the value of that name, if it is live
  abbrev pub node : Nodes X → ℕ → Option X
  node a id = map.get a.live id

  -- there is a live value with that name
  abbrev pub IsLive : Nodes X → ℕ → Type 0
  IsLive a id = (x : X) × (node a id ≡ Some x)
