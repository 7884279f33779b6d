-- Pages of slots. The first has one slot, each further page twice as many as the one before.
use Rattle.std.specs.Prelude.{◌≡◌, ℕ, ◌+◌, ◌^◌, ◌<◌, ◌≤◌, List, [], ◌∷◌, ◌++◌, Option, length, get_or}

-- slot n is at the place `place` of the page `page`; the pages before have 2 ^ page - 1 slots
abbrev pub IsSpot : ℕ → ℕ → ℕ → Type 0
IsSpot n page place = (2 ^ page + place ≡ n + 1) × (place < 2 ^ page)

module _ {X : Type 0} where
  -- the slots of the pages, one after another
  abbrev pub row : List (List (Option X)) → List (Option X)
  row [] = []
  row (page ∷ pages) = page ++ row pages

  abbrev pub AllDouble : List (List (Option X)) → Type 0
  AllDouble pages = (i : ℕ) → i < length pages → length (get_or pages i []) ≡ 2 ^ i

  -- at most 32 pages, so that the number of a slot plus one fits into 32 bits
  pub record ArePages (pages : List (List (Option X))) : Type 0 where
    pub double : AllDouble pages
    pub few : length pages ≤ 32
