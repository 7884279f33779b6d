-- The names of a tree's items.
use Rattle.std.specs.Prelude.{ℕ, ◌+◌, ◌≤◌, ◌==◌, List, count_by}

-- the number of items with that name
abbrev pub times_named : {X : Type 0} → ℕ → List (ℕ × X) → ℕ
times_named id items = count_by (λ item. id == item.0) items

-- no name occurs twice, neither in one list nor in both
abbrev pub HaveOwnNames : {X : Type 0} → List (ℕ × X) → List (ℕ × X) → Type 0
HaveOwnNames items loose = (id : ℕ) → times_named id items + times_named id loose ≤ 1
