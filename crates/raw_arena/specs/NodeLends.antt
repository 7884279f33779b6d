-- The state of an arena after a `&mut` into it has ended.
use Rattle.std.specs.Prelude.{ℕ}
use Rattle.std.specs.Borrow.{Fml, RattleType, MutBor, Lends}
use Rattle.std.specs.FinMap as map
use Rattle.raw_arena.specs.Arena.{Nodes, nodes}
use Rattle.raw_arena.specs.contracts.arena.Arena.{the_row}

-- the value with that name is the last one written through r
abbrev pub lends_node : (R : RattleType) → MutBor (Nodes R.Denot) → ℕ → MutBor R.Denot → Fml
lends_node R a id r = Lends (the_row R) R a r (λ w. nodes (map.insert a.now.live id w) a.now.spare)
