use Rattle.raw_arena.proofs.Kept.{starts, starts_empty}
use Rattle.raw_arena.proofs.arena.Arena.new.Goals as goal

pub invariant_of-result : goal.invariant_of-result
invariant_of-result g c =
    rw c.new.ensures (rw c.new-2.ensures (starts 0 0))

pub returns : goal.returns
returns g c =
    rw c.new.ensures (rw c.new-2.ensures starts_empty)
