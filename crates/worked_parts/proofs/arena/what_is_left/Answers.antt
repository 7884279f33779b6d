use Rattle.std.proofs.Common.{sym, ◌∙◌, ap}
use Rattle.std.specs.Option.{unwrap_or}
use Rattle.raw_arena.proofs.Names.{get-insert_same}
use Rattle.worked_parts.proofs.arena.what_is_left.Goals as goal

pub visit-requires : goal.visit-requires
visit-requires c = (4, get-insert_same c.put_two_take_one-left.new.arena.live c.put_two_take_one-left.result 4)

pub returns : goal.returns
returns c =
    let left = c.put_two_take_one-left in
    (ap (λ o. unwrap_or o 0) (sym c.visit-before.ensures.value ∙ left.ensures.value), ap (λ o. unwrap_or o 0) (sym c.visit.ensures.value ∙ get-insert_same left.new.arena.live left.result 4))
