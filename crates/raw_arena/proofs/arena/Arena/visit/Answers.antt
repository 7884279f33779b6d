use Rattle.std.proofs.Common.{ap}
use Rattle.raw_arena.proofs.Kept.{found}
use Rattle.raw_arena.proofs.arena.Arena.visit.Goals as goal

pub get-requires : goal.get-requires
get-requires g c =
    let a = c.self.inside in let n = c.slot.result in let is = ap (λ m. m.live) c.self.view_is in
    let at = found a.slots.items a.free.items c.args.self.now.live c.args.id n c.requires.0 is c.slot.ensures c.requires.1 in
    at.0

pub returns-clause-value : goal.returns-clause-value
returns-clause-value g c =
    let a = c.self.inside in let n = c.slot.result in let is = ap (λ m. m.live) c.self.view_is in
    let at = found a.slots.items a.free.items c.args.self.now.live c.args.id n c.requires.0 is c.slot.ensures c.requires.1 in
    at.2 c.get.result.now c.get.ensures
