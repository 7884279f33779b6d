use Rattle.std.proofs.Common.{ap, ◌∙◌, refl}
use Rattle.std.specs.FinMap as map
use Rattle.raw_arena.specs.Arena.{nodes}
use Rattle.raw_arena.proofs.Kept.{found, rewritten, lent}
use Rattle.raw_arena.proofs.arena.Arena.visit_mut.Goals as goal

pub get_mut-requires : goal.get_mut-requires
get_mut-requires g c =
    let a = c.self.inside in let n = c.slot.result in let is = ap (λ m. m.live) c.self.view_is in
    let at = found a.slots.items a.free.items c.args.self.now.live c.args.id n c.requires.0 is c.slot.ensures c.requires.1 in
    at.0

pub invariant_of-self-lent : goal.invariant_of-self-lent
invariant_of-self-lent g c =
    let a = c.self.inside in let n = c.slot.result in let is = ap (λ m. m.live) c.self.view_is in
    let at = found a.slots.items a.free.items c.args.self.now.live c.args.id n c.requires.0 is c.slot.ensures c.requires.1 in λ w.
    rewritten a.slots.items a.free.items a.limit a.slots.capacity a.free.capacity c.self.invariant n c.requires.0 w at.1

pub returns : goal.returns
returns g c =
    let a = c.self.inside in let n = c.slot.result in let is = ap (λ m. m.live) c.self.view_is in
    let at = found a.slots.items a.free.items c.args.self.now.live c.args.id n c.requires.0 is c.slot.ensures c.requires.1 in (
      (
        refl,
        λ w. lent a.slots.items a.free.items c.self.invariant.given_back c.slot.result c.requires.0 at.1 w a.limit
            ∙ (λ i. nodes (map.insert (c.self.view_is i).live (c.slot.ensures i) w) (c.self.view_is i).spare),
      ),
      record { writes_back = tt; value = at.2 c.get_mut.result.now c.get_mut.ensures.value; step = c.tick.ensures },
    )
