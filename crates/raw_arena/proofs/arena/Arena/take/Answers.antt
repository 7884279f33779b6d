use Rattle.std.proofs.Common.{◌∷◌, [], ap, ◌∙◌, arith}
use Rattle.std.specs.FinMap as map
use Rattle.std.proofs.Math.ListN.{length-append}
use Rattle.raw_arena.proofs.Kept.{found, has_room, taken}
use Rattle.raw_arena.proofs.Names.{live_taken}
use Rattle.raw_arena.proofs.arena.Arena.take.Goals as goal

pub push-requires : goal.push-requires
push-requires g c =
    let a = c.self.inside in let n = c.slot-slot.result in let is = ap (λ m. m.live) c.self.view_is in
    let at = found a.slots.items a.free.items c.args.self.now.live c.args.id n c.requires.0 is c.slot-slot.ensures c.requires.1 in
    has_room a.slots.items a.free.items a.limit a.slots.capacity a.free.capacity c.self.invariant n c.requires.0 at.1

pub get-requires : goal.get-requires
get-requires g c =
    let a = c.self.inside in let n = c.slot-slot.result in let is = ap (λ m. m.live) c.self.view_is in
    let at = found a.slots.items a.free.items c.args.self.now.live c.args.id n c.requires.0 is c.slot-slot.ensures c.requires.1 in
    at.0

pub invariant_of-self : goal.invariant_of-self
invariant_of-self g c =
    let a = c.self.inside in let n = c.slot-slot.result in let is = ap (λ m. m.live) c.self.view_is in
    let at = found a.slots.items a.free.items c.args.self.now.live c.args.id n c.requires.0 is c.slot-slot.ensures c.requires.1 in
    rw c.push.ensures (taken a.slots.items a.free.items a.limit a.slots.capacity a.free.capacity c.self.invariant n c.requires.0 at.1)

pub returns-clause-value : goal.returns-clause-value
returns-clause-value g c =
    let a = c.self.inside in let n = c.slot-slot.result in let is = ap (λ m. m.live) c.self.view_is in
    let at = found a.slots.items a.free.items c.args.self.now.live c.args.id n c.requires.0 is c.slot-slot.ensures c.requires.1 in
    at.2 c.get.result.now c.get.ensures

pub returns-clause-live : goal.returns-clause-live
returns-clause-live g c =
    let a = c.self.inside in
    rw c.push.ensures (live_taken a.slots.items a.free.items c.slot-slot.result ∙ (λ i. map.remove (c.self.view_is i).live (c.slot-slot.ensures i)))

pub returns-clause-spare : goal.returns-clause-spare
returns-clause-spare g c =
    let more = length-append c.self.inside.free.items (c.slot-slot.result ∷ []) in let old = ap (λ m. m.spare) c.self.view_is in rw c.push.ensures (omega (arith, more, old))
