use Rattle.std.proofs.Common.{◌<◌, sym, subst, ap, ◌∙◌}
use Rattle.raw_arena.proofs.Kept.{refilled, refilled_name, refilled_is, pushed, pushed_name, pushed_is, few_names}
use Rattle.raw_arena.proofs.arena.Arena.put.Goals as goal

pub invariant_of-self : goal.invariant_of-self
invariant_of-self g c =
    let a = c.self.inside in
    rw c.set.ensures (rw c.in-Some.ensures.capacity (refilled a.slots.items a.free.items a.limit a.slots.capacity a.free.capacity c.self.invariant c.pop.new.self.items c.in-Some.slot c.in-Some.ensures.items c.args.item))

pub returns-in-Some-clause-new_name : goal.returns-in-Some-clause-new_name
returns-in-Some-clause-new_name g c =
    let a = c.self.inside in
    rw c.new.ensures (rw (← ap (λ m. m.live) c.self.view_is) (refilled_name a.slots.items a.free.items a.limit a.slots.capacity a.free.capacity c.self.invariant c.pop.new.self.items c.in-Some.slot c.in-Some.ensures.items))

pub returns-in-Some-clause-live : goal.returns-in-Some-clause-live
returns-in-Some-clause-live g c =
    let a = c.self.inside in
    rw c.new.ensures (rw (← ap (λ m. m.live) c.self.view_is) (rw c.set.ensures (refilled_is a.slots.items a.free.items a.limit a.slots.capacity a.free.capacity c.self.invariant c.pop.new.self.items c.in-Some.slot c.in-Some.ensures.items c.args.item)))

pub returns-in-Some-clause-few : goal.returns-in-Some-clause-few
returns-in-Some-clause-few g c =
    let a = c.self.inside in
    few_names c.set.new.self.items c.pop.new.self.items a.limit c.set.new.self.capacity c.pop.new.self.capacity (invariant_of-self g c)

pub invariant_of-self-2 : goal.invariant_of-self-2
invariant_of-self-2 g c =
    let a = c.self.inside in
    let room = subst (λ k. 0 < k) (sym (ap (λ m. m.spare) c.self.view_is)) c.requires in
    rw c.push.ensures (rw c.in_default.ensures.capacity (pushed a.slots.items a.free.items a.limit a.slots.capacity a.free.capacity c.self.invariant c.pop.new.self.items c.in_default.ensures.variant c.in_default.ensures.items c.args.item room))

pub returns-clause-new_name : goal.returns-clause-new_name
returns-clause-new_name g c =
    let a = c.self.inside in
    rw (c.new-2.ensures ∙ c.len-slot.ensures.value) (rw (← ap (λ m. m.live) c.self.view_is) (pushed_name a.slots.items a.free.items a.limit a.slots.capacity a.free.capacity c.self.invariant c.pop.new.self.items c.in_default.ensures.variant c.in_default.ensures.items))

pub returns-clause-live : goal.returns-clause-live
returns-clause-live g c =
    let a = c.self.inside in
    rw (c.new-2.ensures ∙ c.len-slot.ensures.value) (rw (← ap (λ m. m.live) c.self.view_is) (rw c.push.ensures (pushed_is a.slots.items a.free.items a.limit a.slots.capacity a.free.capacity c.self.invariant c.pop.new.self.items c.in_default.ensures.variant c.in_default.ensures.items c.args.item)))

pub returns-clause-few : goal.returns-clause-few
returns-clause-few g c =
    let a = c.self.inside in
    few_names c.push.new.self.items c.pop.new.self.items a.limit c.push.new.self.capacity c.pop.new.self.capacity (invariant_of-self-2 g c)
