use Rattle.std.proofs.Common.{◌<◌, length, ap, arith}
use Rattle.paged_list.proofs.Laid.{next_empty, pushed_laid, pushed_shows}
use Rattle.paged_list.proofs.list.PagedList.push.Goals as goal

pub fill-requires-clause-empty : goal.fill-requires-clause-empty
fill-requires-clause-empty g c =
    next_empty c.self.inside.slots c.self.inside.len c.self.invariant

pub overflow_add-self : goal.overflow_add-self
overflow_add-self g c =
    let slots = c.self.inside.slots in let len = c.self.inside.len in let h = c.self.invariant in let old = c.args.self.now in let is = c.self.view_is in
    let room = c.requires in let more = ap (λ a. a.capacity) is in let count = h.count in let same = ap (λ a. length a.items) is in let lt : len < length slots = omega (arith, room, more, count, same) in
    let few = h.few in omega (arith, lt, few)

pub invariant_of-self : goal.invariant_of-self
invariant_of-self g c =
    let slots = c.self.inside.slots in let len = c.self.inside.len in let h = c.self.invariant in let old = c.args.self.now in let is = c.self.view_is in
    let room = c.requires in let more = ap (λ a. a.capacity) is in let count = h.count in let same = ap (λ a. length a.items) is in let lt : len < length slots = omega (arith, room, more, count, same) in
    pushed_laid slots len h c.args.item c.fill.new.self c.fill.ensures lt

pub returns : goal.returns
returns g c =
    let slots = c.self.inside.slots in let len = c.self.inside.len in let h = c.self.invariant in let old = c.args.self.now in let is = c.self.view_is in
    let room = c.requires in let more = ap (λ a. a.capacity) is in let count = h.count in let same = ap (λ a. length a.items) is in let lt : len < length slots = omega (arith, room, more, count, same) in
    pushed_shows slots len h c.args.item c.fill.new.self c.fill.ensures lt old is
