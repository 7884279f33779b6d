use Rattle.std.proofs.Common.{refl}
use Rattle.paged_list.proofs.Laid.{item_filled, item_read, set_laid, set_shows}
use Rattle.paged_list.proofs.list.PagedList.get_mut.Goals as goal

pub get_mut-requires : goal.get_mut-requires
get_mut-requires g c =
    let slots = c.self.inside.slots in let len = c.self.inside.len in let h = c.self.invariant in let old = c.args.self.now in let is = c.self.view_is in
    item_filled slots len h old is c.args.index c.requires

pub invariant_of-self-lent : goal.invariant_of-self-lent
invariant_of-self-lent g c =
    let slots = c.self.inside.slots in let len = c.self.inside.len in let h = c.self.invariant in let old = c.args.self.now in let is = c.self.view_is in λ w.
    set_laid slots len h old is c.args.index c.requires w

pub returns : goal.returns
returns g c =
    let slots = c.self.inside.slots in let len = c.self.inside.len in let h = c.self.invariant in let old = c.args.self.now in let is = c.self.view_is in
    ((refl, λ w. set_shows slots len h old is c.args.index c.requires w), record { writes_back = tt; value = item_read slots len h old is c.args.index c.requires c.get_mut.result.now c.get_mut.ensures.value })
