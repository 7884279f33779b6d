use Rattle.paged_list.proofs.Laid.{item_filled, item_read}
use Rattle.paged_list.proofs.list.PagedList.get.Goals as goal

pub get-requires : goal.get-requires
get-requires g c =
    let slots = c.self.inside.slots in let len = c.self.inside.len in let h = c.self.invariant in let old = c.args.self.now in let is = c.self.view_is in
    item_filled slots len h old is c.args.index c.requires

pub returns : goal.returns
returns g c =
    let slots = c.self.inside.slots in let len = c.self.inside.len in let h = c.self.invariant in let old = c.args.self.now in let is = c.self.view_is in
    item_read slots len h old is c.args.index c.requires c.get.result.now c.get.ensures
