use Rattle.paged_list.proofs.Pages.{page_at, place_at}
use Rattle.paged_list.proofs.slots.Slots.fill.Goals as goal

pub index_mut-requires : goal.index_mut-requires
index_mut-requires g c =
    let spot = c.spot_of-spot.result in
    rw c.self.inside.pages.ok.0 (page_at c.self.inside.pages.items c.self.invariant c.args.self.now c.self.view_is c.args.index c.requires.within spot.page spot.place c.spot_of-spot.ensures)

pub fill-requires-clause-within : goal.fill-requires-clause-within
fill-requires-clause-within g c =
    let spot = c.spot_of-spot.result in
    place_at c.self.inside.pages.items c.self.invariant c.args.self.now c.self.view_is c.args.index c.requires.within spot.page spot.place c.spot_of-spot.ensures c.index_mut.result.now c.index_mut.ensures.value
