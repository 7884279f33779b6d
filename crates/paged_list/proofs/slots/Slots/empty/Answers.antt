use Rattle.paged_list.proofs.Pages.{filled_fits, filled_page, filled_at}
use Rattle.paged_list.proofs.slots.Slots.empty.Goals as goal

pub spot_of-spot-requires : goal.spot_of-spot-requires
spot_of-spot-requires g c = filled_fits c.self.inside.pages.items c.self.invariant c.args.self.now c.self.view_is c.args.index c.requires

pub index_mut-requires : goal.index_mut-requires
index_mut-requires g c =
    let spot = c.spot_of-spot.result in
    rw c.self.inside.pages.ok.0 (filled_page c.self.inside.pages.items c.self.invariant c.args.self.now c.self.view_is c.args.index c.requires spot.page spot.place c.spot_of-spot.ensures)

pub empty-requires : goal.empty-requires
empty-requires g c =
    let spot = c.spot_of-spot.result in
    filled_at c.self.inside.pages.items c.self.invariant c.args.self.now c.self.view_is c.args.index c.requires spot.page spot.place c.spot_of-spot.ensures c.index_mut.result.now c.index_mut.ensures.value
