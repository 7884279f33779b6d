use Rattle.std.proofs.Common.{Some, slice_set, refl}
use Rattle.paged_list.proofs.Pages.{filled_within, filled_fits, filled_page, filled_at, filled_is, filled_written, pages_written}
use Rattle.paged_list.proofs.slots.Slots.get_mut.Goals as goal

pub spot_of-spot-requires : goal.spot_of-spot-requires
spot_of-spot-requires g c = filled_fits c.self.inside.pages.items c.self.invariant c.args.self.now c.self.view_is c.args.index c.requires

pub index_mut-requires : goal.index_mut-requires
index_mut-requires g c =
    let spot = c.spot_of-spot.result in
    rw c.self.inside.pages.ok.0 (filled_page c.self.inside.pages.items c.self.invariant c.args.self.now c.self.view_is c.args.index c.requires spot.page spot.place c.spot_of-spot.ensures)

pub get_mut-requires : goal.get_mut-requires
get_mut-requires g c =
    let spot = c.spot_of-spot.result in
    filled_at c.self.inside.pages.items c.self.invariant c.args.self.now c.self.view_is c.args.index c.requires spot.page spot.place c.spot_of-spot.ensures c.index_mut.result.now c.index_mut.ensures.value

pub invariant_of-self-lent : goal.invariant_of-self-lent
invariant_of-self-lent g c =
    let ps = c.self.inside.pages.items in let h = c.self.invariant in let slots = c.args.self.now in let is = c.self.view_is in let n = c.args.index in
    let spot = c.spot_of-spot.result in let lent = c.index_mut.result.now in λ w.
    pages_written ps h slots is n (filled_within ps h slots is n c.requires) spot.page spot.place c.spot_of-spot.ensures lent c.index_mut.ensures.value (slice_set lent spot.place (Some w)) (Some w) refl

pub returns : goal.returns
returns g c =
    let ps = c.self.inside.pages.items in let h = c.self.invariant in let slots = c.args.self.now in let is = c.self.view_is in let n = c.args.index in
    let spot = c.spot_of-spot.result in let at = c.spot_of-spot.ensures in let lent = c.index_mut.result.now in let e = c.index_mut.ensures.value in (
      (refl, λ w. filled_written ps h slots is n c.requires spot.page spot.place at lent e (slice_set lent spot.place (Some w)) (Some w) refl),
      record { writes_back = tt; value = filled_is ps h slots is n c.requires spot.page spot.place at lent e c.get_mut.result.now c.get_mut.ensures.value },
    )
