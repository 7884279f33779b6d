use Rattle.std.proofs.Common.{◌+◌, arith}
use Rattle.std.proofs.lemmas.Nat.{le_or_l, one_shl}
use Rattle.paged_list.proofs.Pages.{cleared, same_top}
use Rattle.paged_list.proofs.slots.spot_of.Goals as goal

pub ilog2-page-requires : goal.ilog2-page-requires
ilog2-page-requires c = let more = le_or_l (c.args.index + 1) 1 in omega (arith, more)

pub returns : goal.returns
returns c =
    let n = c.args.index + 1 in let top = c.ilog2-page.result in
    let le = same_top n top (omega arith) c.ilog2-page.ensures.power_le in let above = c.ilog2-page.ensures.next_power_gt in let more = le_or_l n 1 in
    let rest = cleared n top le (omega (arith, above, more)) in
    rw (one_shl top 32 c.ilog2-page.ensures.bound) (omega (arith, rest, le), omega (arith, rest, le, above, more))
