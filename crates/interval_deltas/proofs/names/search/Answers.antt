use Rattle.std.proofs.Common.{◌+◌, ◌-◌, ◌/◌, Less, Equal, Greater, sym, ap, ◌∙◌, arith}
use Rattle.std.specs.Ordering.{nat_cmp}
use Rattle.std.proofs.lemmas.Cmp.{ranked}
use Rattle.std.proofs.lemmas.Option.{get_or_from_slice_get, slice_get_within}
use Rattle.interval_deltas.specs.declared.names.Entry.{Entry}
use Rattle.interval_deltas.proofs.Entries.{halved_up, halved_down}
use Rattle.interval_deltas.proofs.names.search.Goals as goal

pub loop-low-preserved-in-Less : goal.loop-low-preserved-in-Less
loop-low-preserved-in-Less c =
    let es = c.args.entries.now.items in let low = c.loop-low.low in let high = c.loop-low.high in let middle = low + (high - low) / 2 in
    halved_up es c.args.id low high c.requires c.loop-low.invariant middle (omega arith) (omega arith) c.get.result.now c.get.ensures
    (ranked c.get.result.now.id c.args.id Less (sym c.in-Less.is ∙ c.cmp.ensures ∙ ap (λ n. nat_cmp n c.args.id) c.number.ensures))

pub returns-in-Equal : goal.returns-in-Equal
returns-in-Equal c =
    let es = c.args.entries.now.items in let low = c.loop-low.low in let high = c.loop-low.high in let middle = low + (high - low) / 2 in
    let same = ranked c.get.result.now.id c.args.id Equal (sym c.in-Equal.is ∙ c.cmp.ensures ∙ ap (λ n. nat_cmp n c.args.id) c.number.ensures) in
    (slice_get_within es middle c.get.result.now c.get.ensures, λ d. ap (λ (e : Entry). e.id) (get_or_from_slice_get es middle c.get.result.now d c.get.ensures) ∙ same)

pub loop-low-preserved : goal.loop-low-preserved
loop-low-preserved c =
    let es = c.args.entries.now.items in let low = c.loop-low.low in let high = c.loop-low.high in let middle = low + (high - low) / 2 in
    halved_down es c.args.id low high c.requires c.loop-low.invariant middle (omega arith) (omega arith) c.get.result.now c.get.ensures
    (ranked c.get.result.now.id c.args.id Greater (sym c.in-Greater.is ∙ c.cmp.ensures ∙ ap (λ n. nat_cmp n c.args.id) c.number.ensures))
