use Rattle.std.proofs.Common.{◌≡◌, true, false, sym, ◌∙◌, ap}
use Rattle.std.specs.Ordering.{is_lt}
use Rattle.interval_deltas.specs.Weave.{placed}
use Rattle.interval_deltas.proofs.Searches.{parted_behind, parted_before}
use Rattle.interval_deltas.proofs.search.last_before.Goals as goal

pub returns-then-is_lt : goal.returns-then-is_lt
returns-then-is_lt c =
    let (us, (vs, is, sum, ends)) = c.in_ok-id.ensures in
    let lt : is_lt (placed c.in_ok-id.mark c.args.place) ≡ true = sym (ap is_lt c.placed.ensures) ∙ sym c.is_lt.ensures ∙ c.if-is_lt.true in
    parted_behind c.args.tree.now.items c.args.place c.requires.place c.requires.values c.requires.ordered us c.in_ok-id.id c.in_ok-id.mark vs is ends lt

pub returns-else-is_lt : goal.returns-else-is_lt
returns-else-is_lt c =
    let (us, (vs, is, sum, ends)) = c.in_ok-id.ensures in
    let ge : is_lt (placed c.in_ok-id.mark c.args.place) ≡ false = sym (ap is_lt c.placed.ensures) ∙ sym c.is_lt.ensures ∙ c.if-is_lt.false in
    parted_before c.args.tree.now.items c.args.place c.requires.place c.requires.values c.requires.ordered us c.in_ok-id.id c.in_ok-id.mark vs is ends ge c.prev.result (c.prev.ensures us c.in_ok-id.mark vs is)
