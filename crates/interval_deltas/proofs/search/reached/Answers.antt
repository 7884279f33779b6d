use Rattle.std.proofs.Common.{◌∷◌, ◌<ℤ◌, ◌≤ℤ◌, sym, subst, arith}
use Rattle.std.proofs.lemmas.Int.{ints}
use Rattle.rb_arena.specs.Searching.{Found}
use Rattle.interval_deltas.specs.declared.weave.Sought.TheVariants as sought
use Rattle.interval_deltas.specs.Weave.{marks, mark_turn}
use Rattle.interval_deltas.specs.Kept.{Each}
use Rattle.interval_deltas.proofs.Items.{each_both}
use Rattle.interval_deltas.proofs.Searches.{all_under, rest_under}
use Rattle.interval_deltas.proofs.search.reached.Goals as goal

pub returns-then-offset : goal.returns-then-offset
returns-then-offset c items found =
    let offset = c.args.offset in let id = c.in_ok-id.id in let mark = c.in_ok-id.mark in
    let (us, (vs, is, sum, ends)) = subst (Found marks mark_turn (sought.Reaching offset) items) c.in_ok-id.was found in
    let low : mark.end <ℤ offset = grind (arith, ints, c.if-offset.true, c.offset.ensures) in
    subst (Each (λ m. m.end <ℤ offset)) (sym is)
    (each_both (λ m. m.end <ℤ offset) us ((id, mark) ∷ vs) (all_under offset us id mark vs ends) (low, rest_under offset us id mark vs ends low))

pub returns-else-offset : goal.returns-else-offset
returns-else-offset c items found =
    let offset = c.args.offset in let id = c.in_ok-id.id in let mark = c.in_ok-id.mark in
    let (us, (vs, is, sum, ends)) = subst (Found marks mark_turn (sought.Reaching offset) items) c.in_ok-id.was found in
    let high : offset ≤ℤ mark.end = grind (arith, ints, c.if-offset.false, c.offset.ensures) in
    (us, (vs, is, all_under offset us id mark vs ends, high))
