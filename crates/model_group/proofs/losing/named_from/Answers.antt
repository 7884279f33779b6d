use Rattle.std.proofs.Common.{◌+◌, ◌<◌, length, option_to_list, sym, subst, arith}
use Rattle.std.specs.Int.RustNames.{bit_or}
use Rattle.undo_rules.specs.Tags.{all_steps, tag_at}
use Rattle.model_group.specs.Losing.{Names}
use Rattle.model_group.proofs.Losses.{length-all_steps, names_both, tags_between, tags_between-more}
use Rattle.model_group.proofs.losing.named_from.Goals as goal

pub loop-at-preserved : goal.loop-at-preserved
loop-at-preserved c =
    let s = c.args.model.now.document.history in
    let at = c.loop-at.at in
    let before = tags_between (all_steps s) c.args.first at in
    let there : at < length (all_steps s) =
    omega (arith, length-all_steps s, c.counts-undo.ensures.undo, c.counts-undo.ensures.redo, c.loop-at-test.true) in
    let next = subst (λ tag. Names (option_to_list tag) c.of.result) c.tag_at.ensures c.of.ensures in
    subst (Names (tags_between (all_steps s) c.args.first (at + 1))) (sym c.or-named.ensures)
    (subst (λ tags. Names tags (bit_or c.loop-at.named c.of.result)) (sym (tags_between-more (all_steps s) c.args.first at c.loop-at.auto.at there))
    (names_both before (option_to_list (tag_at s at)) c.loop-at.named c.of.result c.loop-at.invariant next))
