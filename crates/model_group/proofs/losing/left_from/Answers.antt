use Rattle.std.proofs.Common.{◌+◌, ◌<◌, length, option_to_list, sym, ap, ◌∙◌, arith}
use Rattle.undo_rules.specs.Tags.{all_steps, tag_at}
use Rattle.model_group.specs.Losing.{left_count}
use Rattle.model_group.proofs.Losses.{left_count-append, length-all_steps, tags_between, tags_between-more}
use Rattle.model_group.proofs.losing.left_from.Goals as goal

pub loop-at-preserved : goal.loop-at-preserved
loop-at-preserved c =
    let s = c.args.model.now.document.history in
    let at = c.loop-at.at in
    let counted = left_count c.args.before.now c.args.k in
    let before = tags_between (all_steps s) c.args.first at in
    let there : at < length (all_steps s) =
    omega (arith, length-all_steps s, c.counts-undo.ensures.undo, c.counts-undo.ensures.redo, c.loop-at-test.true) in
    record {
      count = ap (λ n. n + c.left_in-count.result) c.loop-at.invariant.count
          ∙ ap (λ n. counted before + n) (c.left_in-count.ensures.count ∙ ap (λ tag. counted (option_to_list tag)) c.tag_at.ensures)
          ∙ sym (left_count-append c.args.before.now c.args.k before (option_to_list (tag_at s at)))
          ∙ sym (ap counted (tags_between-more (all_steps s) c.args.first at c.loop-at.auto.at there));
      few = omega (arith, c.loop-at.invariant.few, c.left_in-count.ensures.few);
    }
