use Rattle.std.proofs.Common.{◌+◌, ◌<◌, length, ◌∙◌, arith}
use Rattle.std.proofs.lemmas.Grind.{drop_more_same}
use Rattle.std.proofs.lemmas.List.{length-set, drop-set-lt}
use Rattle.undo_rules.specs.Tags.{without_tag}
use Rattle.edit_stack.proofs.Tags.{one_mapped}
use Rattle.edit_stack.proofs.stack.untag_first.Goals as goal

pub loop-at-preserved : goal.loop-at-preserved
loop-at-preserved g c =
    let at = c.loop-at.at in let items = c.loop-at.elements.items in let old = c.args.elements.now.items in let h = c.loop-at.invariant in let new = c.untag.new.self in
    let within : at < length items = omega (arith, c.loop-at-test.true, c.requires, h.len) in record {
      done = one_mapped (without_tag c.args.tag) items old at c.get_mut.result.now new within h.len h.done h.rest c.get_mut.ensures.value c.untag.ensures.step;
      rest = drop-set-lt (at + 1) items at new (omega arith) ∙ drop_more_same items old at h.rest;
      len = length-set items at new ∙ h.len;
      capacity = h.capacity;
    }
