use Rattle.std.proofs.Common.{◌-◌, ◌++◌, take, length, sym, ap, ◌∙◌, append_assoc}
use Rattle.script_play.specs.Supply.{left_of}
use Rattle.script_play.proofs.SupplyLemmas.{filled, filled_within}
use Rattle.script_play.proofs.supply.Supply.give.Goals as goal

pub loop-count-preserved : goal.loop-count-preserved
loop-count-preserved c =
    let buf = c.loop-count.buf in
    let part = c.give_some-more.new.buf in
    let count = c.loop-count.count in
    let more = c.give_some-more.result in
    let left = left_of c.give_some-more.new.self in
    let k = length buf - count in
    record {
      within = filled_within buf part count more k c.loop-count.invariant.within c.give_some-more.ensures.within;
      given =
          c.loop-count.invariant.given
          ∙ ap (λ z. take count buf ++ z) c.give_some-more.ensures.given
          ∙ sym (append_assoc (take count buf) (take more part) left)
          ∙ ap (λ z. z ++ left) (sym (filled buf part count more k c.loop-count.invariant.within c.give_some-more.ensures.within));
    }
