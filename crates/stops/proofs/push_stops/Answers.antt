use Rattle.std.proofs.Common.{true, length, refl, ap, arith}
use Rattle.std.proofs.lemmas.List.{take_all}
use Rattle.unicode_segmentation.specs.Grapheme.{is_grapheme_break}
use Rattle.unicode_segmentation.proofs.SegmentsLemmas.{concat-segments}
use Rattle.stops.proofs.push_stops.Goals as goal

pub loop-cluster-init : goal.loop-cluster-init
loop-cluster-init c =
    let whole = concat-segments (is_grapheme_break true) c.args.text.now c.utf8.text in
    rw (c.into_iter-cluster-iterator.ensures.into_iter_gives, c.graphemes-cluster-items.ensures.left)
    (record { columns = refl; within = omega (arith, ap length whole); before = take_all _ _ (omega (arith, c.args.out.now.ok)); grown = omega arith })
