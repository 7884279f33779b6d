use Rattle.std.proofs.Common.{take, vec_len, ap, ◌∙◌, arith}
use Rattle.std.proofs.lemmas.List.{take-append-le}
use Rattle.snapshots.proofs.Spelling.{pushed-span}
use Rattle.snapshots.proofs.read.push_units.Goals as goal

pub loop-span-preserved : goal.loop-span-preserved
loop-span-preserved c =
    let now = c.loop-span.invariant in
    let pushed = c.in_ok-extend_from_slice.ensures in record {
      text = pushed-span c.args.chunks.now.buffers c.args.spans.now c.loop-span.span-index c.loop-span.left c.min-count.result
          (record { buffer = 0; start = 0; units = 0 })
          c.loop-span.out.items c.units-units.result.now _ _ (omega arith) c.requires now.text c.units-units.ensures c.min-count.ensures pushed.items;
      before = ap (take (vec_len c.args.out.now)) pushed.items
          ∙ take-append-le (vec_len c.args.out.now) c.loop-span.out.items _ (omega (arith, now.grown, c.loop-span.out.ok.0)) ∙ now.before;
      grown = omega (arith, now.grown, pushed.len);
    }
