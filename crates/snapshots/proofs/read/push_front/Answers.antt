use Rattle.std.proofs.Common.{rules, ◌≡◌, ◌^◌, ◌<◌, ◌++◌, take, length, length-append, arith, ap, ◌∙◌}
use Rattle.snapshots.specs.Spans.{spelled}
use Rattle.snapshots.proofs.Fronts.{front-behind}
use Rattle.snapshots.proofs.read.push_front.Goals as goal

pub returns-clause-ok : goal.returns-clause-ok
returns-clause-ok c =
    let read = take c.saturating_add.result (spelled c.args.chunks.now.buffers c.args.spans.now) in
    let text : c.push_units-pushed.new.out.items ≡ c.args.out.now.items ++ read = search rules in
    let out = c.push_units-pushed.new.out in
    let few : length read < 2 ^ 63 = omega (arith, ap length text, length-append c.args.out.now.items read, out.ok, out.small) in
    c.keep_front.ensures
    ∙ front-behind c.args.count c.saturating_add.result c.len-before.result c.args.out.now.items (spelled c.args.chunks.now.buffers c.args.spans.now)
    c.push_units-pushed.new.out.items (omega (arith, c.len-before.ensures, c.args.out.now.ok)) c.saturating_add.ensures few text
