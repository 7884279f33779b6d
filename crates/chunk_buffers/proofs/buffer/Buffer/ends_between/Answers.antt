use Rattle.std.proofs.Common.{arith, drop}
use Rattle.std.proofs.lemmas.List.{length-drop}
use Rattle.text_rules.proofs.Breaks.{break_ends_few}
use Rattle.chunk_buffers.proofs.Cuts.{counts_rise, count_to-rest}
use Rattle.chunk_buffers.proofs.buffer.Buffer.ends_between.Goals as goal

pub overflow_sub-to : goal.overflow_sub-to
overflow_sub-to c = omega arith

pub returns-then-to-from-le-NEAR-clause-count : goal.returns-then-to-from-le-NEAR-clause-count
returns-then-to-from-le-NEAR-clause-count c =
    let x = c.args.self.now.units in
    let read = rw c.units.ensures at c.breaks_between.ensures in
    omega (arith, read, count_to-rest c.args.from x, count_to-rest c.args.to x)

pub returns-then-to-from-le-NEAR-clause-few : goal.returns-then-to-from-le-NEAR-clause-few
returns-then-to-from-le-NEAR-clause-few c = omega (arith, c.breaks_between.ensures, break_ends_few 0 (drop c.args.from c.units.result.now), length-drop c.args.from c.units.result.now)

pub overflow_sub-result : goal.overflow_sub-result
overflow_sub-result c = omega (arith, counts_rise c.args.self.now.units c.args.from c.args.to c.requires.ordered)

pub returns-clause-count : goal.returns-clause-count
returns-clause-count c = omega (arith, counts_rise c.args.self.now.units c.args.from c.args.to c.requires.ordered)
