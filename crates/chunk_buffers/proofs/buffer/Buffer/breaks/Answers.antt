use Rattle.std.proofs.Common.{true, false, drop, arith, sym, ◌∙◌, ap}
use Rattle.text_rules.specs.Breaks.{joins_pair}
use Rattle.chunk_buffers.specs.Buffer.{cut}
use Rattle.chunk_buffers.proofs.Cuts.{break_count_if}
use Rattle.chunk_buffers.proofs.buffer.Buffer.breaks.Goals as goal

pub returns-then-cuts_pair : goal.returns-then-cuts_pair
returns-then-cuts_pair c =
    let split = sym (ap (λ x. joins_pair (cut x c.args.from c.args.to) (drop c.args.to x)) c.units.ensures) ∙ sym c.cuts_pair.ensures ∙ c.if-cuts_pair.true in
    omega (arith, break_count_if c.args.self.now.units c.args.from c.args.to c.requires.ordered true split)

pub returns-else-cuts_pair : goal.returns-else-cuts_pair
returns-else-cuts_pair c =
    let split = sym (ap (λ x. joins_pair (cut x c.args.from c.args.to) (drop c.args.to x)) c.units.ensures) ∙ sym c.cuts_pair.ensures ∙ c.if-cuts_pair.false in
    omega (arith, break_count_if c.args.self.now.units c.args.from c.args.to c.requires.ordered false split)
