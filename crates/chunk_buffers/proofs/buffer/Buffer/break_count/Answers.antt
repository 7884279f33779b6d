use Rattle.std.proofs.Common.{length, ap, sym, ◌∙◌, arith}
use Rattle.line_starts.specs.Starts.{break_count}
use Rattle.line_starts.proofs.Starts.{break_count_is}
use Rattle.text_rules.proofs.Breaks.{break_ends_few}
use Rattle.chunk_buffers.proofs.buffer.Buffer.break_count.Goals as goal

pub returns-clause-count : goal.returns-clause-count
returns-clause-count c =
    c.len.ensures ∙ c.self.inside.ends.ok.0 ∙ ap length c.self.invariant.0 ∙ sym (break_count_is c.self.inside.units.items)
    ∙ ap (λ b. break_count b.units) c.self.view_is

pub returns-clause-few : goal.returns-clause-few
returns-clause-few c =
    let units = c.self.inside.units.items in
    omega (arith, c.len.ensures, c.self.inside.ends.ok.0, ap length c.self.invariant.0, break_ends_few 0 units, c.self.invariant.1, c.self.inside.units.ok.0)
