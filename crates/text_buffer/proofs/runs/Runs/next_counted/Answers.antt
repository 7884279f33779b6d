use Rattle.std.proofs.Common.{ℕ, ◌<◌, List, length, sym, subst}
use Rattle.text_buffer.specs.Reading.{spans_left}
use Rattle.text_buffer.proofs.Reading.{span_inside, run_some}
use Rattle.text_buffer.proofs.runs.Runs.next_counted.Goals as goal

pub units-requires : goal.units-requires
units-requires g c =
    let r = c.self.inside in
    span_inside r.chunks.now.buffers (spans_left r.rest) c.in_ok-span.span (spans_left c.next.new.self) c.in_ok-span.ensures.span c.self.invariant

pub returns-clause-some : goal.returns-clause-some
returns-clause-some g c =
    let r = c.self.inside in
    subst (λ (run : List ℕ). 0 < length run) (sym c.units.ensures)
    (run_some r.chunks.now.buffers (spans_left r.rest) c.in_ok-span.span (spans_left c.next.new.self) c.in_ok-span.ensures.span c.self.invariant)
