use Rattle.std.proofs.Common.{◌++◌, ap, sym, ◌∙◌, arith}
use Rattle.std.proofs.lemmas.Result.{on_ok_weaker}
use Rattle.chunk_buffers.specs.Chunks.{units_at, LiesIn}
use Rattle.text_rules.specs.Lines.{lines_of}
use Rattle.text_buffer.specs.Reading.{spans_left, pieces_at, pieces_left, first_line}
use Rattle.text_buffer.specs.Text.{spelled}
use Rattle.text_buffer.proofs.LineCopies.{more_copied, line_copied}
use Rattle.text_buffer.proofs.Reading.{span_inside, reads_on}
use Rattle.text_buffer.proofs.view.View.push_line.Goals as goal
use Rattle.text_buffer.proofs.view.View.push_line.Goals.{In-Some}

inside : (c : In-Some) → LiesIn c.args.self.now.chunks.now.buffers c.in-Some.span
inside c =
    span_inside c.args.self.now.chunks.now.buffers (spans_left c.loop-span.rest) c.in-Some.span (spans_left c.next.new.self) c.in-Some.ensures.span
    c.loop-span.invariant.can

pub first_break-requires : goal.first_break-requires
first_break-requires c = inside c

pub units-requires : goal.units-requires
units-requires c = inside (goal.at.units-requires c).In-Some

pub returns-in-Some-first_break-clause-content : goal.returns-in-Some-first_break-clause-content
returns-in-Some-first_break-clause-content c =
    let b = c.args.self.now.chunks.now.buffers in
    let out = c.loop-span.out.items in
    on_ok_weaker c.push_end.result
    (λ is. line_copied (spelled b (pieces_left b c.args.rest.now)) (spelled b (pieces_left b c.loop-span.rest)) c.args.out.now.items out c.loop-span.invariant.copied
    c.push_end.new.out.items (is ∙ ap (λ ss. out ++ (first_line (lines_of (spelled b (pieces_at b ss)))).content) (sym c.in-Some.ensures.span)))
    c.push_end.ensures.content

pub loop-span-preserved : goal.loop-span-preserved
loop-span-preserved c =
    let b = c.args.self.now.chunks.now.buffers in
    let out = c.loop-span.out.items in
    let old = spans_left c.loop-span.rest in
    let new = spans_left c.next.new.self in
    let first = c.in-Some.ensures.span in record {
      can = reads_on b old c.in-Some.span new first c.loop-span.invariant.can;
      copied = more_copied (spelled b (pieces_left b c.args.rest.now)) (spelled b (pieces_at b old)) c.args.out.now.items out c.loop-span.invariant.copied
          (units_at b c.in-Some.span) (spelled b (pieces_at b new)) c.extend_from_slice.new.self.items (ap (λ ss. spelled b (pieces_at b ss)) first)
          (c.in_ok-extend_from_slice.ensures.items ∙ ap (λ u. out ++ u) c.units.ensures) c.in_default-first_break.ensures;
    }
