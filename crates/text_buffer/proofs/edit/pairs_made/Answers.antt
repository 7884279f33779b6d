use Rattle.std.proofs.Common.{◌+◌, ◌<◌, ◌&&◌, length, take, drop, ap, sym, ◌∙◌, arith}
use Rattle.std.proofs.lemmas.Bool.{eqb-false}
use Rattle.text_rules.specs.Lines.{line_feed, carriage_return, begins_with}
use Rattle.text_buffer.specs.Text.{one_if}
use Rattle.text_buffer.proofs.Borders.{ends_with-append}
use Rattle.text_buffer.proofs.edit.pairs_made.Goals as goal

pub returns : goal.returns
returns c = λ units span are.
    let text = c.args.text.now in
    let none = eqb-false _ _ (sym c.is_empty.ensures ∙ c.if-is_empty.false) in
    let some : 0 < length text = omega (arith, none) in
    let last = ends_with-append carriage_return (take span.start units) text some in
    let front = c.one_if-2.ensures ∙ ap (λ j. one_if j.front) are in
    let back = c.one_if-3.ensures ∙ ap (λ j. one_if j.back) are ∙ ap (λ b. one_if (b && begins_with line_feed (drop span.end units))) last in
    (λ i. front i + back i)
