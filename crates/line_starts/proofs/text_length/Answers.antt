use Rattle.std.proofs.Common.{◌<◌, length, sym, ap, ◌∙◌, arith}
use Rattle.text_rules.specs.Lines.{text_length}
use Rattle.text_rules.proofs.TextLengths.{text_length-append}
use Rattle.line_starts.proofs.Starts.{length_at_end, length_at_other, length_of_all}
use Rattle.line_starts.proofs.text_length.Goals as goal
use Rattle.line_starts.proofs.text_length.Goals.{then-is_break_end, else-is_break_end}

pub loop-at-preserved : goal.loop-at-preserved
loop-at-preserved c =
    let x = c.args.units.now in
    let inside : c.loop-at.at < length x = omega arith in
    elim c.if-is_break_end.branch [
      | then-is_break_end w ↦ record {
        so_far = rw (w.lines-is, w.columns-is)
            (length_at_end c.loop-at.lines c.loop-at.columns c.loop-at.at x (text_length x) inside c.loop-at.invariant.so_far (sym c.is_break_end.ensures ∙ w.if-is_break_end.true));
        few_lines = rw w.lines-is (omega arith);
        few_columns = rw w.columns-is (omega arith);
      }
      | else-is_break_end w ↦ record {
        so_far = rw (w.lines-is, w.columns-is)
            (length_at_other c.loop-at.lines c.loop-at.columns c.loop-at.at x (text_length x) inside c.loop-at.invariant.so_far (sym c.is_break_end.ensures ∙ w.if-is_break_end.false));
        few_lines = rw w.lines-is (omega arith);
        few_columns = rw w.columns-is (omega arith);
      }
    ]

pub returns-clause-length : goal.returns-clause-length
returns-clause-length c = length_of_all c.loop-at.lines c.loop-at.columns c.loop-at.at c.args.units.now (omega arith) c.loop-at.invariant.so_far

pub returns-clause-parts : goal.returns-clause-parts
returns-clause-parts c =
    λ x y whole apart.
    length_of_all c.loop-at.lines c.loop-at.columns c.loop-at.at c.args.units.now (omega arith) c.loop-at.invariant.so_far
    ∙ ap text_length (sym whole) ∙ text_length-append x y apart
