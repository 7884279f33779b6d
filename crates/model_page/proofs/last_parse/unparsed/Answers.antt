use Rattle.std.proofs.Common.{length, ap, arith}
use Rattle.text_rules.proofs.Breaks.{line_count_is}
use Rattle.model_page.proofs.DirtyEdits.{few_lines}
use Rattle.model_page.proofs.last_parse.unparsed.Goals as goal

pub of_new_lines-last-requires-clause-some : goal.of_new_lines-last-requires-clause-some
of_new_lines-last-requires-clause-some c = omega (arith, c.line_count.ensures, line_count_is c.in_ok-text.text.units)

pub of_new_lines-last-requires-clause-fits : goal.of_new_lines-last-requires-clause-fits
of_new_lines-last-requires-clause-fits c =
    omega (arith, c.line_count.ensures, few_lines c.in_ok-text.text.units, ap length c.in_ok-text.ensures.units, c.requires)
