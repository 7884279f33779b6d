use Rattle.std.proofs.Common.{ap, sym, ◌∙◌}
use Rattle.hiding_rules.specs.Hidden.{scanner, hidden_scan}
use Rattle.hiding_rules.proofs.NoBlock.{ends_in_code}
use Rattle.bracket_scan.proofs.table.BracketTable.end_state.Goals as goal

pub returns : goal.returns
returns c =
    let by = scanner c.args.self.now c.args.hiding.now in
    let ends = ends_in_code by (sym c.has_block.ensures ∙ c.if-not-has_block.true) c.args.line.now in
    sym (ap (λ s. (hidden_scan by s c.args.line.now).state) c.in-Code.is ∙ ends)
