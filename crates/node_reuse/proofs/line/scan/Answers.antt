use Rattle.std.proofs.Common.{length, ap, arith}
use Rattle.hiding_rules.specs.declared.LineState.TheVariants.{Code}
use Rattle.hiding_rules.specs.Hidden.{scanner}
use Rattle.hiding_rules.proofs.Rows.{length-states_from}
use Rattle.node_reuse.proofs.line.scan.Goals as goal

pub state-state-requires-clause-within : goal.state-state-requires-clause-within
state-state-requires-clause-within g c =
    let by = scanner c.args.rules.table.now c.args.rules.hiding.now in
    omega (arith, c.requires.there, ap length c.requires.states, length-states_from by Code (g.Q.Lines.state c.args.lines.now).contents)
