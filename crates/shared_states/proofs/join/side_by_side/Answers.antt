use denote.Enum.Bare.{same_true}
use Rattle.std.proofs.Common.{rules, sym}
use Rattle.hiding_rules.specs.contracts.LineState.{the_type}
use Rattle.shared_states.proofs.Parts.{two-runs}
use Rattle.shared_states.proofs.join.side_by_side.Goals as goal

pub returns-in-Run-Run : goal.returns-in-Run-Run
returns-in-Run-Run c =
    let run = c.in-Run-Run in
    two-runs c.args.left c.args.right run.state run.other run.lines run.more run.is-0 run.is-1
    (same_true the_type (search rules) _ _ (sym c.if-eq.ensures))
