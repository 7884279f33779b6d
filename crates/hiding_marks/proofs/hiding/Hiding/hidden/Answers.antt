use Rattle.hiding_rules.specs.declared.LineState.TheVariants.{Code}
use Rattle.hiding_rules.specs.declared.Within.TheVariants.{State}
use Rattle.hiding_rules.proofs.Sizes.{hidden_some, hidden_few}
use Rattle.hiding_marks.proofs.hiding.Hiding.hidden.Goals as goal

pub returns-in-State-Code-clause-some : goal.returns-in-State-Code-clause-some
returns-in-State-Code-clause-some c = rw c.hidden_in_code.ensures (hidden_some c.args.self.now (State Code) c.args.units.now cc)

pub returns-in-State-Code-clause-few : goal.returns-in-State-Code-clause-few
returns-in-State-Code-clause-few c = rw c.hidden_in_code.ensures (hidden_few c.args.self.now (State Code) c.args.units.now cc)
