use Rattle.model_find.proofs.Ahead.{passed}
use Rattle.model_find.proofs.starts.Starts.go_to.Goals as goal

pub returns-then-passed-self-clause-knows : goal.returns-then-passed-self-clause-knows
returns-then-passed-self-clause-knows c = λ run sought within knows. passed run sought c.args.self.now knows c.args.at c.requires.ordered c.if-passed-self.true
