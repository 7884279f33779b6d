use Rattle.std.proofs.Common.{rules}
use Rattle.unit_text.proofs.Fronts.{units_of_ascii}
use Rattle.unit_text.proofs.utf8.push_ascii.Goals as goal

pub returns-clause-ok : goal.returns-clause-ok
returns-clause-ok c = rw (units_of_ascii c.args.text.now c.requires.ascii) (search rules)
