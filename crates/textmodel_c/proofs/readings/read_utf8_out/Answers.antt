use Rattle.textmodel_c.proofs.Others.{others_same}
use Rattle.textmodel_c.proofs.readings.read_utf8_out.Goals as goal

pub returns-else-matches-clause-others : goal.returns-else-matches-clause-others
returns-else-matches-clause-others c = others_same c.args.doc c.args.group.now
