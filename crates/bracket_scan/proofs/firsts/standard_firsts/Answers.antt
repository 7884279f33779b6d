use Rattle.bracket_scan.proofs.FirstUnits.{standard_is_indexed}
use Rattle.bracket_scan.proofs.firsts.standard_firsts.Goals as goal

pub returns : goal.returns
returns c = standard_is_indexed
