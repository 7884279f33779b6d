use Rattle.std.proofs.Common.{false, ◌∙◌}
use Rattle.bracket_scan.proofs.FirstUnits.{index_says}
use Rattle.bracket_scan.proofs.table.BracketTable.may_begin.Goals as goal

pub returns : goal.returns
returns c = c.is_first.ensures false ∙ index_says c.args.self.now c.firsts.result.now c.args.unit false c.firsts.ensures
