use Rattle.std.proofs.Common.{ap, sym, ◌∙◌}
use Rattle.bracket_rules.specs.Table.{is_table}
use Rattle.bracket_scan.proofs.Texts.{is_table_of}
use Rattle.bracket_scan.proofs.table.BracketTable.scan.Goals as goal

pub returns-then-is_err-clause-table : goal.returns-then-is_err-clause-table
returns-then-is_err-clause-table c = sym (ap is_table c.self.view_is) ∙ is_table_of c.self.inside.texts c.self.invariant

pub returns-else-is_err-clause-table : goal.returns-else-is_err-clause-table
returns-else-is_err-clause-table c = sym (ap is_table c.self.view_is) ∙ is_table_of c.self.inside.texts c.self.invariant
