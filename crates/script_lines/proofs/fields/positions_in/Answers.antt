use Rattle.std.proofs.Common.{arith}
use Rattle.script_lines.proofs.FieldLemmas.{positions_in_other}
use Rattle.script_lines.proofs.fields.positions_in.Goals as goal

pub returns-in_default : goal.returns-in_default
returns-in_default c = positions_in_other c.args.items.now (omega arith)

pub returns-in_default-2 : goal.returns-in_default-2
returns-in_default-2 c = positions_in_other c.args.items.now (omega arith)
