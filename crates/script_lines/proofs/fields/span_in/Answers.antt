use Rattle.std.proofs.Common.{arith}
use Rattle.script_lines.specs.Fields.{span_of}
use Rattle.script_lines.proofs.FieldLemmas.{two_of_other}
use Rattle.script_lines.proofs.fields.span_in.Goals as goal

pub returns-in_default : goal.returns-in_default
returns-in_default c = two_of_other span_of c.args.items.now (omega arith)

pub returns-in_default-2 : goal.returns-in_default-2
returns-in_default-2 c = two_of_other span_of c.args.items.now (omega arith)
