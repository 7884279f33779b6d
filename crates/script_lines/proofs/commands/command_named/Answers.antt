use Rattle.std.proofs.Common.{rules}
use Rattle.serde_json.specs.View.{view}
use Rattle.script_lines.specs.Commands.{commands}
use Rattle.script_lines.proofs.RowLemmas.{named_in-none}
use Rattle.script_lines.proofs.commands.command_named.Goals as goal

pub returns-in_default : goal.returns-in_default
returns-in_default c = named_in-none commands c.args.name.now (view c.args.value.now) (search rules)
