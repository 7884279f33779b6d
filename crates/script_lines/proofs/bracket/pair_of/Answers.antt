use Rattle.std.proofs.Common.{arith}
use Rattle.std.proofs.lemmas.Grind.{common_steps}
use Rattle.script_lines.specs.Brackets.{two_texts}
use Rattle.script_lines.proofs.FieldLemmas.{two_of_other}
use Rattle.script_lines.proofs.bracket.pair_of.Goals as goal

pub returns-in_default : goal.returns-in_default
returns-in_default c = grind (arith, common_steps, two_of_other two_texts c.args.items.now)
