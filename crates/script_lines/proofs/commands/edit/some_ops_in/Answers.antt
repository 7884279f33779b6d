use Rattle.std.proofs.Common.{◌<◌, length, sym, subst, arith}
use Rattle.std.proofs.lemmas.Grind.{common_steps}
use Rattle.script_lines.specs.Reading.{Reads}
use Rattle.script_lines.proofs.FieldLemmas.{some_ops_in-some}
use Rattle.script_lines.proofs.commands.edit.some_ops_in.Goals as goal

pub returns : goal.returns
returns c =
    let some : 0 < length c.args.values.now = grind (arith, common_steps) in
    subst (λ rule. Reads c.all_of.result rule) (sym (some_ops_in-some c.args.values.now some)) c.all_of.ensures
