use Rattle.std.proofs.Common.{sym, subst, arith}
use Rattle.script_lines.specs.Reading.{Reads}
use Rattle.script_lines.proofs.RequestLemmas.{joint_edits_in-few, joint_edits_in-more}
use Rattle.script_lines.proofs.request.joint_edits_in.Goals as goal

pub returns : goal.returns
returns c =
    subst (λ rule. Reads c.all_of.result rule) (sym (joint_edits_in-more c.args.values.now (omega arith))) c.all_of.ensures

pub returns-then-values-lt2 : goal.returns-then-values-lt2
returns-then-values-lt2 c = joint_edits_in-few c.args.values.now (omega arith)
