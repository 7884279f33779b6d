use Rattle.std.proofs.Common.{sym, ◌∙◌, arith}
use Rattle.model_group.specs.State.{documents}
use Rattle.textmodel_c.specs.Faults.{has_bad_span}
use Rattle.textmodel_c.proofs.OutOfRange.{in_range-more, out_here}
use Rattle.textmodel_c.proofs.faults.first_out_of_range.Goals as goal

pub returns-then-is_out_of_range : goal.returns-then-is_out_of_range
returns-then-is_out_of_range c =
    let bad = has_bad_span (documents c.args.contents.now.session.group) in
    out_here bad c.args.left c.loop-i.rest c.args.ops.now c.loop-i.i (omega arith) c.loop-i.invariant
    (sym c.is_out_of_range.ensures ∙ c.if-is_out_of_range.true)

pub loop-i-preserved : goal.loop-i-preserved
loop-i-preserved c =
    let bad = has_bad_span (documents c.args.contents.now.session.group) in
    in_range-more bad c.args.left c.loop-i.rest c.args.ops.now c.loop-i.i (omega arith) c.loop-i.invariant
    (sym c.is_out_of_range.ensures ∙ c.if-is_out_of_range.false)
