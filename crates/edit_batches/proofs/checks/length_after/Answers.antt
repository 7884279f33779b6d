use Rattle.std.proofs.Common.{◌-◌, ◌<◌, ◌∙◌, arith}
use Rattle.batch_rules.specs.Batches.{most_units}
use Rattle.edit_batches.proofs.Lengths.{length_from, measured, measured_all, none_long, some_length}
use Rattle.edit_batches.proofs.checks.length_after.Goals as goal

pub returns-in_err-checked_sub : goal.returns-in_err-checked_sub
returns-in_err-checked_sub c x is =
    let op = measured c.args.len _ _ _ _ c.loop-op.invariant.follow c.loop-op-test.true c.op-item.is in
    let long : most_units < length_from c.args.len 0 c.args.ops.now = omega (arith, op.units, c.loop-op.invariant.units, c.in_err-checked_sub.ensures) in
    c.from_residual.ensures ∙ none_long c.args.len c.args.ops.now x is c.requires long

pub returns-in_err-room : goal.returns-in_err-room
returns-in_err-room c x is =
    let op = measured c.args.len _ _ _ _ c.loop-op.invariant.follow c.loop-op-test.true c.op-item.is in
    let long : most_units < length_from c.args.len 0 c.args.ops.now =
    omega (arith, op.units, c.loop-op.invariant.units, c.in_ok-checked_sub.ensures, c.in_err-room.ensures, c.len.ensures) in
    c.from_residual-in_err-room.ensures ∙ none_long c.args.len c.args.ops.now x is c.requires long

pub returns-in_err-left : goal.returns-in_err-left
returns-in_err-left c x is =
    let rest = measured_all c.args.len c.loop-op.at c.args.ops.now c.loop-op.op-index (omega arith) in
    let long : most_units < length_from c.args.len 0 c.args.ops.now = omega (arith, rest.1, c.loop-op.invariant.units, c.in_err-left.ensures) in
    c.from_residual-in_err-left.ensures ∙ none_long c.args.len c.args.ops.now x is c.requires long

pub returns : goal.returns
returns c x is =
    let rest = measured_all c.args.len c.loop-op.at c.args.ops.now c.loop-op.op-index (omega arith) in
    some_length c.args.len c.args.ops.now x is (most_units - c.in_ok-left.left) c.requires (c.loop-op.invariant.ends ∙ rest.0) (omega arith)
    (omega (arith, rest.1, c.loop-op.invariant.units, c.in_ok-left.ensures))
