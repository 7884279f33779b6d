use Rattle.std.proofs.Common.{◌-◌, length, arith}
use Rattle.column_encodings.proofs.Characters.{offset_step}
use Rattle.column_encodings.proofs.past_columns.Goals as goal

pub loop-step-preserved : goal.loop-step-preserved
loop-step-preserved c =
    let first = c.in_ok-character.ensures.first in
    let all = c.in_ok-character.ensures.all in
    let fewer = c.loop-step.invariant.fewer in
    let end = length c.args.units.now in record {
      offset = offset_step c.args.encoding c.loop-step.rest.now c.in_ok-character.character.now c.in_ok-character.after.now
          (end - length c.loop-step.rest.now) (end - length c.in_ok-character.after.now) c.loop-step.left c.in_ok-left.left _ first
          (omega (arith, all, fewer)) (omega arith) (omega (arith, c.in_ok-left.ensures, c.width.ensures)) (omega (arith, c.in_ok-left.ensures, c.width.ensures)) c.loop-step.invariant.offset;
      fewer = omega (arith, all, fewer, c.in_ok-character.ensures.some);
      first = λ e. absurd (omega arith);
    }
