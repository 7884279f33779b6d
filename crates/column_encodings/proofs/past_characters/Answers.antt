use Rattle.std.proofs.Common.{arith}
use Rattle.column_encodings.proofs.Characters.{length_past, length_in-le}
use Rattle.column_encodings.proofs.past_characters.Goals as goal

pub overflow_add-length : goal.overflow_add-length
overflow_add-length c =
    let first = length_past c.args.encoding c.loop-step.rest.now c.in-Some.character.now c.in-Some.after.now c.in-Some.ensures.first in
    omega (arith, first, c.loop-step.invariant.counted, c.width-length.ensures, length_in-le c.args.encoding c.args.units.now)
