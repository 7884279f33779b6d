use Rattle.std.proofs.Common.{arith}
use Rattle.column_encodings.proofs.Ascii.{ascii_in_take, length_past_ascii, leads_past_ascii}
use Rattle.column_encodings.proofs.past_ascii.Goals as goal

pub returns-clause-length : goal.returns-clause-length
returns-clause-length c = λ encoding.
    let ascii = c.ascii_in_front-ascii.result in
    let units = c.args.units.now in
    let few = ascii_in_take c.min-looked_at.result units in
    rw (c.split_at.ensures.back, c.split_at.ensures.front_len) (length_past_ascii encoding ascii units (omega (arith, few, c.ascii_in_front-ascii.ensures.ascii)))

pub returns-clause-offset : goal.returns-clause-offset
returns-clause-offset c = λ encoding column within.
    let ascii = c.ascii_in_front-ascii.result in
    let units = c.args.units.now in
    let few = ascii_in_take c.min-looked_at.result units in
    rw (c.split_at.ensures.back, c.split_at.ensures.front_len)
    (leads_past_ascii encoding ascii units column (omega (arith, few, c.ascii_in_front-ascii.ensures.ascii)) (omega (arith, within, c.split_at.ensures.front_len)))
