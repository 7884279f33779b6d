use Rattle.std.proofs.Common.{◌≡◌, sym, arith, rules}
use Rattle.column_encodings.specs.declared.Encoding.TheVariants.{Utf16}
use Rattle.column_encodings.proofs.Characters.{length_in-le}
use Rattle.column_encodings.proofs.Lengths.{length_in-utf16}
use Rattle.column_encodings.proofs.length_in.Goals as goal

pub overflow_add-length : goal.overflow_add-length
overflow_add-length c =
    let some = c.past_characters-some.ensures.length in
    let ascii = c.past_ascii-ascii.ensures.length c.args.encoding in
    omega (arith, some, ascii, c.loop-rest.invariant, length_in-le c.args.encoding c.args.units.now)

pub overflow_add-length-in-loop-rest : goal.overflow_add-length-in-loop-rest
overflow_add-length-in-loop-rest c =
    let some = c.past_characters-some.ensures.length in
    let ascii = c.past_ascii-ascii.ensures.length c.args.encoding in
    omega (arith, some, ascii, c.loop-rest.invariant, length_in-le c.args.encoding c.args.units.now)

pub returns-then-eq : goal.returns-then-eq
returns-then-eq c =
    let is : c.args.encoding ≡ Utf16 = search rules in
    rw is (sym (length_in-utf16 c.args.units.now))
