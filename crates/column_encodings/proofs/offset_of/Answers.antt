use Rattle.std.proofs.Common.{◌≡◌, ◌-◌, ◌<◌, length, sym, arith, rules}
use Rattle.column_encodings.specs.declared.Encoding.TheVariants.{Utf16}
use Rattle.column_encodings.specs.Columns.{offset_of}
use Rattle.column_encodings.proofs.Ascii.{none_past, offset_step_past}
use Rattle.column_encodings.proofs.Utf16.{offset_of-utf16, place_within}
use Rattle.column_encodings.proofs.offset_of.Goals as goal

pub loop-left-init : goal.loop-left-init
loop-left-init c =
    let units = c.args.units.now in
    let rest = c.past_ascii-ascii.result.1.now in
    let past = c.past_ascii-ascii.ensures in record {
      offset = offset_step_past c.args.encoding units rest 0 (length units - length rest) c.args.column (c.args.column - c.past_ascii-ascii.result.0) _
          (omega arith) (past.offset c.args.encoding c.args.column past.few) (sym (none_past (offset_of c.args.encoding units c.args.column)));
      within = omega (arith, past.all);
    }

pub loop-left-preserved : goal.loop-left-preserved
loop-left-preserved c =
    let end = length c.args.units.now in
    let rest = c.loop-left.rest.now in
    let others = c.in_ok-others.others in
    let behind = c.in_ok-others.behind.now in
    let next = c.past_ascii-ascii-in-loop-left.result.1.now in
    let past = c.past_ascii-ascii-in-loop-left.ensures in
    let within = c.loop-left.invariant.within in
    let fewer : length behind < length rest = c.in_ok-others.ensures.fewer in record {
      offset = offset_step_past c.args.encoding behind next (end - length behind) (end - length next) others (others - c.past_ascii-ascii-in-loop-left.result.0) _
          (omega (arith, past.all, fewer, within)) (past.offset c.args.encoding others past.few)
          (offset_step_past c.args.encoding rest behind (end - length rest) (end - length behind) c.loop-left.left others _
          (omega (arith, fewer, within)) c.in_ok-others.ensures.some c.loop-left.invariant.offset);
      within = omega (arith, past.all, fewer, within);
    }

pub returns-then-eq-clause-offset : goal.returns-then-eq-clause-offset
returns-then-eq-clause-offset c =
    let is : c.args.encoding ≡ Utf16 = search rules in
    rw (is, offset_of-utf16 c.args.units.now c.args.column, ← c.is_place.ensures) c.then_some.ensures

pub returns-then-eq-clause-within : goal.returns-then-eq-clause-within
returns-then-eq-clause-within c =
    rw c.then_some.ensures (place_within c.args.units.now c.args.column c.is_place.result c.is_place.ensures)
