use Rattle.std.proofs.Common.{arith, ap, sym, length, flat_map, encode_utf8, length-append, ◌∙◌}
use Rattle.std.specs.Char.Escape.{encode_utf16}
use Rattle.std.specs.Str.Iter.{chars_rest}
use Rattle.std.proofs.lemmas.Iterator.{YieldsList-from_chars}
use Rattle.std.proofs.lemmas.Iterator.Consumers.{YieldsList-end}
use Rattle.std.proofs.lemmas.List.{map-id}
use Rattle.stops.proofs.Widths.{units_within, more_units}
use Rattle.stops.proofs.width.Goals as goal

pub overflow_add-width : goal.overflow_add-width
overflow_add-width c =
    let few = c.chars-c-items.ensures.len in
    let rest = length-append (encode_utf8 c.in-Some.c) (chars_rest c.next.new.self) in
    let char = units_within c.in-Some.c c.len_utf16.result c.len_utf16.ensures.bmp c.len_utf16.ensures.surrogate_pair in
    omega (arith, ap length c.in-Some.ensures.steps.0, rest, char, c.loop-c.invariant.within, few)

pub loop-c-preserved : goal.loop-c-preserved
loop-c-preserved c =
    let rest = length-append (encode_utf8 c.in-Some.c) (chars_rest c.next.new.self) in
    let char = units_within c.in-Some.c c.len_utf16.result c.len_utf16.ensures.bmp c.len_utf16.ensures.surrogate_pair in record {
      units = omega (
        arith,
        c.loop-c.invariant.units,
        more_units c.in-Some.c c.len_utf16.result c.len_utf16.ensures.bmp c.len_utf16.ensures.surrogate_pair c.loop-c.yielded,
      );
      within = omega (arith, ap length c.in-Some.ensures.steps.0, rest, char, c.loop-c.invariant.within);
    }

pub returns-clause-units : goal.returns-clause-units
returns-clause-units c =
    let e = YieldsList-end (YieldsList-from_chars c.args.cluster.now c.utf8.cluster cc) c.loop-c.yielded _ c.loop-c.yielded_by _ _ c.in-None.is c.next.ensures.steps in
    c.loop-c.invariant.units ∙ ap (λ cs. length (flat_map encode_utf16 cs)) (sym (map-id c.loop-c.yielded) ∙ e.0)
