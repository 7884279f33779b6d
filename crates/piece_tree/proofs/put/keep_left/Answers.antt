use Rattle.std.proofs.Common.{◌≡◌, ◌++◌, length, drop, ap, ◌∙◌, arith}
use Rattle.std.proofs.lemmas.List.{length-append, length-drop}
use Rattle.piece_tree.specs.Pieces.{listed, unit_count}
use Rattle.piece_tree.proofs.Sums.{units-append}
use Rattle.piece_tree.proofs.PutPieces.{units-split, units-replaced, length-listed}
use Rattle.piece_tree.proofs.put.keep_left.Goals as goal

pub replace_in-requires-clause-fits : goal.replace_in-requires-clause-fits
replace_in-requires-clause-fits c =
    let can = c.requires.can in let rest = listed c.args.left.now.rest in let from = c.args.left.now.from in let others = drop from can.pieces in
    let with : c.pieces.result.now ≡ rest = c.pieces.ensures ∙ c.push_some.ensures.pieces ∙ ap (λ ps. ps ++ rest) c.new-with.ensures.none in
    let size = ap length with in let one = length-listed c.args.left.now.rest in
    let both = length-append rest others in let behind = length-drop from can.pieces in
    record {
      earlier = can.earlier;
      pieces = can.pieces;
      later = can.later;
      place = can.place;
      ordered = omega arith;
      within = can.within;
      some = omega (arith, can.some);
      few = omega (arith, can.few, can.within, c.if-left-eq0.false);
      small = omega (
        arith,
        can.fewer,
        c.requires.small,
        units-append rest others,
        ap unit_count with,
        units-replaced 0 from c.pieces.result.now can.pieces,
        units-split c.args.runs.now.runs can.earlier c.args.id can.pieces can.later can.place,
      );
    }
