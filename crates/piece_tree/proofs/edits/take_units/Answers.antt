use Rattle.std.proofs.Common.{length, ap, sym, subst, ◌∙◌, arith}
use Rattle.std.proofs.lemmas.Bool.{ltb-true, ltb-false}
use Rattle.piece_tree.specs.Runs.{pieces_in}
use Rattle.piece_tree.specs.Splicing.{IsLeft, count_left}
use Rattle.piece_tree.proofs.Leaving.{some_left, left_behind}
use Rattle.piece_tree.proofs.edits.take_units.Goals as goal

pub returns-then-has_any-clause-taken : goal.returns-then-has_any-clause-taken
returns-then-has_any-clause-taken c = λ us x vs e.
    let b = c.args.chunks.now.buffers in let left = c.left_of-left.result in let n = c.args.units in let place = c.args.id.place in
    let read = c.get-pieces.ensures.run us x vs e in
    let is = subst (λ ps. IsLeft b ps place n left) read c.left_of-left.ensures.left in
    let some = ltb-true 0 (count_left left (length c.get-pieces.result.now)) (sym c.has_any.ensures ∙ c.if-has_any.true) in record {
      later = vs;
      place = e;
      ordered = is.ordered;
      within = is.within;
      pieces_left = some_left b x place n left is (pieces_in vs) (omega (arith, some, ap length read));
    }

pub returns-clause-taken : goal.returns-clause-taken
returns-clause-taken c = λ us x vs e.
    let b = c.args.chunks.now.buffers in let left = c.left_of-left.result in let n = c.args.units in let place = c.args.id.place in
    let read = c.get-pieces.ensures.run us x vs e in
    let is = subst (λ ps. IsLeft b ps place n left) read c.left_of-left.ensures.left in
    let none = ltb-false 0 (count_left left (length c.get-pieces.result.now)) (sym c.has_any.ensures ∙ c.if-has_any.false) in
    let h = c.remove_units.ensures.left us x vs e in record {
      later = h.later;
      place = h.place;
      ordered = is.ordered;
      within = is.within;
      pieces_left = left_behind b x place n left is (pieces_in vs) (pieces_in h.later) (omega (arith, none, ap length read)) h.pieces_left;
    }
