use Rattle.std.proofs.Common.{◌<◌, ◌∷◌, ◌++◌, [], length, drop, ap, sym, subst, ◌∙◌, append_assoc, arith}
use Rattle.std.proofs.lemmas.List.{length-append}
use Rattle.std.proofs.lemmas.List.Elements.{All-same}
use Rattle.std.proofs.lemmas.Bool.{ltb-true, ltb-false}
use Rattle.piece_tree.specs.Pieces.{IsPieceOf, listed, back, unit_count}
use Rattle.piece_tree.specs.Runs.{pieces_in}
use Rattle.piece_tree.specs.Splicing.{IsLeft, count_left}
use Rattle.piece_tree.proofs.Cuts.{some_few}
use Rattle.piece_tree.proofs.Leaving.{all_first, some_left, none_left, can_keep}
use Rattle.piece_tree.proofs.Sums.{units-append}
use Rattle.piece_tree.proofs.PutPieces.{next_named, next_left, run_after, units-split}
use Rattle.piece_tree.proofs.put.remove_units.Goals as goal

pub get-pieces-requires : goal.get-pieces-requires
get-pieces-requires c =
    let (us, (x, (vs, e, all))) = c.loop-id.invariant.pieces in
    next_named c.loop-id.runs.runs us c.args.after x vs e c.in-Some.id c.next.result c.in-Some.is (c.next.ensures us x vs e)

pub left_of-left-requires-clause-counted : goal.left_of-left-requires-clause-counted
left_of-left-requires-clause-counted c =
    let b = c.args.chunks.now.buffers in
    let (us, (x, (vs, e, all))) = c.loop-id.invariant.pieces in
    let (y, (ws, at, first)) = run_after c.loop-id.runs.runs us c.args.after x vs c.in-Some.id c.next.result e c.in-Some.is (c.next.ensures us x vs e) in
    All-same (IsPieceOf b) c.get-pieces.result.now y (c.get-pieces.ensures.run (us ++ (c.args.after, x) ∷ []) y ws at) (all_first (IsPieceOf b) vs ws c.in-Some.id y first all).0

pub keep_left-requires-clause-can : goal.keep_left-requires-clause-can
keep_left-requires-clause-can c =
    let b = c.args.chunks.now.buffers in let left = c.left_of-left.result in let n = c.loop-id.missing in
    let (us, (x, (vs, e, all))) = c.loop-id.invariant.pieces in
    let (y, (ws, at, first)) = run_after c.loop-id.runs.runs us c.args.after x vs c.in-Some.id c.next.result e c.in-Some.is (c.next.ensures us x vs e) in
    let read = c.get-pieces.ensures.run (us ++ (c.args.after, x) ∷ []) y ws at in
    let is = subst (λ ps. IsLeft b ps 0 n left) read c.left_of-left.ensures.left in
    let some = ltb-true 0 (count_left left (length c.get-pieces.result.now)) (sym c.has_any.ensures ∙ c.if-has_any.true) in
    can_keep b n left c.loop-id.runs.runs (us ++ (c.args.after, x) ∷ []) c.in-Some.id y ws at is
    (omega (arith, some, ap length read)) (omega (arith, c.get-pieces.ensures.few, ap length read))

pub keep_left-requires-clause-counted : goal.keep_left-requires-clause-counted
keep_left-requires-clause-counted c = some_few c.args.chunks.now.buffers c.left_of-left.result.rest c.left_of-left.ensures.counted

pub returns-then-has_any-clause-left : goal.returns-then-has_any-clause-left
returns-then-has_any-clause-left c = λ us x vs e.
    let b = c.args.chunks.now.buffers in let left = c.left_of-left.result in let n = c.loop-id.missing in let id = c.in-Some.id in
    let (ws, f, same) = c.loop-id.invariant.left us x vs e in
    let (y, (zs, at, first)) = run_after c.loop-id.runs.runs us c.args.after x ws id c.next.result f c.in-Some.is (c.next.ensures us x ws f) in
    let read = c.get-pieces.ensures.run (us ++ (c.args.after, x) ∷ []) y zs at in
    let is = subst (λ ps. IsLeft b ps 0 n left) read c.left_of-left.ensures.left in
    let some = ltb-true 0 (count_left left (length c.get-pieces.result.now)) (sym c.has_any.ensures ∙ c.if-has_any.true) in
    let kept = (id, listed left.rest ++ drop left.from y) ∷ zs in record {
      later = kept;
      place = c.keep_left.ensures.kept (us ++ (c.args.after, x) ∷ []) y zs at ∙ append_assoc us ((c.args.after, x) ∷ []) kept;
      pieces_left = some_left b y 0 n left is (pieces_in zs) (omega (arith, some, ap length read)) ∙ ap (λ l. back b n (pieces_in l)) (sym first) ∙ sym same;
    }

pub remove-requires : goal.remove-requires
remove-requires c =
    let (us, (x, (vs, e, all))) = c.loop-id.invariant.pieces in
    next_named c.loop-id.runs.runs us c.args.after x vs e c.in-Some.id c.next.result c.in-Some.is (c.next.ensures us x vs e)

pub loop-id-smaller : goal.loop-id-smaller
loop-id-smaller c =
    let old = c.loop-id.runs.runs in let new = c.remove.new.self.runs in
    let (us, (x, (vs, e, all))) = c.loop-id.invariant.pieces in
    let (y, (ws, at, first, place)) = next_left old us c.args.after x vs e c.in-Some.id c.next.result c.in-Some.is (c.next.ensures us x vs e) new c.remove.ensures.runs in
    let less : length new < length old =
    omega (arith, ap length place, ap length e, ap length first, length-append us ((c.args.after, x) ∷ vs), length-append us ((c.args.after, x) ∷ ws)) in less

pub loop-id-preserved : goal.loop-id-preserved
loop-id-preserved c =
    let b = c.args.chunks.now.buffers in let left = c.left_of-left.result in let n = c.loop-id.missing in let id = c.in-Some.id in
    let old = c.loop-id.runs.runs in let new = c.remove.new.self.runs in
    let (us, (x, (vs, e, all))) = c.loop-id.invariant.pieces in
    let (y, (ws, at, first, place)) = next_left old us c.args.after x vs e id c.next.result c.in-Some.is (c.next.ensures us x vs e) new c.remove.ensures.runs in
    let none = ltb-false 0 (count_left left (length c.get-pieces.result.now)) (sym c.has_any.ensures ∙ c.if-has_any.false) in record {
      pieces = (us, (x, (ws, place, (all_first (IsPieceOf b) vs ws id y first all).1)));
      left = λ us0 x0 vs0 e0.
          let (ws0, f, same) = c.loop-id.invariant.left us0 x0 vs0 e0 in
          let (z, (zs, there, next, here)) = next_left old us0 c.args.after x0 ws0 f id c.next.result c.in-Some.is (c.next.ensures us0 x0 ws0 f) new c.remove.ensures.runs in
          let read = c.get-pieces.ensures.run (us0 ++ (c.args.after, x0) ∷ []) z zs there in
          let is = subst (λ ps. IsLeft b ps 0 n left) read c.left_of-left.ensures.left in
          (zs, here, same ∙ ap (λ l. back b n (pieces_in l)) next ∙ none_left b z 0 n left is (pieces_in zs) (omega (arith, none, ap length read)));
      small = omega (
        arith,
        c.loop-id.invariant.small,
        units-split old us c.args.after x vs e,
        units-split new us c.args.after x ws place,
        ap (λ l. unit_count (pieces_in l)) first,
        units-append y (pieces_in ws),
      );
      room = omega (arith, c.loop-id.invariant.room, c.remove.ensures.spare);
    }
