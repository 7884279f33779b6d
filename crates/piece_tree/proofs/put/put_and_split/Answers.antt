use Rattle.std.proofs.Common.{◌≡◌, ◌≤◌, ◌++◌, List, [], length, drop, ap, ◌∙◌, arith}
use Rattle.std.proofs.lemmas.List.{drop_all, take_rest}
use Rattle.std.proofs.lemmas.List.Elements.{All-same, All-append, All-drop}
use Rattle.piece_tree.specs.declared.piece.Piece.{Piece}
use Rattle.piece_tree.specs.Pieces.{unit_count}
use Rattle.piece_tree.specs.Searches.{few_breaks}
use Rattle.piece_tree.specs.Runs.{replaced}
use Rattle.piece_tree.proofs.Sums.{units-append}
use Rattle.piece_tree.proofs.PutPieces.{puts_beside, puts_apart, replaced_end, units-split, units-replaced}
use Rattle.piece_tree.proofs.put.put_and_split.Goals as goal

pub returns-then-place-with-le-MOST_PIECES-clause-put : goal.returns-then-place-with-le-MOST_PIECES-clause-put
returns-then-place-with-le-MOST_PIECES-clause-put c = λ us x vs e.
    let id = c.args.id in let to = c.args.to in let with = c.args.with.now in let can = c.requires.can in let end = length c.get-count.result.now in
    let size = ap length (c.get-count.ensures.run us x vs e) in
    let same = ap length (c.get-count.ensures.run can.earlier can.pieces can.later can.place) in
    let within : id.place ≤ length x = omega (arith, can.ordered, can.within) in
    let behind : c.pieces.result.now ≡ drop to x = c.pieces.ensures ∙ c.of-behind.ensures.pieces ∙ take_rest c.get.result.now to ∙ ap (drop to) (c.get.ensures.run us x vs e) in
    puts_beside id to with us x vs c.insert_after.new.self.runs c.first_put.result c.insert_after.result end c.pieces.result.now within (omega arith)
    (c.insert_after.ensures.runs us (replaced id.place end with x) vs (c.replace_in.ensures.runs us x vs e)) behind c.first_put.ensures

-- what goes into the new run
more_is : (more with other behind source : List Piece) → more ≡ replaced (length with) (length with) behind source → source ≡ with → behind ≡ other → more ≡ with ++ other
more_is more with other behind source is same from =
    is ∙ (λ i. replaced (length with) (length with) (from i) (same i)) ∙ replaced_end with other

pub insert_after-other-requires-clause-counted : goal.insert_after-other-requires-clause-counted
insert_after-other-requires-clause-counted c =
    let with = c.args.with.now in let behind = drop c.args.to c.get.result.now in
    let more : c.pieces-3.result.now ≡ with ++ behind =
    more_is c.pieces-3.result.now with behind c.pieces-2.result.now _ (c.pieces-3.ensures ∙ c.replace.ensures.pieces) c.of-more.ensures.pieces (c.pieces-2.ensures ∙ c.of-behind.ensures.pieces ∙ take_rest c.get.result.now c.args.to) in
    All-same few_breaks c.pieces-3.result.now (with ++ behind) more
    (All-append few_breaks with behind c.requires.counted (All-drop few_breaks c.args.to c.get.result.now c.get.ensures.counted))

pub insert_after-other-requires-clause-small : goal.insert_after-other-requires-clause-small
insert_after-other-requires-clause-small c =
    let id = c.args.id in let to = c.args.to in let with = c.args.with.now in let can = c.requires.can in let end = length c.get-count.result.now in
    let x = can.pieces in
    let size = ap length (c.get-count.ensures.run can.earlier x can.later can.place) in
    let more : c.pieces-3.result.now ≡ with ++ drop to x =
    more_is c.pieces-3.result.now with (drop to x) c.pieces-2.result.now _ (c.pieces-3.ensures ∙ c.replace.ensures.pieces) c.of-more.ensures.pieces
    (c.pieces-2.ensures ∙ c.of-behind.ensures.pieces ∙ take_rest c.get.result.now to ∙ ap (drop to) (c.get.ensures.run can.earlier x can.later can.place)) in
    let own = c.replace_in-2.ensures.runs can.earlier x can.later can.place in
    omega (
      arith,
      can.small,
      ap unit_count more,
      units-append with (drop to x),
      units-split c.replace_in-2.new.self.runs can.earlier id.run (replaced id.place end [] x) can.later own,
      units-replaced id.place end [] x,
      units-replaced id.place to with x,
      ap unit_count (drop_all end x (omega (arith, size))),
    )

pub returns-clause-put : goal.returns-clause-put
returns-clause-put c = λ us x vs e.
    let id = c.args.id in let to = c.args.to in let with = c.args.with.now in let end = length c.get-count.result.now in
    let size = ap length (c.get-count.ensures.run us x vs e) in
    let more : c.pieces-3.result.now ≡ with ++ drop to x =
    more_is c.pieces-3.result.now with (drop to x) c.pieces-2.result.now _ (c.pieces-3.ensures ∙ c.replace.ensures.pieces) c.of-more.ensures.pieces
    (c.pieces-2.ensures ∙ c.of-behind.ensures.pieces ∙ take_rest c.get.result.now to ∙ ap (drop to) (c.get.ensures.run us x vs e)) in
    puts_apart id to with us x vs c.insert_after-other.new.self.runs c.first_put-2.result c.insert_after-other.result end c.pieces-3.result.now (omega arith)
    (c.insert_after-other.ensures.runs us (replaced id.place end [] x) vs (c.replace_in-2.ensures.runs us x vs e)) more c.first_put-2.ensures
