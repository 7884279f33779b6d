use Rattle.std.proofs.Common.{◌≡◌, ◌+◌, ◌≤◌, ◌++◌, ap, sym, subst, ◌∙◌, arith}
use Rattle.std.specs.Option.{IfSome}
use Rattle.std.proofs.lemmas.List.Elements.{All-same}
use Rattle.piece_tree.specs.Pieces.{IsFound, unit_count, listed, span_of}
use Rattle.piece_tree.specs.Searches.{few_breaks}
use Rattle.piece_tree.specs.Runs.{entries_of}
use Rattle.piece_tree.specs.Splicing.{HeadsRest, joined}
use Rattle.piece_tree.proofs.Cuts.{piece_few}
use Rattle.piece_tree.proofs.Prolonged.{listed_is}
use Rattle.piece_tree.proofs.Fronts.{keeps_before}
use Rattle.piece_tree.proofs.Heads.{heads_found, heads_near, heads_none}
use Rattle.piece_tree.proofs.Splices.{there, can_take, can_put, spliced_put, joined_few}
use Rattle.piece_tree.proofs.edits.replace_units.Goals as goal

pub put_only-requires-clause-few : goal.put_only-requires-clause-few
put_only-requires-clause-few c =
    let piece = c.in_ok-piece.field-0 in piece_few c.args.chunks.now.buffers piece (c.requires.counted piece c.in_ok-piece.was)

pub take_units-left-requires-clause-can : goal.take_units-left-requires-clause-can
take_units-left-requires-clause-can c =
    can_take c.args.chunks.now.buffers c.args.offset (c.args.offset + c.args.deleted) (span_of c.args.piece) c.args.runs.now.runs c.in-Some.cut c.in-Some.ensures c.requires.pieces

pub put-first-requires-clause-can : goal.put-first-requires-clause-can
put-first-requires-clause-can c =
    let b = c.args.chunks.now.buffers in let start = c.args.offset in let end = c.args.offset + c.args.deleted in let span = span_of c.args.piece in
    let runs = c.args.runs.now.runs in let cut = c.in-Some.cut in let is = c.in-Some.ensures in
    let h = there b start end span runs cut is c.requires.pieces in
    can_put b start end span runs cut is c.requires.pieces c.take_units-left.new.runs.runs c.take_units-left.result (c.take_units-left.ensures.taken h.us h.x h.vs h.place)
    c.pieces.result.now (c.pieces.ensures ∙ c.joined-with.ensures.pieces) (omega (arith, c.requires.range))
    (omega (arith, c.requires.range, c.requires.fits, ap unit_count (listed_is b c.args.piece c.requires.counted)))

pub put-first-requires-clause-counted : goal.put-first-requires-clause-counted
put-first-requires-clause-counted c =
    let b = c.args.chunks.now.buffers in let cut = c.in-Some.cut in let is = c.in-Some.ensures in let left = c.take_units-left.result in
    All-same few_breaks c.pieces.result.now (joined b cut.left (span_of c.args.piece) left.rest) (c.pieces.ensures ∙ c.joined-with.ensures.pieces)
    (joined_few b cut.left c.args.piece left.rest is.counted c.requires.counted c.take_units-left.ensures.counted)

pub returns : goal.returns
returns c =
    let b = c.args.chunks.now.buffers in let start = c.args.offset in let end = c.args.offset + c.args.deleted in let span = span_of c.args.piece in
    let runs = c.args.runs.now.runs in let new = c.put-first.new.runs.runs in let cut = c.in-Some.cut in let is = c.in-Some.ensures in let left = c.take_units-left.result in
    let with = c.pieces.result.now in let first = c.put-first.result in
    let same : with ≡ joined b cut.left span left.rest = c.pieces.ensures ∙ c.joined-with.ensures.pieces in
    let h = there b start end span runs cut is c.requires.pieces in
    let taken = c.take_units-left.ensures.taken h.us h.x h.vs h.place in
    let puts = c.put-first.ensures.put h.us h.x taken.later taken.place in
    let heads = subst (λ ps. HeadsRest is.earlier ps first (entries_of new)) same (subst (λ es. HeadsRest es with first (entries_of new)) (sym h.front) puts.first) in record {
      spliced = spliced_put b start end span runs cut is c.requires.pieces c.take_units-left.new.runs.runs left taken _ with same puts.pieces;
      front = keeps_before start (entries_of runs) (entries_of new) is.earlier cut.id is.piece is.later puts.behind is.place is.reach
          (puts.front ∙ ap (λ es. es ++ puts.behind) (sym h.front));
      told = subst (λ o. IfSome o (IsFound (entries_of new))) (sym c.found_first.ensures)
          (heads_found is.earlier (joined b cut.left span left.rest) first (entries_of new) cut.before is.before heads);
      near = subst (λ o. IfSome o (λ found. (found.before.units ≤ start) × (start ≤ found.before.units + found.span.units))) (sym c.found_first.ensures)
          (heads_near b is.earlier (listed left.rest) (entries_of new) cut.left span first cut.before start is.before is.begins heads);
      none = λ none. heads_none b is.earlier (listed left.rest) (entries_of new) cut.left c.args.piece first cut.before (sym c.found_first.ensures ∙ none) heads;
      room = omega (arith, c.take_units-left.ensures.room, c.put-first.ensures.room);
    }
