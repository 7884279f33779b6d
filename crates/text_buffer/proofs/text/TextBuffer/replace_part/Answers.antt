use Rattle.std.proofs.Common.{◌≡◌, ◌+◌, ◌-◌, ◌<◌, ◌≤◌, ◌^◌, ◌∷◌, ◌++◌, ◌==◌, true, false, Some, List, ℕ, take, length, map, drop, refl, subst, ◌∙◌, ap, sym, arith}
use Rattle.std.proofs.lemmas.Bool.{false≢true, eq-eqb}
use Rattle.std.proofs.lemmas.List.{length-map, length-append}
use Rattle.chunk_buffers.specs.declared.span.ChunkSpan.{ChunkSpan}
use Rattle.chunk_buffers.specs.Chunks.{buffer_at, LiesIn, part_of}
use Rattle.chunk_buffers.specs.Chunks as C
use Rattle.piece_tree.specs.declared.piece.Piece.{Piece}
use Rattle.piece_tree.specs.Pieces.{pieces_of, unit_count, front, back, span_of, StandsAt}
use Rattle.piece_tree.proofs.Cuts.{units-front}
use Rattle.text_rules.specs.Breaks.{joins_pair}
use Rattle.text_rules.specs.Lines.{carriage_return, line_feed, lines_of}
use Rattle.text_rules.specs.Dirty.{dirty_lines}
use Rattle.unit_text.specs.Kinds.{IsOfKind}
use Rattle.text_buffer.specs.declared.beside.TheConstants.{MOST_BREAKS_ALONG}
use Rattle.text_buffer.specs.Room.{units_beside_text}
use Rattle.text_buffer.specs.Text.{text_of, most_along, GrowsAt}
use Rattle.text_buffer.specs.Along.{is_little, rest_before, rest_behind, units_along, LeavesLittle}
use Rattle.text_buffer.proofs.Touched.{before_dirty, after_dirty}
use Rattle.text_buffer.proofs.AddedBreaks.{added_breaks}
use Rattle.text_buffer.proofs.Along.{IsFrontAlong, IsBackAlong, front_along, back_along, front_fits, back_fits, rests_front, rests_back, front_cuts, if_some, none_along, both_cut, first_length, last_length, little_units}
use Rattle.text_buffer.proofs.Spots.{spot_within}
use Rattle.text_buffer.proofs.Spelling.{length-spelled}
use Rattle.text_buffer.proofs.Extended.{pieces-extended}
use Rattle.text_buffer.proofs.Edited.{IsReplaced, IsReplaced-of, front_border, units-listed, length-edited}
use Rattle.text_buffer.proofs.Growing.{split_spans, adds_none, grows_later, at_border, takes_place}
use Rattle.text_buffer.proofs.Found.{units_shown, own, pieces_are}
use Rattle.text_buffer.proofs.text.TextBuffer.replace_part.Goals as goal
use Rattle.text_buffer.proofs.text.TextBuffer.replace_part.Goals.{After-rests_of-rests, After-as_slice-after, After-splice-told}

-- what was asked at the two ends
front_is : (c : After-rests_of-rests) → c.joins_of-joins.result.front ≡ joins_pair (take c.args.span.start c.args.self.now.units) (c.args.text.now ++ drop c.args.span.end c.args.self.now.units)
front_is c =
    ap (λ j. j.front) c.joins_of-joins.ensures
    ∙ (λ i. joins_pair (take (c.ends_of-ends.ensures.span i).start (c.self.view_is i).units) (c.args.text.now ++ drop (c.ends_of-ends.ensures.span i).end (c.self.view_is i).units))

back_is : (c : After-rests_of-rests) → c.joins_of-joins.result.back ≡ joins_pair (take c.args.span.start c.args.self.now.units ++ c.args.text.now) (drop c.args.span.end c.args.self.now.units)
back_is c =
    ap (λ j. j.back) c.joins_of-joins.ensures
    ∙ (λ i. joins_pair (take (c.ends_of-ends.ensures.span i).start (c.self.view_is i).units ++ c.args.text.now) (drop (c.ends_of-ends.ensures.span i).end (c.self.view_is i).units))

-- the rests are those at the two places
front_rest : (c : After-rests_of-rests) (part : ChunkSpan) → c.rests_of-rests.result.front ≡ Some part
    → rest_before c.self.inside.chunks.buffers c.ends_of-ends.result.start.found c.ends_of-ends.result.start.offset ≡ Some part
front_rest c part e =
    rests_front c.self.inside.chunks.buffers c.ends_of-ends.result.start c.ends_of-ends.result.end (length c.args.text.now) part (sym (ap (λ r. r.front) c.rests_of-rests.ensures) ∙ e)

back_rest : (c : After-rests_of-rests) (part : ChunkSpan) → c.rests_of-rests.result.back ≡ Some part
    → ((c.ends_of-ends.result.start.offset == c.ends_of-ends.result.end.offset) ≡ false)
    × (rest_behind c.self.inside.chunks.buffers c.ends_of-ends.result.end.found c.ends_of-ends.result.end.offset ≡ Some part)
back_rest c part e =
    rests_back c.self.inside.chunks.buffers c.ends_of-ends.result.start c.ends_of-ends.result.end (length c.args.text.now) part (sym (ap (λ r. r.back) c.rests_of-rests.ensures) ∙ e)

-- what is taken along on both sides
ahead : (c : After-as_slice-after) → c.joins_of-joins.result.front ≡ joins_pair (take c.args.span.start c.args.self.now.units) (c.args.text.now ++ drop c.args.span.end c.args.self.now.units)
    → ((part : ChunkSpan) → c.rests_of-rests.result.front ≡ Some part → rest_before c.self.inside.chunks.buffers c.ends_of-ends.result.start.found c.ends_of-ends.result.start.offset ≡ Some part)
    → IsFrontAlong c.args.self.now.units c.args.span.start c.joins_of-joins.result.front c.as_slice-before.result.now
ahead c joins rest =
    let tree = c.self.inside.pieces in let chunks = c.self.inside.chunks in let spot = c.ends_of-ends.result.start in let there = c.ends_of-ends.ensures.ends.start in
    let x_is = ap (λ v. v.units) c.self.view_is in let at = (ap (λ s. s.start) c.ends_of-ends.ensures.span) in
    let more : List ℕ = c.args.text.now ++ drop c.args.span.end c.args.self.now.units in
    let here = joins ∙ (λ i. joins_pair (take (sym at i) (sym x_is i)) more) in
    let is = front_along tree chunks c.self.invariant.seen.text spot there (spot_within tree chunks spot.found spot.offset c.self.invariant.seen.text there.found)
    c.rests_of-rests.result.front c.joins_of-joins.result.front more here rest in
    subst {A = List ℕ × ℕ × List ℕ} (λ p. IsFrontAlong p.0 p.1 c.joins_of-joins.result.front p.2)
    (λ i. (x_is i, at i, sym (c.as_slice-before.ensures.value ∙ c.units_along-front.ensures) i)) is

behind : (c : After-as_slice-after) → c.joins_of-joins.result.back ≡ joins_pair (take c.args.span.start c.args.self.now.units ++ c.args.text.now) (drop c.args.span.end c.args.self.now.units)
    → ((part : ChunkSpan) → c.rests_of-rests.result.back ≡ Some part → rest_behind c.self.inside.chunks.buffers c.ends_of-ends.result.end.found c.ends_of-ends.result.end.offset ≡ Some part)
    → IsBackAlong c.args.self.now.units c.args.span.end c.joins_of-joins.result.back c.as_slice-after.result.now
behind c joins rest =
    let tree = c.self.inside.pieces in let chunks = c.self.inside.chunks in let spot = c.ends_of-ends.result.end in let there = c.ends_of-ends.ensures.ends.end in
    let x_is = ap (λ v. v.units) c.self.view_is in let at = (ap (λ s. s.end) c.ends_of-ends.ensures.span) in
    let more : List ℕ = take c.args.span.start c.args.self.now.units ++ c.args.text.now in
    let here = joins ∙ (λ i. joins_pair more (drop (sym at i) (sym x_is i))) in
    let is = back_along tree chunks c.self.invariant.seen.text spot there (spot_within tree chunks spot.found spot.offset c.self.invariant.seen.text there.found)
    c.rests_of-rests.result.back c.joins_of-joins.result.back more here rest in
    subst {A = List ℕ × ℕ × List ℕ} (λ p. IsBackAlong p.0 p.1 c.joins_of-joins.result.back p.2)
    (λ i. (x_is i, at i, sym (c.as_slice-after.ensures.value ∙ c.units_along-back.ensures) i)) is

pub ends_of-ends-requires-clause-within : goal.ends_of-ends-requires-clause-within
ends_of-ends-requires-clause-within c = omega (arith, ap (λ v. length v.units) c.self.view_is, c.requires.within)

-- what a front or a back takes along fits
pub units_along-front-requires-clause-inside : goal.units_along-front-requires-clause-inside
units_along-front-requires-clause-inside c =
    let at = (goal.at.units_along-front-requires-clause-inside c).After-rests_of-rests in
    let tree = c.self.inside.pieces in let chunks = c.self.inside.chunks in let spot = c.ends_of-ends.result.start in let there = c.ends_of-ends.ensures.ends.start in
    if_some (LiesIn chunks.buffers) c.rests_of-rests.result.front
    (λ part e. (front_fits tree chunks c.self.invariant.seen.text spot there (spot_within tree chunks spot.found spot.offset c.self.invariant.seen.text there.found) part (front_rest at part e)).0)

pub units_along-front-requires-clause-few : goal.units_along-front-requires-clause-few
units_along-front-requires-clause-few c =
    let at = (goal.at.units_along-front-requires-clause-few c).After-rests_of-rests in
    let tree = c.self.inside.pieces in let chunks = c.self.inside.chunks in let spot = c.ends_of-ends.result.start in let there = c.ends_of-ends.ensures.ends.start in
    if_some (λ span. span.units ≤ most_along) c.rests_of-rests.result.front
    (λ part e. (front_fits tree chunks c.self.invariant.seen.text spot there (spot_within tree chunks spot.found spot.offset c.self.invariant.seen.text there.found) part (front_rest at part e)).1)

pub units_along-back-requires-clause-inside : goal.units_along-back-requires-clause-inside
units_along-back-requires-clause-inside c =
    let at = (goal.at.units_along-back-requires-clause-inside c).After-rests_of-rests in
    let tree = c.self.inside.pieces in let chunks = c.self.inside.chunks in let spot = c.ends_of-ends.result.end in let there = c.ends_of-ends.ensures.ends.end in
    if_some (LiesIn chunks.buffers) c.rests_of-rests.result.back
    (λ part e. (back_fits tree chunks c.self.invariant.seen.text spot there (spot_within tree chunks spot.found spot.offset c.self.invariant.seen.text there.found) part (back_rest at part e).1).0)

pub units_along-back-requires-clause-few : goal.units_along-back-requires-clause-few
units_along-back-requires-clause-few c =
    let at = (goal.at.units_along-back-requires-clause-few c).After-rests_of-rests in
    let tree = c.self.inside.pieces in let chunks = c.self.inside.chunks in let spot = c.ends_of-ends.result.end in let there = c.ends_of-ends.ensures.ends.end in
    if_some (λ span. span.units ≤ most_along) c.rests_of-rests.result.back
    (λ part e. (back_fits tree chunks c.self.invariant.seen.text spot there (spot_within tree chunks spot.found spot.offset c.self.invariant.seen.text there.found) part (back_rest at part e).1).1)

pub found_before-at-requires-clause-there : goal.found_before-at-requires-clause-there
found_before-at-requires-clause-there c =
    let to = goal.at.found_before-at-requires-clause-there c in let at = to.After-rests_of-rests in
    let there = (ahead to.After-as_slice-after (front_is at) (front_rest at)).there in
    omega (arith, there, (ap (λ s. s.start) c.ends_of-ends.ensures.span))

pub overflow_sub-from : goal.overflow_sub-from
overflow_sub-from c =
    let to = goal.at.overflow_sub-from c in let at = to.After-rests_of-rests in
    omega (arith, (ahead to.After-as_slice-after (front_is at) (front_rest at)).there)

pub overflow_add-to : goal.overflow_add-to
overflow_add-to c =
    let to = goal.at.overflow_add-to c in let at = to.After-rests_of-rests in
    let few = (behind to.After-as_slice-after (back_is at) (λ part e. (back_rest at part e).1)).few in
    let size = ap (λ v. length v.units) c.self.view_is in
    omega (arith, c.ends_of-ends.ensures.ends.end.small, size, c.requires.within, few)

pub put_some-added-requires-clause-room : goal.put_some-added-requires-clause-room
put_some-added-requires-clause-room c =
    let to = goal.at.put_some-added-requires-clause-room c in let at = to.After-rests_of-rests in
    let one = (ahead to.After-as_slice-after (front_is at) (front_rest at)).few in
    let two = (behind to.After-as_slice-after (back_is at) (λ part e. (back_rest at part e).1)).few in
    let before = c.as_slice-before.result.now in let after = c.as_slice-after.result.now in
    omega (arith, one, two, length-append (before ++ c.args.text.now) after, length-append before c.args.text.now, ap (λ v. v.room.units) c.self.view_is, c.requires.room.units)

pub put_some-added-requires-clause-breaks : goal.put_some-added-requires-clause-breaks
put_some-added-requires-clause-breaks c =
    let to = goal.at.put_some-added-requires-clause-breaks c in let at = to.After-rests_of-rests in
    let one = (ahead to.After-as_slice-after (front_is at) (front_rest at)).breaks in
    let two = (behind to.After-as_slice-after (back_is at) (λ part e. (back_rest at part e).1)).breaks in
    omega (arith, added_breaks MOST_BREAKS_ALONG c.as_slice-before.result.now c.args.text.now c.as_slice-after.result.now one two, ap (λ v. v.room.breaks) c.self.view_is, c.requires.room.breaks)

pub splice-told-requires-clause-place : goal.splice-told-requires-clause-place
splice-told-requires-clause-place c =
    let from : c.ends_of-ends.result.start.offset - length c.as_slice-before.result.now ≡ c.args.span.start - length c.as_slice-before.result.now = omega (arith, (ap (λ s. s.start) c.ends_of-ends.ensures.span)) in
    subst (StandsAt c.self.inside.pieces.entries c.found_before-at.result) from c.found_before-at.ensures

pub splice-told-requires-clause-range : goal.splice-told-requires-clause-range
splice-told-requires-clause-range c =
    let to = goal.at.splice-told-requires-clause-range c in let at = to.After-rests_of-rests in
    let there = (behind to.After-as_slice-after (back_is at) (λ part e. (back_rest at part e).1)).there in
    omega (arith, units_shown c.self.inside.pieces c.self.inside.chunks c.args.self.now c.self.invariant.seen.text c.self.view_is, there, c.requires.ordered)

pub splice-told-requires-clause-pieces : goal.splice-told-requires-clause-pieces
splice-told-requires-clause-pieces c =
    pieces-extended c.self.inside.chunks.buffers c.put_some-added.new.chunks.buffers c.put_some-added.ensures.grown (pieces_of c.self.inside.pieces.entries) c.self.invariant.seen.text.pieces

pub splice-told-requires-clause-small : goal.splice-told-requires-clause-small
splice-told-requires-clause-small c =
    let to = goal.at.splice-told-requires-clause-small c in let at = to.After-rests_of-rests in
    let one = (ahead to.After-as_slice-after (front_is at) (front_rest at)).there in
    let two = (behind to.After-as_slice-after (back_is at) (λ part e. (back_rest at part e).1)).there in
    let before = c.as_slice-before.result.now in let after = c.as_slice-after.result.now in let text = c.args.text.now in
    let count = units_shown c.self.inside.pieces c.self.inside.chunks c.args.self.now c.self.invariant.seen.text c.self.view_is in
    let added = units-listed c.put_some-added.new.chunks.buffers c.put_some-added.result (before ++ text ++ after) c.put_some-added.ensures.added c.put_some-added.ensures.counted in
    omega (
      arith,
      count,
      added,
      length-append (before ++ text) after,
      length-append before text,
      one,
      two,
      c.requires.small,
      c.requires.ordered,
      length-edited c.args.self.now.units text c.args.span.start c.args.span.end (omega (arith, c.requires.ordered, c.requires.within)),
    )

replaced : (c : After-splice-told) → IsFrontAlong c.args.self.now.units c.args.span.start c.joins_of-joins.result.front c.as_slice-before.result.now
    → IsBackAlong c.args.self.now.units c.args.span.end c.joins_of-joins.result.back c.as_slice-after.result.now
    → c.joins_of-joins.result.front ≡ joins_pair (take c.args.span.start c.args.self.now.units) (c.args.text.now ++ drop c.args.span.end c.args.self.now.units)
    → c.joins_of-joins.result.back ≡ joins_pair (take c.args.span.start c.args.self.now.units ++ c.args.text.now) (drop c.args.span.end c.args.self.now.units)
    → IsReplaced c.put_some-added.new.chunks.buffers (pieces_of c.self.inside.pieces.entries) (pieces_of c.splice-told.new.self.entries)
    c.args.self.now.units c.args.text.now c.args.span.start c.args.span.end
replaced c one two front back =
    let before = c.as_slice-before.result.now in let after = c.as_slice-after.result.now in
    IsReplaced-of c.args.self.now.units c.args.text.now before after c.args.span.start c.args.span.end
    c.joins_of-joins.result.front c.joins_of-joins.result.back front back one two
    c.self.inside.chunks.buffers c.put_some-added.new.chunks.buffers (pieces_of c.self.inside.pieces.entries) (pieces_of c.splice-told.new.self.entries) (span_of c.put_some-added.result)
    (c.args.span.start - length before) (c.args.span.start - length before + (c.args.span.end + length after - (c.args.span.start - length before)))
    c.put_some-added.ensures.grown c.self.invariant.seen.text.pieces c.self.invariant.seen.text.full c.self.invariant.seen.text.unsplit (ap (λ v. v.units) c.self.view_is)
    c.requires.ordered refl (omega (arith, c.requires.ordered)) c.put_some-added.ensures.added c.splice-told.ensures.spliced

pub invariant_of-self : goal.invariant_of-self
invariant_of-self c =
    let to = goal.at.invariant_of-self c in let at = to.After-rests_of-rests in
    let r = replaced to.After-splice-told (ahead to.After-as_slice-after (front_is at) (front_rest at)) (behind to.After-as_slice-after (back_is at) (λ part e. (back_rest at part e).1)) (front_is at) (back_is at) in
    let small : unit_count (pieces_of c.splice-told.new.self.entries) < 2 ^ 62 = omega (arith, length-spelled c.put_some-added.new.chunks.buffers (pieces_of c.splice-told.new.self.entries) r.pieces, ap length r.text_is, c.requires.small) in
    record {
      seen = record {
        text = record { pieces = r.pieces; full = r.full; unsplit = r.unsplit; small = small };
        found = c.change_from.ensures c.self.inside.pieces.entries c.splice-told.new.self.entries c.self.invariant.seen.found c.splice-told.ensures.front c.splice-told.ensures.told;
      };
      endings = subst (IsOfKind c.self.inside.kind) (sym r.text_is) (rw (ap (λ t. t.kind) c.self.view_is) c.requires.kind);
    }

pub returns-clause-units : goal.returns-clause-units
returns-clause-units c =
    let to = goal.at.returns-clause-units c in let at = to.After-rests_of-rests in
    (replaced to.After-splice-told (ahead to.After-as_slice-after (front_is at) (front_rest at)) (behind to.After-as_slice-after (back_is at) (λ part e. (back_rest at part e).1)) (front_is at) (back_is at)).text_is

pub returns-clause-pieces : goal.returns-clause-pieces
returns-clause-pieces c =
    let to = goal.at.returns-clause-pieces c in let at = to.After-rests_of-rests in
    let few = (replaced to.After-splice-told (ahead to.After-as_slice-after (front_is at) (front_rest at)) (behind to.After-as_slice-after (back_is at) (λ part e. (back_rest at part e).1)) (front_is at) (back_is at)).few in
    omega (
      arith,
      few,
      length-map (pieces_of c.splice-told.new.self.entries) (λ p. p.span),
      length-map (pieces_of c.self.inside.pieces.entries) (λ p. p.span),
      ap (λ v. length v.spans) c.self.view_is,
    )

-- where the span leaves little of the one piece that it lies in, the new span takes the place of that piece
taken_in : (c : After-splice-told) (us : List Piece) (p : Piece) (vs : List Piece) → pieces_of c.self.inside.pieces.entries ≡ us ++ p ∷ vs → c.ends_of-ends.result.start.offset < c.ends_of-ends.result.end.offset
    → is_little c.self.inside.chunks.buffers (part_of p.span 0 (c.ends_of-ends.result.start.offset - unit_count us)) ≡ true
    → is_little c.self.inside.chunks.buffers (part_of p.span (c.ends_of-ends.result.end.offset - unit_count us) p.span.units) ≡ true
    → length (pieces_of c.splice-told.new.self.entries) ≤ length (pieces_of c.self.inside.pieces.entries)
taken_in c us p vs is some ahead behind =
    let tree = c.self.inside.pieces in let chunks = c.self.inside.chunks in let start = c.ends_of-ends.result.start in let end = c.ends_of-ends.result.end in
    let one = c.ends_of-ends.ensures.ends.start in let two = c.ends_of-ends.ensures.ends.end in
    let both = c.rests_of-rests.ensures ∙ both_cut tree chunks c.self.invariant.seen.text start end one two us p vs is some ahead behind (length c.args.text.now) in
    let low = little_units chunks.buffers (part_of p.span 0 (start.offset - unit_count us)) ahead in
    let high = little_units chunks.buffers (part_of p.span (end.offset - unit_count us) p.span.units) behind in
    let first : length c.as_slice-before.result.now ≡ start.offset - unit_count us =
    ap length (c.as_slice-before.ensures.value ∙ c.units_along-front.ensures ∙ ap (λ r. units_along chunks.buffers r.front c.joins_of-joins.result.front carriage_return) both)
    ∙ first_length tree chunks c.self.invariant.seen.text start end one two us p vs is some ahead behind in
    let last : length c.as_slice-after.result.now ≡ p.span.units - (end.offset - unit_count us) =
    ap length (c.as_slice-after.ensures.value ∙ c.units_along-back.ensures ∙ ap (λ r. units_along chunks.buffers r.back c.joins_of-joins.result.back line_feed) both)
    ∙ last_length tree chunks c.self.invariant.seen.text start end one two us p vs is some ahead behind in
    let from = c.args.span.start - length c.as_slice-before.result.now in
    let few = takes_place c.put_some-added.new.chunks.buffers us p vs (pieces_of tree.entries) from (from + (c.args.span.end + length c.as_slice-after.result.now - from)) (span_of c.put_some-added.result)
    is c.self.invariant.seen.text.full (omega (arith, first, low, (ap (λ s. s.start) c.ends_of-ends.ensures.span))) (omega (arith, first, last, low, high, some, (ap (λ s. s.start) c.ends_of-ends.ensures.span), (ap (λ s. s.end) c.ends_of-ends.ensures.span))) in
    omega (arith, few, ap length c.splice-told.ensures.spliced)

pub returns-clause-taken : goal.returns-clause-taken
returns-clause-taken c = λ little.
    let b = c.self.inside.chunks.buffers in let ps = pieces_of c.self.inside.pieces.entries in
    let place = subst (λ t. LeavesLittle t c.args.span) (sym c.self.view_is) little in
    let (us, (p, (vs, is, count, same))) = split_spans ps place.earlier place.own place.later place.among in
    let one = (ap (λ s. s.start) c.ends_of-ends.ensures.span) in let two = (ap (λ s. s.end) c.ends_of-ends.ensures.span) in
    let first : is_little b (part_of p.span 0 (c.ends_of-ends.result.start.offset - unit_count us)) ≡ true = rw (same, one, count) place.front in
    let last : is_little b (part_of p.span (c.ends_of-ends.result.end.offset - unit_count us) p.span.units) ≡ true = rw (same, two, count) place.back in
    let few = taken_in (goal.at.returns-clause-taken c).After-splice-told us p vs is (omega (arith, one, two, place.some)) first last in
    omega (arith, few, length-map (pieces_of c.splice-told.new.self.entries) (λ p. p.span), length-map ps (λ p. p.span), ap (λ v. length v.spans) c.self.view_is)

-- the text fits in the last buffer with what is taken along
fits_here : (c : After-as_slice-after) → length c.args.text.now + units_beside_text ≤ c.args.self.now.here → length c.as_slice-before.result.now ≤ most_along
    → length c.as_slice-after.result.now ≤ most_along → length (c.as_slice-before.result.now ++ c.args.text.now ++ c.as_slice-after.result.now) < c.self.inside.chunks.here
fits_here c fits one two =
    let before = c.as_slice-before.result.now in let after = c.as_slice-after.result.now in
    omega (arith, fits, one, two, length-append (before ++ c.args.text.now) after, length-append before c.args.text.now, ap (λ v. v.here) c.self.view_is)

-- where the text goes on from a span, the place stands inside no piece, and nothing is taken along before it
none_ahead : (c : After-as_slice-after) → ((part : ChunkSpan) → c.rests_of-rests.result.front ≡ Some part → rest_before c.self.inside.chunks.buffers c.ends_of-ends.result.start.found c.ends_of-ends.result.start.offset ≡ Some part)
    → GrowsAt (text_of c.self.inside.kind c.self.inside.pieces c.self.inside.chunks) c.args.span.start → c.joins_of-joins.result.front ≡ false → length c.as_slice-before.result.now ≡ 0
none_ahead c rest place apart =
    let tree = c.self.inside.pieces in let chunks = c.self.inside.chunks in let spot = c.ends_of-ends.result.start in let there = c.ends_of-ends.ensures.ends.start in
    let (us, (p, (vs, is, count, same))) = split_spans (pieces_of tree.entries) place.earlier place.span place.later place.among in
    ap length (c.as_slice-before.ensures.value ∙ c.units_along-front.ensures
    ∙ none_along chunks.buffers c.rests_of-rests.result.front c.joins_of-joins.result.front carriage_return (λ part e.
    let (found, has, cut) = front_cuts tree chunks c.self.invariant.seen.text spot there (spot_within tree chunks spot.found spot.offset c.self.invariant.seen.text there.found) part (rest part e) in
    let before = ap (λ s. s.units) has.piece.before in let units = ap (λ (s : ChunkSpan). s.units) same in
    at_border us (pieces_of has.piece.earlier) vs (pieces_of has.piece.later) p (own chunks.buffers tree.entries found has.piece c.self.invariant.seen.text.pieces)
    (sym is ∙ pieces_are chunks.buffers tree.entries found has.piece c.self.invariant.seen.text.pieces)
    (omega (arith, before, units, count, place.ends, cut, (ap (λ s. s.start) c.ends_of-ends.ensures.span))) (omega (arith, before, units, count, place.ends, has.end, (ap (λ s. s.start) c.ends_of-ends.ensures.span)))) apart)

pub returns-clause-typed : goal.returns-clause-typed
returns-clause-typed c = λ unplaced fits grows none.
    let to = goal.at.returns-clause-typed c in let at = to.After-rests_of-rests in
    let old = c.self.inside.chunks.buffers in
    let new = c.put_some-added.new.chunks.buffers in
    let ps = pieces_of c.self.inside.pieces.entries in
    let start = c.args.span.start in
    let before = c.as_slice-before.result.now in
    let after = c.as_slice-after.result.now in
    let text = c.args.text.now in
    let x_is = ap (λ v. v.units) c.self.view_is in
    let place = subst (λ t. GrowsAt t start) (sym c.self.view_is) grows in
    let (us, (p, (vs, is, count, same))) = split_spans ps place.earlier place.span place.later place.among in
    let ahead_is = ahead to.After-as_slice-after (front_is at) (front_rest at) in
    let behind_is = behind to.After-as_slice-after (back_is at) (λ part e. (back_rest at part e).1) in
    let none_taken = none_ahead to.After-as_slice-after (front_rest at) place (front_is at ∙ none) in
    let from = start - length before in
    let ends : unit_count us + p.span.units ≡ from = omega (arith, count, ap (λ (s : ChunkSpan). s.units) same, place.ends, none_taken) in
    let last : p.span.buffer + 1 ≡ length old = ap (λ (s : ChunkSpan). s.buffer + 1) same ∙ place.last in
    let end : p.span.start + p.span.units ≡ length (buffer_at old p.span.buffer) =
    subst (λ (s : ChunkSpan). s.start + s.units ≡ length (buffer_at old s.buffer)) (sym same) place.end in
    let border = front_border c.args.self.now.units text before after start c.args.span.end c.joins_of-joins.result.front c.joins_of-joins.result.back
    (front_is at) (back_is at) ahead_is behind_is in
    let few = adds_none old new ps us p vs from is ends last end c.self.invariant.seen.text.full c.self.invariant.seen.text.pieces (before ++ text ++ after)
    (subst (λ y. joins_pair (take from y) (before ++ text ++ after) ≡ false) (sym x_is) border) (span_of c.put_some-added.result)
    (from + (c.args.span.end + length after - from)) (omega arith) (c.put_some-added.ensures.last unplaced (fits_here to.After-as_slice-after fits.here ahead_is.few behind_is.few)) in
    omega (
      arith,
      few,
      ap length c.splice-told.ensures.spliced,
      length-map (pieces_of c.splice-told.new.self.entries) (λ p. p.span),
      length-map ps (λ p. p.span),
      ap (λ v. length v.spans) c.self.view_is,
    )

-- where nothing is removed and no pair is made, nothing is taken along behind the place
none_behind : (c : After-as_slice-after) → ((part : ChunkSpan) → c.rests_of-rests.result.back ≡ Some part
    → ((c.ends_of-ends.result.start.offset == c.ends_of-ends.result.end.offset) ≡ false) × (rest_behind c.self.inside.chunks.buffers c.ends_of-ends.result.end.found c.ends_of-ends.result.end.offset ≡ Some part))
    → c.args.span.start ≡ c.args.span.end → c.joins_of-joins.result.back ≡ false → length c.as_slice-after.result.now ≡ 0
none_behind c rest same apart =
    let start = c.ends_of-ends.result.start.offset in let end = c.ends_of-ends.result.end.offset in
    let one : start ≡ end = (ap (λ s. s.start) c.ends_of-ends.ensures.span) ∙ same ∙ sym (ap (λ s. s.end) c.ends_of-ends.ensures.span) in
    ap length (c.as_slice-after.ensures.value ∙ c.units_along-back.ensures
    ∙ none_along c.self.inside.chunks.buffers c.rests_of-rests.result.back c.joins_of-joins.result.back line_feed (λ part e. absurd (false≢true (sym (rest part e).0 ∙ eq-eqb start end one))) apart)

pub returns-clause-grows : goal.returns-clause-grows
returns-clause-grows c = λ unplaced fits (same, some) none.
    let to = goal.at.returns-clause-grows c in let at = to.After-rests_of-rests in
    let old = c.self.inside.chunks.buffers in
    let new = c.put_some-added.new.chunks.buffers in
    let ps = pieces_of c.self.inside.pieces.entries in
    let text = c.args.text.now in
    let before = c.as_slice-before.result.now in
    let after = c.as_slice-after.result.now in
    let from = c.args.span.start - length before in
    let till = from + (c.args.span.end + length after - from) in
    let count = units_shown c.self.inside.pieces c.self.inside.chunks c.args.self.now c.self.invariant.seen.text c.self.view_is in
    let ahead_is = ahead to.After-as_slice-after (front_is at) (front_rest at) in
    let behind_is = behind to.After-as_slice-after (back_is at) (λ part e. (back_rest at part e).1) in
    let there = ahead_is.there in
    let none_taken = none_behind to.After-as_slice-after (back_rest at) same (back_is at ∙ none) in
    let added_size : length (before ++ text ++ after) ≡ length before + length text = omega (arith, length-append (before ++ text) after, length-append before text, none_taken) in
    grows_later (text_of c.self.inside.kind c.splice-told.new.self c.put_some-added.new.chunks) old new (front new from ps) (back new till ps) (span_of c.put_some-added.result) (before ++ text ++ after) (c.args.span.start + length text)
    c.put_some-added.ensures.added (c.put_some-added.ensures.last unplaced (fits_here to.After-as_slice-after fits.here ahead_is.few behind_is.few)) (omega (arith, some, added_size)) (ap (map (λ p. p.span)) c.splice-told.ensures.spliced) refl
    (omega (arith, added_size, units-front new from ps (omega (arith, count, c.requires.ordered, c.requires.within)), there))

pub returns-clause-appended : goal.returns-clause-appended
returns-clause-appended c =
    let to = goal.at.returns-clause-appended c in let at = to.After-rests_of-rests in
    let one = (ahead to.After-as_slice-after (front_is at) (front_rest at)).few in
    let two = (behind to.After-as_slice-after (back_is at) (λ part e. (back_rest at part e).1)).few in
    let before = c.as_slice-before.result.now in let after = c.as_slice-after.result.now in
    omega (arith, one, two, length-append (before ++ c.args.text.now) after, length-append before c.args.text.now, c.put_some-added.ensures.units, ap (λ v. C.unit_count v.buffers) c.self.view_is)

pub returns-clause-spent : goal.returns-clause-spent
returns-clause-spent c =
    let to = goal.at.returns-clause-spent c in let at = to.After-rests_of-rests in
    let one = ahead to.After-as_slice-after (front_is at) (front_rest at) in
    let two = behind to.After-as_slice-after (back_is at) (λ part e. (back_rest at part e).1) in
    let before = c.as_slice-before.result.now in let after = c.as_slice-after.result.now in let text = c.args.text.now in
    record {
      edits = omega (arith, c.splice-told.ensures.spare, ap (λ v. v.room.edits) c.self.view_is, c.requires.room.edits);
      units = omega (arith, one.few, two.few, length-append (before ++ text) after, length-append before text, c.put_some-added.ensures.spare, ap (λ v. v.room.units) c.self.view_is);
      breaks = omega (arith, added_breaks MOST_BREAKS_ALONG before text after one.breaks two.breaks, ap (λ v. v.room.breaks) c.self.view_is, c.put_some-added.ensures.spare_breaks);
    }

pub returns-clause-dirty : goal.returns-clause-dirty
returns-clause-dirty c =
    c.dirty_between-dirty.ensures
    ∙ (λ i. dirty_lines (c.self.view_is i).units (c.ends_of-ends.ensures.span i) c.args.text.now)

pub returns-clause-before : goal.returns-clause-before
returns-clause-before c =
    ap (λ x. take (c.dirty_between-dirty.result.first - 1) (lines_of x)) (returns-clause-units c)
    ∙ before_dirty c.args.self.now.units c.args.span c.args.text.now c.requires.ordered c.requires.within c.dirty_between-dirty.result (returns-clause-dirty c)

pub returns-clause-after : goal.returns-clause-after
returns-clause-after c =
    ap (λ x. drop (c.dirty_between-dirty.result.first - 1 + c.dirty_between-dirty.result.new) (lines_of x)) (returns-clause-units c)
    ∙ after_dirty c.args.self.now.units c.args.span c.args.text.now c.requires.ordered c.requires.within c.dirty_between-dirty.result (returns-clause-dirty c)
