use Rattle.std.proofs.Common.{◌≡◌, ◌+◌, ◌-◌, ◌<◌, ◌≤◌, ◌^◌, ◌++◌, [], length, take, drop, refl, ap, sym, subst, ◌∙◌, arith}
use Rattle.std.proofs.lemmas.List.{append-nil, length-map, length-take-le}
use Rattle.line_starts.specs.Starts.{break_count}
use Rattle.piece_tree.specs.Pieces.{pieces_of, unit_count, span_of}
use Rattle.unit_text.specs.Kinds.{IsOfKind}
use Rattle.text_buffer.specs.Text.{IsAdded}
use Rattle.text_buffer.proofs.Edited.{units-listed}
use Rattle.text_buffer.proofs.Extended.{pieces-extended}
use Rattle.text_buffer.proofs.Spelling.{length-spelled}
use Rattle.text_buffer.proofs.Rewriting.{IsRewritten, rewritten, stretch_within, stretch_unit, units_read, length_read}
use Rattle.text_buffer.proofs.text.TextBuffer.rewrite_crowded.Goals as goal
use Rattle.text_buffer.proofs.text.TextBuffer.rewrite_crowded.Goals.{In-Some, After-read_into, After-splice-told}

pub read_into-requires : goal.read_into-requires
read_into-requires c = record {
  within = omega (
    arith,
    stretch_within c.self.inside.chunks.buffers c.self.inside.pieces.entries c.in-Some.ensures.near c.in-Some.stretch c.in-Some.ensures.is
        c.self.invariant.seen.text.pieces c.self.invariant.seen.text.full c.args.self.now.units (ap (λ v. v.units) c.self.view_is),
  );
}

within : (c : After-read_into) → c.in-Some.stretch.first.before.units + c.in-Some.stretch.units ≤ length c.args.self.now.units
within c =
    stretch_within c.self.inside.chunks.buffers c.self.inside.pieces.entries c.in-Some.ensures.near c.in-Some.stretch c.in-Some.ensures.is
    c.self.invariant.seen.text.pieces c.self.invariant.seen.text.full c.args.self.now.units (ap (λ v. v.units) c.self.view_is)

read : (c : After-read_into) → c.read_into.new.out ≡ take c.in-Some.stretch.units (drop c.in-Some.stretch.first.before.units c.args.self.now.units)
read c =
    units_read c.args.self.now.units _ c.read_into.new.out c.in-Some.stretch.first.before.units c.in-Some.stretch.units c.read_into.result
    (within c) c.read_into.ensures.count c.read_into.ensures.units
    (length-take-le c.in-Some.stretch.units _ c.in-Some.ensures.few)

pub put_some-added-requires-clause-breaks : goal.put_some-added-requires-clause-breaks
put_some-added-requires-clause-breaks c =
    let room = c.can_append.ensures c.if-not-can_append.false in
    omega (arith, ap break_count (append-nil c.read_into.new.out), room.breaks, ap (λ v. v.room.breaks) c.self.view_is)

pub splice-told-requires-clause-place : goal.splice-told-requires-clause-place
splice-told-requires-clause-place c =
    let seen = c.self.invariant.seen.text in
    stretch_unit c.self.inside.chunks.buffers c.self.inside.pieces.entries c.in-Some.ensures.near c.in-Some.stretch c.in-Some.ensures.is seen.pieces seen.full
    c.args.self.now.units (ap (λ v. v.units) c.self.view_is)

pub splice-told-requires-clause-pieces : goal.splice-told-requires-clause-pieces
splice-told-requires-clause-pieces c =
    pieces-extended c.self.inside.chunks.buffers c.put_some-added.new.chunks.buffers c.put_some-added.ensures.grown (pieces_of c.self.inside.pieces.entries) c.self.invariant.seen.text.pieces

pub splice-told-requires-clause-small : goal.splice-told-requires-clause-small
splice-told-requires-clause-small c =
    let at = (goal.at.splice-told-requires-clause-small c).After-read_into in
    let b = c.put_some-added.new.chunks.buffers in
    let size = length_read c.args.self.now.units c.read_into.new.out c.in-Some.stretch.first.before.units c.in-Some.stretch.units (within at) (read at) in
    omega (
      arith,
      c.self.invariant.seen.text.small,
      units-listed b c.put_some-added.result (c.read_into.new.out ++ []) c.put_some-added.ensures.added c.put_some-added.ensures.counted,
      ap length (append-nil c.read_into.new.out),
      size,
    )

done : (c : After-splice-told) → c.read_into.new.out ≡ take c.in-Some.stretch.units (drop c.in-Some.stretch.first.before.units c.args.self.now.units)
    → IsRewritten c.put_some-added.new.chunks.buffers (pieces_of c.self.inside.pieces.entries) (pieces_of c.splice-told.new.self.entries)
    c.args.self.now.units c.in-Some.stretch.pieces
done c units_are =
    let old = c.self.inside.chunks.buffers in let b = c.put_some-added.new.chunks.buffers in let start = c.in-Some.stretch.first.before.units in
    let seen = c.self.invariant.seen.text in
    rewritten old b c.self.inside.pieces.entries c.in-Some.ensures.near c.in-Some.stretch (pieces_of c.splice-told.new.self.entries) (span_of c.put_some-added.result)
    c.args.self.now.units c.read_into.new.out start (start + c.in-Some.stretch.units) c.in-Some.ensures.is c.put_some-added.ensures.grown seen.pieces seen.full seen.unsplit
    (ap (λ v. v.units) c.self.view_is) refl refl units_are
    (subst (IsAdded b (span_of c.put_some-added.result)) (append-nil c.read_into.new.out) c.put_some-added.ensures.added) c.splice-told.ensures.spliced

pub invariant_of-self : goal.invariant_of-self
invariant_of-self c =
    let r = (done (goal.at.invariant_of-self c).After-splice-told (read (goal.at.invariant_of-self c).After-read_into)) in
    let b = c.put_some-added.new.chunks.buffers in
    let small : unit_count (pieces_of c.splice-told.new.self.entries) < 2 ^ 62 =
    omega (
      arith,
      length-spelled b (pieces_of c.splice-told.new.self.entries) r.pieces,
      ap length r.text_is,
      length-spelled c.self.inside.chunks.buffers (pieces_of c.self.inside.pieces.entries) c.self.invariant.seen.text.pieces,
      ap (λ v. length v.units) c.self.view_is,
      c.self.invariant.seen.text.small,
    ) in
    record {
      seen = record {
        text = record { pieces = r.pieces; full = r.full; unsplit = r.unsplit; small = small };
        found = c.change_from.ensures c.self.inside.pieces.entries c.splice-told.new.self.entries c.self.invariant.seen.found c.splice-told.ensures.front c.splice-told.ensures.told;
      };
      endings = subst (IsOfKind c.self.inside.kind) (ap (λ v. v.units) c.self.view_is ∙ sym r.text_is) c.self.invariant.endings;
    }

pub returns-clause-units : goal.returns-clause-units
returns-clause-units c = (done (goal.at.returns-clause-units c).After-splice-told (read (goal.at.returns-clause-units c).After-read_into)).text_is

pub returns-clause-written : goal.returns-clause-written
returns-clause-written c = λ _.
    let few = (done (goal.at.returns-clause-written c).After-splice-told (read (goal.at.returns-clause-written c).After-read_into)).few in
    omega (
      arith,
      few,
      c.in-Some.ensures.many,
      length-map (pieces_of c.splice-told.new.self.entries) (λ p. p.span),
      length-map (pieces_of c.self.inside.pieces.entries) (λ p. p.span),
      ap (λ v. length v.spans) c.self.view_is,
    )

pub returns-clause-pieces : goal.returns-clause-pieces
returns-clause-pieces c =
    let few = (done (goal.at.returns-clause-pieces c).After-splice-told (read (goal.at.returns-clause-pieces c).After-read_into)).few in
    omega (
      arith,
      few,
      c.in-Some.ensures.many,
      length-map (pieces_of c.splice-told.new.self.entries) (λ p. p.span),
      length-map (pieces_of c.self.inside.pieces.entries) (λ p. p.span),
      ap (λ v. length v.spans) c.self.view_is,
    )
