use Rattle.std.proofs.Common.{◌+◌, ◌<◌, ◌^◌, length, subst, ap, sym, arith}
use Rattle.std.proofs.lemmas.List.{length-map, append-nil}
use Rattle.piece_tree.specs.Pieces.{pieces_of, unit_count, span_of}
use Rattle.piece_tree.proofs.Prolonged.{inside_listed}
use Rattle.unit_text.specs.Kinds.{IsOfKind}
use Rattle.text_buffer.specs.Text.{IsAdded}
use Rattle.text_buffer.proofs.Spelling.{length-spelled}
use Rattle.text_buffer.proofs.Extended.{pieces-extended}
use Rattle.text_buffer.proofs.Whole.{IsWhole, whole_of}
use Rattle.text_buffer.proofs.text.TextBuffer.recast_part.Goals as goal
use Rattle.text_buffer.proofs.text.TextBuffer.recast_part.Goals.{After-splice-told}

pub splice-told-requires-clause-pieces : goal.splice-told-requires-clause-pieces
splice-told-requires-clause-pieces c =
    pieces-extended c.self.inside.chunks.buffers c.put_some-added.new.chunks.buffers c.put_some-added.ensures.grown (pieces_of c.self.inside.pieces.entries) c.self.invariant.seen.text.pieces

whole : (c : After-splice-told) → IsWhole c.put_some-added.new.chunks.buffers (pieces_of c.splice-told.new.self.entries) c.args.units.now
whole c =
    let b = c.put_some-added.new.chunks.buffers in
    whole_of b (pieces_of c.self.inside.pieces.entries) (pieces_of c.splice-told.new.self.entries) (span_of c.put_some-added.result) (0 + c.len-len.result) c.args.units.now
    c.self.invariant.seen.text.full (omega (arith, c.len-len.ensures.pieces))
    (inside_listed b c.put_some-added.result c.put_some-added.ensures.counted)
    (subst (IsAdded b (span_of c.put_some-added.result)) (append-nil c.args.units.now) c.put_some-added.ensures.added)
    c.splice-told.ensures.spliced

pub invariant_of-self : goal.invariant_of-self
invariant_of-self c =
    let is = whole (goal.at.invariant_of-self c).After-splice-told in
    let small : unit_count (pieces_of c.splice-told.new.self.entries) < 2 ^ 62 =
    omega (arith, length-spelled c.put_some-added.new.chunks.buffers (pieces_of c.splice-told.new.self.entries) is.pieces, ap length is.text_is, c.requires.short) in
    record {
      seen = record {
        text = record { pieces = is.pieces; full = is.full; unsplit = is.unsplit; small = small };
        found = c.change_from.ensures c.self.inside.pieces.entries c.splice-told.new.self.entries c.self.invariant.seen.found c.splice-told.ensures.front c.splice-told.ensures.told;
      };
      endings = subst (IsOfKind c.args.kind) (sym is.text_is) c.requires.endings;
    }

pub returns-clause-units : goal.returns-clause-units
returns-clause-units c = (whole (goal.at.returns-clause-units c).After-splice-told).text_is

pub returns-clause-pieces : goal.returns-clause-pieces
returns-clause-pieces c =
    let few = (whole (goal.at.returns-clause-pieces c).After-splice-told).few in
    omega (arith, few, length-map (pieces_of c.splice-told.new.self.entries) (λ p. p.span))

pub returns-clause-few : goal.returns-clause-few
returns-clause-few c =
    let few = (whole (goal.at.returns-clause-few c).After-splice-told).by_units in
    omega (arith, few, length-map (pieces_of c.splice-told.new.self.entries) (λ p. p.span))
