use Rattle.std.proofs.Common.{ap, sym, subst, ◌∙◌}
use Rattle.unit_text.specs.Kinds.{IsOfKind}
use Rattle.piece_tree.specs.Pieces.{pieces_of}
use Rattle.text_buffer.specs.Text.{spelled}
use Rattle.text_buffer.proofs.Extended.{pieces-extended, spelled-extended, unsplit-extended}
use Rattle.text_buffer.proofs.text.TextBuffer.make_room.Goals as goal

pub invariant_of-self-2 : goal.invariant_of-self-2
invariant_of-self-2 c =
    let old = c.self.inside.chunks.buffers in
    let new = c.reserve.new.self.buffers in
    let ps = pieces_of c.self.inside.pieces.entries in
    let was = c.self.invariant.seen in
    rw c.reserve-2.ensures.same
    (record {
      seen = record {
        text = record {
          pieces = pieces-extended old new c.reserve.ensures.same ps was.text.pieces;
          full = was.text.full;
          unsplit = unsplit-extended old new c.reserve.ensures.same ps was.text.pieces was.text.unsplit;
          small = was.text.small;
        };
        found = was.found;
      };
      endings = subst (IsOfKind c.self.inside.kind) (sym (spelled-extended old new c.reserve.ensures.same ps was.text.pieces)) c.self.invariant.endings;
    })

pub returns-clause-same : goal.returns-clause-same
returns-clause-same c =
    let old = c.self.inside.chunks.buffers in
    let new = c.reserve.new.self.buffers in
    let ps = pieces_of c.self.inside.pieces.entries in
    ap (λ e. spelled new (pieces_of e)) c.reserve-2.ensures.same
    ∙ spelled-extended old new c.reserve.ensures.same ps c.self.invariant.seen.text.pieces ∙ ap (λ v. v.units) c.self.view_is
