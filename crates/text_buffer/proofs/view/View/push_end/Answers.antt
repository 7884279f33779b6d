use Rattle.std.proofs.Common.{◌≡◌, ℕ, ◌-◌, ◌∷◌, ◌++◌, if◌then◌else◌, List, length, take, ap, sym, subst, ◌∙◌, arith}
use Rattle.std.proofs.lemmas.List.{length-take-le}
use Rattle.piece_tree.specs.declared.piece.Piece.{Piece}
use Rattle.piece_tree.specs.Pieces.{piece_of, back}
use Rattle.text_rules.specs.Lines.{lines_of}
use Rattle.text_buffer.specs.Reading.{pieces_left, pieces_at, spans_with, CanRead}
use Rattle.text_buffer.specs.Text.{spelled, ends_with_pair}
use Rattle.text_buffer.proofs.LineCopies.{end_within, end_in_span, end_some, content_there, lines_behind}
use Rattle.text_buffer.proofs.Reading.{part_left, can-back}
use Rattle.text_buffer.proofs.view.View.push_end.Goals as goal
use Rattle.text_buffer.proofs.view.View.push_end.Goals.{After-part_behind-rest}

pub slice_bounds-without_break-end : goal.slice_bounds-without_break-end
slice_bounds-without_break-end c =
    let b = c.args.self.now.chunks.now.buffers in
    let within = end_within b c.args.span (pieces_left b c.args.rest.now) c.requires.can c.requires.broken c.args.end c.requires.end in
    sym (length-take-le c.args.end c.units-units.result.now (omega (arith, within, ap length c.units-units.ensures)))

pub without_break-requires : goal.without_break-requires
without_break-requires c =
    let b = c.args.self.now.chunks.now.buffers in
    omega (
      arith,
      slice_bounds-without_break-end c,
      end_some b c.args.span (pieces_left b c.args.rest.now) c.requires.can c.requires.broken c.args.end c.requires.end,
    )

pub part_behind-rest-requires-clause-within : goal.part_behind-rest-requires-clause-within
part_behind-rest-requires-clause-within c =
    let b = c.args.self.now.chunks.now.buffers in
    end_in_span b c.args.span (pieces_left b c.args.rest.now) c.requires.can c.requires.broken c.args.end c.requires.end

left : (c : After-part_behind-rest) → pieces_at c.args.self.now.chunks.now.buffers (spans_with c.part_behind-rest.result c.args.rest.now.behind.left)
    ≡ back c.args.self.now.chunks.now.buffers c.args.end
    (piece_of c.args.self.now.chunks.now.buffers c.args.span ∷ pieces_left c.args.self.now.chunks.now.buffers c.args.rest.now)
left c =
    part_left c.args.self.now.chunks.now.buffers c.args.end c.args.span c.part_behind-rest.result c.args.rest.now.first c.args.rest.now.behind.left
    c.requires.taken c.requires.can c.part_behind-rest.ensures

pub returns-clause-can : goal.returns-clause-can
returns-clause-can c =
    let b = c.args.self.now.chunks.now.buffers in
    subst (CanRead b) (sym (left (goal.at.returns-clause-can c).After-part_behind-rest)) (can-back b c.args.end (piece_of b c.args.span ∷ pieces_left b c.args.rest.now) c.requires.can)

pub returns-clause-content : goal.returns-clause-content
returns-clause-content c =
    let b = c.args.self.now.chunks.now.buffers in
    let end : ℕ = c.args.end in
    let content =
    c.without_break.ensures
    ∙ ap (λ (u : List ℕ). take (length (take end u) - (if ends_with_pair (take end u) then 2 else 1)) (take end u)) c.units-units.ensures
    ∙ content_there b c.args.span (pieces_left b c.args.rest.now) c.requires.can c.requires.broken end c.requires.end in
    c.in_ok-extend_from_slice.ensures.items ∙ ap (λ u. c.args.out.now.items ++ u) content

pub returns-clause-lines : goal.returns-clause-lines
returns-clause-lines c =
    let b = c.args.self.now.chunks.now.buffers in
    ap (λ (ps : List Piece). lines_of (spelled b ps)) (left (goal.at.returns-clause-lines c).After-part_behind-rest)
    ∙ lines_behind b c.args.span (pieces_left b c.args.rest.now) c.requires.can c.requires.broken c.args.end c.requires.end
