use Rattle.std.proofs.Common.{◌≡◌, ℕ, ◌+◌, ◌-◌, List, [], drop, ap, ◌∙◌, arith}
use Rattle.piece_tree.specs.declared.piece.Piece.{Piece}
use Rattle.piece_tree.specs.Pieces.{pieces_of}
use Rattle.text_rules.specs.Lines.{lines_of, line_start}
use Rattle.text_buffer.specs.Text.{spelled}
use Rattle.text_buffer.specs.Views.{units_in}
use Rattle.text_buffer.proofs.Contents.{start_within}
use Rattle.text_buffer.proofs.FirstLines.{lines_from}
use Rattle.text_buffer.proofs.Spelling.{spelled-back}
use Rattle.text_buffer.proofs.lines.rest_at.Goals as goal

pub rest_from-requires-clause-within : goal.rest_from-requires-clause-within
rest_from-requires-clause-within c =
    start_within (units_in c.args.view.now) (c.args.n - 1) c.start_after-start.result.offset (record { content = []; break = [] })
    (omega (arith, c.requires.first, c.requires.there)) c.start_after-start.ensures.start

pub returns-in_default : goal.returns-in_default
returns-in_default c =
    let view = c.args.view.now in
    let b = view.chunks.now.buffers in
    let x = units_in view in
    let number : c.args.n - 1 + 1 ≡ c.args.n = omega (arith, c.requires.first) in record {
      can = c.rest_from.ensures.can;
      lines = λ there.
          ap (λ (ps : List Piece). lines_of (spelled b ps)) c.rest_from.ensures.left
          ∙ ap lines_of (spelled-back b c.start_after-start.result.offset (pieces_of view.pieces.now.entries) c.requires.view.text.pieces
          ∙ ap (λ (n : ℕ). drop n x) (c.start_after-start.ensures.start ∙ ap (line_start x) number))
          ∙ lines_from x c.args.n c.requires.first c.requires.there;
    }
