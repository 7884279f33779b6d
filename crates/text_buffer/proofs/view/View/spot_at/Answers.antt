use Rattle.std.proofs.Common.{◌==◌, ℕ, List, drop, get_or, add-zero, ap, sym, ◌∙◌, arith}
use Rattle.std.proofs.lemmas.List.{drop_all, get_or-drop}
use Rattle.piece_tree.specs.Pieces.{pieces_of}
use Rattle.text_rules.specs.Lines.{line_feed, begins_with}
use Rattle.text_rules.proofs.Breaks.{begins_with_first}
use Rattle.text_buffer.specs.Text.{spelled}
use Rattle.text_buffer.proofs.view.View.spot_at.Goals as goal

pub returns-then-offset-len-clause-spot : goal.returns-then-offset-len-clause-spot
returns-then-offset-len-clause-spot c =
    let x : List ℕ = spelled c.args.self.now.chunks.now.buffers (pieces_of c.args.self.now.pieces.now.entries) in record {
      found = c.if-offset-len.true ∙ c.len.ensures.pieces;
      after_return = c.is_after_return.ensures;
      before_feed = ap (begins_with line_feed) (sym (drop_all c.args.offset x (omega (arith, c.len.ensures.units, c.if-offset-len.true))));
      small = omega (arith, c.len.ensures.units, c.len.ensures.small);
    }

pub returns-clause-spot : goal.returns-clause-spot
returns-clause-spot c =
    let x : List ℕ = spelled c.args.self.now.chunks.now.buffers (pieces_of c.args.self.now.pieces.now.entries) in
    let offset : ℕ = c.args.offset in
    let first = get_or-drop offset x 0 0 ∙ ap (λ (n : ℕ). get_or x n 0) (add-zero offset) in
    record {
      found = c.piece_at-found.ensures;
      after_return = c.is_after_return-2.ensures;
      before_feed = ap (λ (u : ℕ). u == line_feed) (c.unit_in.ensures ∙ sym first) ∙ sym (begins_with_first (drop offset x));
      small = omega (arith, c.len.ensures.units, c.len.ensures.small);
    }
