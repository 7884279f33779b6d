use Rattle.std.proofs.Common.{length, sym, ◌∙◌, refl, arith}
use Rattle.piece_tree.specs.Pieces.{pieces_of}
use Rattle.piece_tree.proofs.Costs.{no_look_up, look_ups-add}
use Rattle.text_buffer.specs.Text.{spelled}
use Rattle.text_buffer.proofs.Positions.{place_at_end, place_inside, past_end}
use Rattle.text_buffer.proofs.view.View.place_at.Goals as goal

pub returns-then-offset-len-clause-place : goal.returns-then-offset-len-clause-place
returns-then-offset-len-clause-place g c =
    past_end c.args.kind (spelled c.args.self.now.chunks.now.buffers (pieces_of c.args.self.now.pieces.now.entries)) c.args.offset (omega (arith, c.len.ensures.units))

pub returns-then-offset-len-2-clause-place : goal.returns-then-offset-len-2-clause-place
returns-then-offset-len-2-clause-place g c =
    let x = spelled c.args.self.now.chunks.now.buffers (pieces_of c.args.self.now.pieces.now.entries) in
    record {
      place = place_at_end c.args.kind x c.args.offset (omega (arith, c.len-2.ensures.units));
      found = omega (arith, c.len-2.ensures.pieces);
      there = refl;
    }

pub returns-clause-place : goal.returns-clause-place
returns-clause-place g c =
    let x = spelled c.args.self.now.chunks.now.buffers (pieces_of c.args.self.now.pieces.now.entries) in
    record {
      place = place_inside c.args.kind x c.args.offset (omega (arith, c.len.ensures.units)) (sym c.cuts_beside.ensures.cuts ∙ c.if-cuts_beside.false);
      found = c.piece_with-found.ensures.has;
      there = refl;
    }

pub returns-then-offset-len-clause-cost : goal.returns-then-offset-len-clause-cost
returns-then-offset-len-clause-cost g c = no_look_up 2 (length c.args.self.now.pieces.now.entries) c.args.steps.now c.args.steps.now refl

pub returns-then-offset-len-2-clause-cost : goal.returns-then-offset-len-2-clause-cost
returns-then-offset-len-2-clause-cost g c = no_look_up 2 (length c.args.self.now.pieces.now.entries) c.args.steps.now c.args.steps.now refl

pub returns-then-cuts_beside-clause-cost : goal.returns-then-cuts_beside-clause-cost
returns-then-cuts_beside-clause-cost g c =
    look_ups-add 1 1 (length c.args.self.now.pieces.now.entries) c.args.steps.now c.piece_with-found.new.steps c.cuts_beside.new.steps
    c.piece_with-found.ensures.cost c.cuts_beside.ensures.cost

pub returns-clause-cost : goal.returns-clause-cost
returns-clause-cost g c =
    look_ups-add 1 1 (length c.args.self.now.pieces.now.entries) c.args.steps.now c.piece_with-found.new.steps c.cuts_beside.new.steps
    c.piece_with-found.ensures.cost c.cuts_beside.ensures.cost
