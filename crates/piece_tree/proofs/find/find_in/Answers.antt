use Rattle.std.proofs.Common.{sym, ◌∙◌, arith}
use Rattle.piece_tree.proofs.Finding.{past_none, past_small, past_all, past_more, past_found}
use Rattle.piece_tree.proofs.find.find_in.Goals as goal

pub loop-piece-init : goal.loop-piece-init
loop-piece-init g c = record {
  past = past_none c.args.pieces.now c.args.before c.args.sought c.requires.there;
  place = omega arith;
  steps = omega arith;
}

pub with_piece-behind-requires-clause-units : goal.with_piece-behind-requires-clause-units
with_piece-behind-requires-clause-units g c =
    (past_small c.args.pieces.now c.args.before c.args.sought c.requires.there c.loop-piece.piece-index c.loop-piece.sum c.loop-piece.invariant.past).0

pub with_piece-behind-requires-clause-breaks : goal.with_piece-behind-requires-clause-breaks
with_piece-behind-requires-clause-breaks g c =
    (past_small c.args.pieces.now c.args.before c.args.sought c.requires.there c.loop-piece.piece-index c.loop-piece.sum c.loop-piece.invariant.past).1

pub loop-piece-preserved : goal.loop-piece-preserved
loop-piece-preserved g c = record {
  past = past_more c.args.pieces.now c.args.before c.args.sought c.requires.there c.loop-piece.piece-index c.loop-piece.sum c.loop-piece.invariant.past _ c.with_piece-behind.result
      c.with_piece-behind.ensures.units c.with_piece-behind.ensures.breaks c.loop-piece-test.true (sym c.is_within.ensures ∙ c.if-is_within.false);
  place = omega arith;
  steps = omega arith;
}

pub returns-then-is_within-clause-found : goal.returns-then-is_within-clause-found
returns-then-is_within-clause-found g c =
    past_found c.args.pieces.now c.args.before c.args.sought c.requires.there c.loop-piece.piece-index c.loop-piece.sum c.loop-piece.invariant.past _ c.with_piece-behind.result
    c.with_piece-behind.ensures.units c.with_piece-behind.ensures.breaks c.loop-piece-test.true c.args.run c.loop-piece.place c.found.result (sym c.is_within.ensures ∙ c.if-is_within.true)
    c.loop-piece.invariant.place c.found.ensures

pub returns-then-is_within-clause-cost : goal.returns-then-is_within-clause-cost
returns-then-is_within-clause-cost g c = omega arith

pub unreachable-requires : goal.unreachable-requires
unreachable-requires g c =
    past_all c.args.pieces.now c.args.before c.args.sought c.requires.there c.loop-piece.piece-index c.loop-piece.sum c.loop-piece.invariant.past c.loop-piece-test.false

pub overflow_add-place : goal.overflow_add-place
overflow_add-place g c = omega arith
