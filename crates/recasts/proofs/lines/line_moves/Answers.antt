use Rattle.std.proofs.Common.{◌<◌, ap, arith}
use Rattle.decoration_rules.specs.LineMoves.{line_moves}
use Rattle.recasts.proofs.Steps.{behind_content, content_after, line_from-within, last_move, same_later, moves_later}
use Rattle.recasts.proofs.lines.line_moves.Goals as goal

pub ending_len-ending-requires-clause-empty : goal.ending_len-ending-requires-clause-empty
ending_len-ending-requires-clause-empty c =
    ap (λ line. line.content) (behind_content c.args.from.now c.loop-moves.old c.content_len-content.result c.content_len-content.ensures.content)

pub returns-then-ending-eq0 : goal.returns-then-ending-eq0
returns-then-ending-eq0 c =
    let from = c.args.from.now in
    let to = c.args.to.now in
    let turn = c.loop-moves.invariant in
    last_move (line_moves from to) c.loop-moves.moves.items c.push.new.self.items from to c.loop-moves.old c.loop-moves.new
    c.content_len-content.result c.ending_len-ending.result turn.moves turn.same c.content_len-content.ensures.content
    c.ending_len-ending.ensures.ending c.in_ok-push.ensures.items c.if-ending-eq0.true

pub ending_len-new-requires-clause-within : goal.ending_len-new-requires-clause-within
ending_len-new-requires-clause-within c =
    let to = c.args.to.now in
    let new = c.loop-moves.new in
    let turn = c.loop-moves.invariant in
    let content = content_after c.args.from.now to c.loop-moves.old new c.content_len-content.result turn.same c.content_len-content.ensures.content in
    omega (arith, content, line_from-within to new turn.new_within)

pub ending_len-new-requires-clause-empty : goal.ending_len-new-requires-clause-empty
ending_len-new-requires-clause-empty c =
    let to = c.args.to.now in
    let new = c.loop-moves.new in
    let content = content_after c.args.from.now to c.loop-moves.old new c.content_len-content.result c.loop-moves.invariant.same c.content_len-content.ensures.content in
    ap (λ line. line.content) (behind_content to new c.content_len-content.result content)

pub loop-moves-preserved : goal.loop-moves-preserved
loop-moves-preserved c =
    let from = c.args.from.now in
    let to = c.args.to.now in
    let turn = c.loop-moves.invariant in
    let ending = c.ending_len-ending.result in
    let some : 0 < ending = omega (arith, c.if-ending-eq0.false) in record {
      moves = moves_later (line_moves from to) c.loop-moves.moves.items c.push.new.self.items from to c.loop-moves.old c.loop-moves.new
          c.content_len-content.result ending turn.moves turn.same c.content_len-content.ensures.content
          c.ending_len-ending.ensures.ending c.in_ok-push.ensures.items c.ending_len-new.result c.ending_len-new.ensures.ending some;
      same = same_later (line_moves from to) c.loop-moves.moves.items c.push.new.self.items from to c.loop-moves.old c.loop-moves.new
          c.content_len-content.result ending turn.moves turn.same c.content_len-content.ensures.content
          c.ending_len-ending.ensures.ending c.in_ok-push.ensures.items c.ending_len-new.result c.ending_len-new.ensures.ending some;
      old_within = omega (arith, c.ending_len-ending.ensures.within);
      new_within = c.ending_len-new.ensures.within;
    }
