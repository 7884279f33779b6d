use Rattle.std.proofs.Common.{◌≡◌, ◌-◌, ◌≤◌, ◌++◌, length, drop}
use Rattle.text_rules.specs.Lines.{lines_of}
use Rattle.decoration_rules.specs.LineMoves.{moves_from, line_moves, HaveSameContents}
use Rattle.recasts.proofs.lines.line_moves.Given as goal

abbrev pub invariant-loop-moves : goal.invariant-loop-moves
invariant-loop-moves l = record {
  moves : l.moves.items ++ moves_from l.old l.new (lines_of (drop l.old l.from)) (lines_of (drop l.new l.to)) ≡ line_moves l.from l.to;
  same : HaveSameContents (drop l.old l.from) (drop l.new l.to);
  old_within : l.old ≤ length l.from;
  new_within : l.new ≤ length l.to;
}

abbrev pub decreases-loop-moves : goal.decreases-loop-moves
decreases-loop-moves l = length l.from - l.old
