use Rattle.std.proofs.Common.{◌≡◌, ◌+◌, ◌-◌, ◌≤◌, ◌++◌, take, drop, vec_len, vec_capacity}
use lib.Lanes.{mask_l}
use Rattle.line_starts.proofs.Blocks.{block_marks, marked}
use Rattle.line_starts.proofs.push_block.Given as goal

abbrev pub invariant-loop-left : goal.invariant-loop-left
invariant-loop-left l = record {
  left : l.left ≡ mask_l (drop (l.place - l.start) (block_marks l.at l.units));
  places : l.out.items ++ marked l.place (drop (l.place - l.start) (block_marks l.at l.units))
      ≡ l.fn.out.items ++ marked l.start (block_marks l.at l.units);
  within : (l.start ≤ l.place) × (l.place ≤ l.start + 32);
  before : take (vec_len l.fn.out) l.out.items ≡ l.fn.out.items;
  grown : vec_len l.fn.out ≤ vec_len l.out;
  capacity : vec_capacity l.fn.out ≤ vec_capacity l.out;
}

abbrev pub decreases-loop-left : goal.decreases-loop-left
decreases-loop-left l = l.start + 32 - l.place
