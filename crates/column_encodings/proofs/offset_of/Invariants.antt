use Rattle.std.proofs.Common.{◌≡◌, ◌+◌, ◌-◌, ◌≤◌, length, option_map}
use Rattle.column_encodings.specs.Columns.{offset_of}
use Rattle.column_encodings.proofs.offset_of.Given as goal

abbrev pub invariant-loop-left : goal.invariant-loop-left
invariant-loop-left l = record {
  offset : option_map (λ offset. length l.units - length l.rest + offset) (offset_of l.encoding l.rest l.left)
      ≡ offset_of l.encoding l.units l.column;
  within : length l.rest ≤ length l.units;
}

abbrev pub decreases-loop-left : goal.decreases-loop-left
decreases-loop-left l = length l.rest
