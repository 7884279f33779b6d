use Rattle.std.proofs.Common.{◌≡◌, ◌+◌, ◌-◌, ◌≤◌, length, option_map}
use Rattle.column_encodings.specs.Columns.{offset_of}
use Rattle.column_encodings.proofs.past_columns.Given as goal

abbrev pub invariant-loop-step : goal.invariant-loop-step
invariant-loop-step l = record {
  offset : option_map (λ offset. length l.units - length l.rest + offset) (offset_of l.encoding l.rest l.left)
      ≡ offset_of l.encoding l.units l.column;
  fewer : l._step + length l.rest ≤ length l.units;
  first : l._step ≡ 0 → l.left ≡ l.column;
}
