use Rattle.std.proofs.Common.{◌≡◌, ◌+◌, ◌≤◌, length}
use Rattle.column_encodings.specs.Columns.{length_in}
use Rattle.column_encodings.proofs.past_characters.Given as goal

abbrev pub invariant-loop-step : goal.invariant-loop-step
invariant-loop-step l = record {
  counted : l.length + length_in l.encoding l.rest ≡ length_in l.encoding l.units;
  fewer : l._step + length l.rest ≤ length l.units;
}
