use Rattle.std.proofs.Common.{◌≡◌, ◌+◌, length}
use Rattle.column_encodings.specs.Columns.{length_in}
use Rattle.column_encodings.proofs.length_in.Given as goal

abbrev pub invariant-loop-rest : goal.invariant-loop-rest
invariant-loop-rest l = l.length + length_in l.encoding l.rest ≡ length_in l.encoding l.units

abbrev pub decreases-loop-rest : goal.decreases-loop-rest
decreases-loop-rest l = length l.rest
