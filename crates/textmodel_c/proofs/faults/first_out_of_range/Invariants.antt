use Rattle.std.proofs.Common.{take}
use Rattle.model_group.specs.State.{documents}
use Rattle.textmodel_c.specs.Faults.{has_bad_span}
use Rattle.textmodel_c.proofs.OutOfRange.{AreInRange}
use Rattle.textmodel_c.proofs.faults.first_out_of_range.Given as goal

abbrev pub invariant-loop-i : goal.invariant-loop-i
invariant-loop-i l = AreInRange (has_bad_span (documents l.contents.session.group)) l.left l.rest (take l.i l.ops)
