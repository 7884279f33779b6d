use Rattle.std.proofs.Common.{◌↔◌, length}
use Rattle.unit_text.specs.declared.kind.Kind.TheVariants.{Crlf}
use Rattle.unit_text.specs.Kinds.{IsOfKind}
use Rattle.unit_text.proofs.kind.has_pairs_alone.Given as goal

abbrev pub invariant-loop-unit : goal.invariant-loop-unit
invariant-loop-unit l = IsOfKind Crlf l.rest ↔ IsOfKind Crlf l.fn.units

abbrev pub decreases-loop-unit : goal.decreases-loop-unit
decreases-loop-unit l = length l.rest
